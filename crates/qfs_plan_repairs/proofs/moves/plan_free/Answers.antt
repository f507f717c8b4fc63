-- What the check leaves to show of `moves::plan_free`.
use Rattle.std.proofs.Common.{◌∙◌, IfOk, IfErr, subst, sym}
use Rattle.qfs_planning.specs.Deciding.{unless_false, unless_true}
use Rattle.qfs_state.specs.Planning.{IsPlan, IsUnplanned}
use Rattle.qfs_plan_repairs.proofs.moves.plan_free.Goals as goal

pub returns-then-not-can_read-clause-err : goal.returns-then-not-can_read-clause-err
returns-then-not-can_read-clause-err c =
    unless_false _ _ _ (sym c.can_read.ensures ∙ c.if-not-can_read.true)

pub returns-clause-ok : goal.returns-clause-ok
returns-clause-ok c =
    subst (λ decision. IfOk c.plan_listed.result (IsPlan c.args.state.now.image decision))
    (sym (unless_true _ _ _ (sym c.can_read.ensures ∙ c.if-not-can_read.false)))
    c.plan_listed.ensures.ok

pub returns-clause-err : goal.returns-clause-err
returns-clause-err c =
    subst (λ decision. IfErr c.plan_listed.result (IsUnplanned decision))
    (sym (unless_true _ _ _ (sym c.can_read.ensures ∙ c.if-not-can_read.false)))
    c.plan_listed.ensures.err
