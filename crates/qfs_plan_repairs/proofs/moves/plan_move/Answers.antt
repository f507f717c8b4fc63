-- What the check leaves to show of `moves::plan_move`.
use Rattle.std.proofs.Common.{◌∙◌, IfOk, IfErr, ap, subst, sym}
use Rattle.qfs_base.specs.NameTree.{look_refusal}
use Rattle.qfs_model_meta.specs.MoveRequests.{decide_move}
use Rattle.qfs_model_meta.specs.TreeRows.{standing}
use Rattle.qfs_state.specs.Planning.{IsPlan, IsUnplanned}
use Rattle.qfs_plan_repairs.proofs.Refusals.{path_some, path_none}
use Rattle.qfs_plan_repairs.proofs.moves.plan_move.Goals as goal

pub returns-in-Some-clause-err : goal.returns-in-Some-clause-err
unfolding decide_move
returns-in-Some-clause-err c =
    path_some _ _ c.in-Some.refusal
    (ap (λ tree. look_refusal (standing tree) c.args.path.now) (sym c.names.ensures.tree)
    ∙ sym c.look_refusal.ensures ∙ c.in-Some.is)

pub returns-in-None-clause-ok : goal.returns-in-None-clause-ok
unfolding decide_move
returns-in-None-clause-ok c =
    subst (λ decision. IfOk c.plan_in_file.result (IsPlan c.args.state.now.image decision))
    (sym (path_none _ _
    (ap (λ tree. look_refusal (standing tree) c.args.path.now) (sym c.names.ensures.tree)
    ∙ sym c.look_refusal.ensures ∙ c.in-None.is))) c.plan_in_file.ensures.ok

pub returns-in-None-clause-err : goal.returns-in-None-clause-err
unfolding decide_move
returns-in-None-clause-err c =
    subst (λ decision. IfErr c.plan_in_file.result (IsUnplanned decision))
    (sym (path_none _ _
    (ap (λ tree. look_refusal (standing tree) c.args.path.now) (sym c.names.ensures.tree)
    ∙ sym c.look_refusal.ensures ∙ c.in-None.is))) c.plan_in_file.ensures.err
