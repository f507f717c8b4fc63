-- What the check leaves to show of `moves::plan_listed`.
use Rattle.std.proofs.Common.{◌∙◌, subst, sym}
use Rattle.qfs_model_meta.specs.LeasedGrants.{grant_leased}
use Rattle.qfs_planning.specs.Deciding.{unless_false, unless_true}
use Rattle.qfs_state.specs.Planning.{IsPlan}
use Rattle.qfs_plan_repairs.proofs.moves.plan_listed.Goals as goal

pub returns-then-not-may_get-clause-err : goal.returns-then-not-may_get-clause-err
returns-then-not-may_get-clause-err c =
    unless_false _ _ _ (sym c.may_get.ensures ∙ c.if-not-may_get.true)

pub returns-clause-ok : goal.returns-clause-ok
returns-clause-ok c =
    subst (λ decision. IsPlan c.args.state.now.image decision c.in_ok-plan.plan)
    (sym (unless_true _ _ _ (sym c.may_get.ensures ∙ c.if-not-may_get.false)))
    (subst (λ sources. IsPlan c.args.state.now.image
    (grant_leased c.args.layout.now c.args.term c.args.actor c.args.id.block c.args.id.slot
    sources c.args.state.now.image c.args.to) c.in_ok-plan.plan) c.in_ok-sources.ensures
    c.in_ok-plan.ensures)
