-- What the check leaves to show of `granting::plan_chosen`.
use Rattle.std.proofs.Common.{◌∙◌, subst, sym}
use Rattle.qfs_planning.specs.Deciding.{need_none, need_some}
use Rattle.qfs_state.specs.Planning.{IsPlan}
use Rattle.qfs_plan_slots.proofs.granting.plan_chosen.Goals as goal

pub returns-in-None-clause-err : goal.returns-in-None-clause-err
returns-in-None-clause-err c =
    need_none _ _ _ (sym c.chosen_for_put.ensures.chosen ∙ c.in-None.is)

pub returns-in_ok-plan-in-Some-clause-ok : goal.returns-in_ok-plan-in-Some-clause-ok
returns-in_ok-plan-in-Some-clause-ok c =
    subst (λ decision. IsPlan c.args.state.now.image decision c.in_ok-plan-in-Some.plan)
    (sym (need_some _ _ _ c.in-Some.server
    (sym c.chosen_for_put.ensures.chosen ∙ c.in-Some.is)))
    c.in_ok-plan-in-Some.ensures
