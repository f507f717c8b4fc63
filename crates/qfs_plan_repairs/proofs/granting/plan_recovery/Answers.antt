-- What the check leaves to show of `granting::plan_recovery`.
use Rattle.std.proofs.Common.{IfOk, IfErr, subst}
use Rattle.qfs_model_meta.specs.LeasedGrants.{grant_chosen, grant_recovery}
use Rattle.qfs_state.specs.Planning.{IsPlan, IsUnplanned}
use Rattle.qfs_plan_repairs.proofs.granting.plan_recovery.Goals as goal

pub returns-clause-ok : goal.returns-clause-ok
unfolding grant_recovery
returns-clause-ok c =
    subst (λ sources. IfOk c.plan_chosen.result (IsPlan c.args.state.now.image
    (grant_chosen c.args.layout.now c.args.term c.args.actor c.args.id.block c.args.id.slot
    sources c.args.state.now.image))) c.in_ok-sources.ensures c.plan_chosen.ensures.ok

pub returns-clause-err : goal.returns-clause-err
unfolding grant_recovery
returns-clause-err c =
    subst (λ sources. IfErr c.plan_chosen.result (IsUnplanned
    (grant_chosen c.args.layout.now c.args.term c.args.actor c.args.id.block c.args.id.slot
    sources c.args.state.now.image))) c.in_ok-sources.ensures c.plan_chosen.ensures.err
