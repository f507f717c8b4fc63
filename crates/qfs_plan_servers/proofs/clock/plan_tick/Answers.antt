-- What the check leaves to show of `clock::plan_tick`.
use Rattle.std.proofs.Common.{◌∙◌, ◌∷◌, map, ap}
use Rattle.qfs_base.specs.declared.reply.MetaReply.TheVariants.{Clock}
use Rattle.qfs_base.specs.Sizes.{LAST_U64}
use Rattle.qfs_model_meta.specs.Counters.{risen}
use Rattle.qfs_model_meta.specs.Leases.{leases_over}
use Rattle.qfs_state.specs.declared.prepared.Prepared.TheVariants.{ClockTicks, EndLease}
use Rattle.qfs_plan_servers.proofs.Plans.{tick_plan}
use Rattle.qfs_plan_servers.proofs.clock.plan_tick.Goals as goal

pub returns-clause-ok : goal.returns-clause-ok
returns-clause-ok c =
    let now = c.next_reading-now.ensures ∙ ap (risen LAST_U64) c.clock.ensures in
    let leases = c.rows.ensures ∙ c.leases.ensures.leases in
    tick_plan c.args.state.now.image _
    (c.in_ok-changes.ensures ∙ (λ i. ClockTicks ∷ map EndLease (leases_over (now i) (leases i))))
    (ap Clock now)
