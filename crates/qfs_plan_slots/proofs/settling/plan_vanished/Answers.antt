-- What the check leaves to show of `settling::plan_vanished`.
use Rattle.std.proofs.Common.{◌∙◌, ap, refl, sym}
use Rattle.qfs_model_meta.specs.Leases.{holds_lease}
use Rattle.qfs_plan_slots.proofs.Ended.{vanished}
use Rattle.qfs_plan_slots.proofs.settling.plan_vanished.Goals as goal

pub returns : goal.returns
returns c =
    vanished c.args.state.now.image c.args.actor c.args.id c.args.version c.args.lease
    c.holds-holds.result _
    (ap (holds_lease c.args.actor c.args.lease) (sym c.leases.ensures.leases)
    ∙ sym c.holds-holds.ensures)
    c.in_ok-changes.ensures refl
