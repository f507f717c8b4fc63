-- What the check leaves to show of `leases::Leases::give`.
use Rattle.std.proofs.Common.{ap, ◌∙◌}
use Rattle.qfs_model_meta.specs.Leases.{give_lease}
use Rattle.qfs_lease.specs.LiveLeases.{LiveLeases}
use Rattle.qfs_lease.proofs.leases.Leases.give.Goals as goal

pub returns-clause-leases : goal.returns-clause-leases
unfolding give_lease
returns-clause-leases c =
    c.put.ensures.leases
    ∙ ap (λ (it : LiveLeases). give_lease it.next c.args.actor c.args.file c.args.until
    c.args.self.now.leases) c.self.view_is
