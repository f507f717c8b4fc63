-- What the check leaves to show of `live_on` of `Leases`.
use Rattle.std.proofs.Common.{ap, ◌∙◌}
use Rattle.std.specs.Option.{is_some}
use Rattle.qfs_lease.specs.LiveLeases.{LiveLeases, is_held_below}
use Rattle.qfs_lease.proofs.LookLaws.{held_below}
use Rattle.qfs_lease.proofs.RowLaws.{some_copied}
use Rattle.qfs_lease.proofs.leases.LeasesLeaseView.live_on.Goals as goal

pub returns : goal.returns
returns c =
    let seen = ap (λ (it : LiveLeases). is_held_below c.args.file c.args.below it.leases)
    c.self.view_is in
    c.is_some.ensures ∙ some_copied c.get.result ∙ ap is_some c.get.ensures
    ∙ held_below c.args.file c.args.below c.self.inside.by_file.rows c.self.inside.by_number.rows
    c.self.invariant.files
    ∙ seen
