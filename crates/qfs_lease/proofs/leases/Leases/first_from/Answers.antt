-- What the check leaves to show of `leases::Leases::first_from`.
use Rattle.std.proofs.Common.{◌<◌, ap, sym, subst, ◌∙◌}
use Rattle.std.specs.Option.{option_copied}
use Rattle.std.specs.Prelude.{ℕ}
use Rattle.qfs_base.specs.declared.image.Lease.{Lease}
use Rattle.qfs_base.specs.Table.{has_key}
use Rattle.qfs_laws_tables.specs.EachRow.{found_has}
use Rattle.qfs_lease.specs.IndexKeys.{from_order}
use Rattle.qfs_lease.specs.LiveLeases.{LiveLeases}
use Rattle.qfs_lease.proofs.leases.Leases.first_from.Goals as goal

pub returns-clause-below : goal.returns-clause-below
returns-clause-below c =
    let below : c.in_ok-row.row.now.lease < c.self.inside.next =
    (found_has (λ (lease : Lease). lease.lease < c.self.inside.next)
    (has_key (from_order c.args.from)) c.self.inside.by_number.rows c.in_ok-row.row.now
    (sym c.get.ensures ∙ ap option_copied c.in_ok-row.was) c.self.invariant.numbers).0 in
    subst (λ (lease : Lease). lease.lease < c.args.self.now.next) (sym c.lease.ensures)
    (subst (λ (next : ℕ). c.in_ok-row.row.now.lease < next)
    (ap (λ (it : LiveLeases). it.next) c.self.view_is) below)
