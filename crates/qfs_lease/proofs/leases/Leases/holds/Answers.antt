-- What the check leaves to show of `leases::Leases::holds`.
use Rattle.std.proofs.Common.{ap, sym, ◌∙◌, ◌==◌}
use Rattle.std.specs.Option.{option_copied}
use Rattle.qfs_base.specs.declared.image.Lease.{Lease}
use Rattle.qfs_model_meta.specs.Leases.{holds_lease, is_lease}
use Rattle.qfs_lease.specs.LiveLeases.{LiveLeases}
use Rattle.qfs_lease.proofs.LeaseLaws.{held_as_found, held_by_none}
use Rattle.qfs_lease.proofs.leases.Leases.holds.Goals as goal

pub returns-in-Some : goal.returns-in-Some
unfolding is_lease
returns-in-Some c =
    let seen = ap (λ (it : LiveLeases). holds_lease c.args.actor c.args.lease it.leases)
    c.self.view_is in
    ap (λ (lease : Lease). lease.actor == c.args.actor) c.lease.ensures
    ∙ held_as_found c.args.actor c.args.lease c.in-Some.row.now c.self.inside.by_number.rows
    c.self.invariant.in_order (sym c.get.ensures ∙ ap option_copied c.in-Some.is)
    ∙ seen

pub returns-in-None : goal.returns-in-None
unfolding is_lease
returns-in-None c =
    let seen = ap (λ (it : LiveLeases). holds_lease c.args.actor c.args.lease it.leases)
    c.self.view_is in
    held_by_none c.args.actor c.args.lease c.self.inside.by_number.rows
    (sym c.get.ensures ∙ ap option_copied c.in-None.is) ∙ seen
