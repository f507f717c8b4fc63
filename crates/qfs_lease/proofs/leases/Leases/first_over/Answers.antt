-- What the check leaves to show of `leases::Leases::first_over`.
use Rattle.std.proofs.Common.{◌≡◌, true, ap, sym, subst, ◌∙◌}
use Rattle.std.specs.Option.{option_copied, IfNone}
use Rattle.qfs_base.specs.Table.{without}
use Rattle.qfs_model_meta.specs.Leases.{has_run_out, is_live_lease}
use Rattle.qfs_lease.specs.LiveLeases.{AllRunOut, LiveLeases}
use Rattle.qfs_lease.proofs.LookLaws.{over_all, over_live, over_none}
use Rattle.qfs_lease.proofs.leases.Leases.first_over.Goals as goal

pub returns-in_err-row-clause-none : goal.returns-in_err-row-clause-none
returns-in_err-row-clause-none c =
    subst (λ leases. IfNone c.from_residual.result
    (without (has_run_out c.args.clock) leases ≡ leases))
    (ap (λ (it : LiveLeases). it.leases) c.self.view_is)
    (rw c.from_residual.ensures
    (over_none c.args.clock c.self.inside.by_end.rows c.self.inside.by_number.rows
    c.self.invariant.ends (sym c.get.ensures ∙ ap option_copied c.in_err-row.was)))

pub returns-clause-live : goal.returns-clause-live
returns-clause-live c =
    subst (λ leases. is_live_lease c.in_ok-row.row.now.lease leases ≡ true)
    (ap (λ (it : LiveLeases). it.leases) c.self.view_is)
    (over_live c.args.clock c.self.inside.by_end.rows c.self.inside.by_number.rows
    c.self.invariant.ends c.in_ok-row.row.now
    (sym c.get.ensures ∙ ap option_copied c.in_ok-row.was))

pub returns-clause-over : goal.returns-clause-over
returns-clause-over c =
    subst (AllRunOut c.args.clock c.in_ok-row.row.now.lease)
    (ap (λ (it : LiveLeases). it.leases) c.self.view_is)
    (over_all c.args.clock c.self.inside.by_end.rows c.self.inside.by_number.rows
    c.self.invariant.ends c.in_ok-row.row.now c.self.invariant.in_order
    (sym c.get.ensures ∙ ap option_copied c.in_ok-row.was))
