-- What the check leaves to show of `leases::Leases::look`.
use Rattle.std.proofs.Common.{ap, sym, ◌∙◌, Some, find}
use Rattle.std.specs.Option.{option_copied, option_map}
use Rattle.qfs_model_meta.specs.Leases.{is_lease}
use Rattle.qfs_lease.specs.LiveLeases.{LiveLeases, holder_of}
use Rattle.qfs_lease.proofs.leases.Leases.look.Goals as goal

pub returns-in_err-get : goal.returns-in_err-get
unfolding is_lease
returns-in_err-get c =
    let seen = ap (λ (it : LiveLeases). find (is_lease c.args.lease) it.leases) c.self.view_is in
    c.from_residual.ensures
    ∙ ap (option_map holder_of) (sym (ap option_copied c.in_err-get.was) ∙ c.get.ensures ∙ seen)

pub returns : goal.returns
unfolding is_lease
returns c =
    let seen = ap (λ (it : LiveLeases). find (is_lease c.args.lease) it.leases) c.self.view_is in
    ap (λ lease. Some (holder_of lease)) c.lease-lease.ensures
    ∙ ap (option_map holder_of) (sym (ap option_copied c.in_ok-get.was) ∙ c.get.ensures ∙ seen)
