use Rattle.std.proofs.Common.{◌≡◌, ◌∙◌, ap, sym, subst}
use Rattle.qfs_model_meta.specs.Apply.{apply}
use Rattle.qfs_base.specs.declared.change.Change.TheVariants.{EndLease}
use Rattle.qfs_model_meta.specs.Leases.{holds_lease}
use Rattle.qfs_model_meta.specs.Step.{next_turn}
use Rattle.qfs_meta.specs.Kept.{IsKept}
use Rattle.qfs_meta.proofs.LoadLaws.{lease_ended}
use Rattle.qfs_meta.proofs.GetLaws.{release-gone, release-made}
use Rattle.qfs_meta.proofs.KeptLaws.{kept-release}
use Rattle.qfs_meta.proofs.gets.release.Goals as goal

pub returns-then-not-holds_lease-clause-served : goal.returns-then-not-holds_lease-clause-served
returns-then-not-holds_lease-clause-served c =
    release-gone c.args.actor c.args.lease c.args.image.now
    (ap (holds_lease c.args.actor c.args.lease) (sym c.as_slice.ensures) ∙ sym c.holds_lease.ensures ∙ c.if-not-holds_lease.true)

made : (c : goal.After-raise_turn) → c.raise_turn.new.image ≡ next_turn (apply c.args.image.now (EndLease c.args.lease))
made c = c.raise_turn.ensures ∙ ap next_turn c.finish_lease.ensures

pub returns-clause-kept : goal.returns-clause-kept
returns-clause-kept c = subst IsKept (sym (made c)) (kept-release c.args.image.now c.args.lease c.requires)

pub returns-clause-served : goal.returns-clause-served
returns-clause-served c =
    release-made c.args.actor c.args.lease c.args.image.now _ _ c.next_place-place.ensures
    (ap (holds_lease c.args.actor c.args.lease) (sym c.as_slice.ensures) ∙ sym c.holds_lease.ensures ∙ c.if-not-holds_lease.false)
    (made c) (returns-clause-kept c)

pub returns-clause-loads : goal.returns-clause-loads
returns-clause-loads c = lease_ended c.args.image.now c.raise_turn.new.image c.args.lease (made c)
