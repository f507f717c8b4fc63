use Rattle.std.proofs.Common.{◌≡◌, true, take}
use Rattle.std.specs.Prelude.{nat_lt}
use Rattle.std.specs.List.{list_all}
use Rattle.qfs_base.specs.declared.image.Lease.{Lease}
use Rattle.qfs_image.proofs.rules.are_below.Given as goal

abbrev pub invariant-loop-lease : goal.invariant-loop-lease
invariant-loop-lease l = list_all (λ (lease : Lease). nat_lt lease.lease l.next_lease) (take l.lease-index l.leases) ≡ true
