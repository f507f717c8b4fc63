use Rattle.std.proofs.Common.{◌≡◌, [], drop}
use Rattle.qfs_image.specs.Files.{with_leases}
use Rattle.qfs_image.proofs.files.blocking_of.Given as goal

abbrev pub invariant-loop-lease : goal.invariant-loop-lease
invariant-loop-lease l = with_leases l.blocking (drop l.lease-index l.leases) ≡ with_leases [] l.leases
