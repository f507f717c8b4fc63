-- A power of two in the range of stripes.
use Rattle.std.proofs.Common.{arith, refl}
use lib.Count.{ones}
use Rattle.qfs_store_tests.proofs.servers.other_stripe.Goals as goal

pub returns : goal.returns
unfolding ones
returns c = (omega arith, omega arith, refl)
