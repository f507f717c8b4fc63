use Rattle.std.proofs.Common.{refl, arith}
use lib.Count.{ones}
use Rattle.qfs_files_tests.proofs.rows.empty_script.Goals as goal

pub invariant_of-result : goal.invariant_of-result
unfolding ones
invariant_of-result c = ((omega arith, omega arith, refl), (omega arith, omega arith))
