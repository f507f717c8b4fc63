use Rattle.std.proofs.Common.{◌*◌}
use Rattle.qfs_galois.specs.Lanes.{IsWritten, scaled_sum}
use Rattle.qfs_galois.proofs.sums.add_by_tables.Given as goal

abbrev pub invariant-loop-k : goal.invariant-loop-k
invariant-loop-k l = IsWritten (scaled_sum l.c l.fn.dst l.src) l.fn.dst l.dst (l.k * 16)
