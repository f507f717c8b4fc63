use Rattle.qfs_galois.specs.Lanes.{IsWritten, scaled_sum}
use Rattle.qfs_galois.proofs.sums.add_scaled.Given as goal

abbrev pub invariant-loop-i : goal.invariant-loop-i
invariant-loop-i l = IsWritten (scaled_sum l.c l.fn.dst l.src) l.fn.dst l.dst l.i
