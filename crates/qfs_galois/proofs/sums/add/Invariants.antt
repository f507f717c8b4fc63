use Rattle.std.proofs.Common.{◌*◌}
use Rattle.qfs_galois.specs.Lanes.{IsWritten, added}
use Rattle.qfs_galois.proofs.sums.add.Given as goal

abbrev pub invariant-loop-k : goal.invariant-loop-k
invariant-loop-k l = IsWritten (added l.fn.dst l.src) l.fn.dst l.dst (l.k * 16)

abbrev pub invariant-loop-i : goal.invariant-loop-i
invariant-loop-i l = IsWritten (added l.fn.dst l.src) l.fn.dst l.dst l.i
