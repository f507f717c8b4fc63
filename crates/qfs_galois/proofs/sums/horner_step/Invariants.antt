use Rattle.std.proofs.Common.{◌*◌}
use Rattle.qfs_galois.specs.Field.{power}
use Rattle.qfs_galois.specs.Lanes.{IsWritten, stepped}
use Rattle.qfs_galois.proofs.sums.horner_step.Given as goal

abbrev pub invariant-loop-k : goal.invariant-loop-k
invariant-loop-k l = IsWritten (stepped (power 2 l.number) l.fn.sums l.part) l.fn.sums l.sums (l.k * 16)

abbrev pub invariant-loop-i : goal.invariant-loop-i
invariant-loop-i l = IsWritten (stepped (power 2 l.number) l.fn.sums l.part) l.fn.sums l.sums l.i
