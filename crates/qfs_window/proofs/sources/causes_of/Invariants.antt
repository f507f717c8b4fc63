use Rattle.std.proofs.Common.{◌≡◌}
use Rattle.qfs_window.proofs.Passing.{causes_below}
use Rattle.qfs_window.proofs.sources.causes_of.Given as goal

abbrev pub invariant-loop-slot : goal.invariant-loop-slot
invariant-loop-slot l = l.causes ≡ causes_below l.sources l.slot
