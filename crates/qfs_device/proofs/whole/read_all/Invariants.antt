-- What was left at first is what was read and what is left, and the count hasn't fallen.
use Rattle.std.proofs.Common.{◌≡◌, ◌≤◌, ◌+◌, ◌-◌, length, is_some}
use Rattle.qfs_device.specs.Stream.{Gives}
use Rattle.qfs_device.proofs.whole.read_all.Given as goal

abbrev pub invariant-loop-piece : goal.invariant-loop-piece
invariant-loop-piece g l =
    let left = g.S.Source.left in
    let faults = g.S.Source.faults in
    Gives l.bytes (left l.initial.source) (left l.source) × (is_some (left l.source) ≡ is_some (left l.initial.source)) × (faults l.initial.source ≤ faults l.source)

abbrev pub decreases-loop-piece : goal.decreases-loop-piece
decreases-loop-piece g l = l.limit + 1 - length l.bytes
