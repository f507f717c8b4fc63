-- The front of the text was written, and the count hasn't fallen.
use Rattle.std.proofs.Common.{◌≤◌, ◌-◌, length, take}
use Rattle.qfs_device.specs.Stream.{Appends}
use Rattle.qfs_device.proofs.whole.write_all.Given as goal

abbrev pub invariant-loop-done : goal.invariant-loop-done
invariant-loop-done g l =
    let written = g.K.Sink.written in
    let faults = g.K.Sink.faults in
    (l.done ≤ length l.bytes) × Appends (take l.done l.bytes) (written l.initial.sink) (written l.sink) × (faults l.initial.sink ≤ faults l.sink)

abbrev pub decreases-loop-done : goal.decreases-loop-done
decreases-loop-done g l = length l.bytes - l.done
