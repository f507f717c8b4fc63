use Rattle.std.proofs.Common.{◌-◌, length}
use Rattle.qfs_checkpoint.specs.Reading.{HasRead}
use Rattle.qfs_checkpoint.proofs.reading.records_behind.Given as goal

abbrev pub invariant-loop-at : goal.invariant-loop-at
invariant-loop-at l = HasRead l.bytes l.start l.at l.records.items

abbrev pub decreases-loop-at : goal.decreases-loop-at
decreases-loop-at l = length l.bytes - l.at
