use Rattle.std.proofs.Common.{◌+◌, ◌-◌, ◌*◌, ◌≤◌, length}
use Rattle.qfs_reader.specs.Parts.{AddsCut}
use Rattle.qfs_reader.proofs.Rowwise.{joined, stripe_in}
use Rattle.qfs_reader.proofs.parts.add_row.Given as goal

abbrev pub invariant-loop-slot : goal.invariant-loop-slot
invariant-loop-slot l =
    record {
      got : AddsCut l.from l.to l.start (joined (stripe_in l.stripe l.size l.nine l.row) l.slot) l.initial.got l.got;
      bound : length l.got ≤ l.start + l.slot * l.stripe - l.from;
    }
