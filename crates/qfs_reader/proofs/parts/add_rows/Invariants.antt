use Rattle.std.proofs.Common.{◌+◌, ◌-◌, ◌*◌, ◌≤◌, length}
use Rattle.qfs_reader.specs.Parts.{rows_of_parts, AddsCut}
use Rattle.qfs_reader.proofs.parts.add_rows.Given as goal

abbrev pub invariant-loop-row : goal.invariant-loop-row
invariant-loop-row l =
    record {
      got : AddsCut l.from l.to l.start (rows_of_parts l.stripe l.size l.row l.nine) l.initial.got l.got;
      bound : length l.got ≤ l.start + l.row * (6 * l.stripe) - l.from;
    }
