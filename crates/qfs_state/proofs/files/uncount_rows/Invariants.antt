-- What the loop of `files::uncount_rows` keeps.
use Rattle.std.proofs.Common.{◌≡◌, fold}
use Rattle.qfs_place.specs.Loads.{uncount_row}
use Rattle.qfs_state.proofs.files.uncount_rows.Given as goal

-- with the rows to come taken off, the loads are what they are in the end
abbrev pub invariant-loop-row : goal.invariant-loop-row
invariant-loop-row l =
    fold (uncount_row l.servers) l.loads l.row-iterator
    ≡ fold (uncount_row l.servers) l.fn.loads l.fn.rows
