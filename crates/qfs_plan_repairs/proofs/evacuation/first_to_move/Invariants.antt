-- What the loop of `evacuation::first_to_move` keeps.
use Rattle.std.proofs.Common.{◌≡◌, find, filter}
use Rattle.qfs_blocks.specs.Records.{is_after}
use Rattle.qfs_model_meta.specs.MoveRequests.{is_to_move}
use Rattle.qfs_plan_repairs.proofs.evacuation.first_to_move.Given as goal

-- the rows that are left decide
abbrev pub invariant-loop-row : goal.invariant-loop-row
invariant-loop-row l =
    find (is_to_move l.layout l.server l.state.image)
    (filter (is_after l.fn.after) l.state.image.slots)
    ≡ find (is_to_move l.layout l.server l.state.image) l.row-iterator
