-- What the loop of `lists::record_rows` keeps.
use Rattle.std.proofs.Common.{◌≡◌, ◌++◌}
use Rattle.std.specs.Vec.Iter.{into_iter_items}
use Rattle.qfs_blocks.proofs.lists.record_rows.Given as goal

-- the rows so far and those to come are all
abbrev pub invariant-loop-row : goal.invariant-loop-row
invariant-loop-row l = l.rows.items ++ into_iter_items l.row-iterator ≡ l.fn.list
