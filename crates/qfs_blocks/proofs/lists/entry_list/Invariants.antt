-- What the loop of `lists::entry_list` keeps.
use Rattle.std.proofs.Common.{◌≡◌, ◌++◌}
use Rattle.qfs_blocks.proofs.lists.entry_list.Given as goal

-- the rows so far and those to come are all
abbrev pub invariant-loop-row : goal.invariant-loop-row
invariant-loop-row l = l.list ++ l.row-iterator ≡ l.fn.rows
