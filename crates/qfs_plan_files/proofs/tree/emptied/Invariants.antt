-- What the loop of `tree::emptied` keeps.
use Rattle.std.proofs.Common.{◌≡◌, ◌++◌, map}
use Rattle.qfs_plan_files.specs.Losing.{emptied}
use Rattle.qfs_plan_files.proofs.tree.emptied.Given as goal

-- the changes so far and those of the rows that are left are all
abbrev pub invariant-loop-row : goal.invariant-loop-row
invariant-loop-row l = l.changes.items ++ map emptied l.row-iterator ≡ map emptied l.fn.rows
