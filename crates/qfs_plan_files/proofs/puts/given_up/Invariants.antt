-- What the loop of `puts::given_up` keeps.
use Rattle.std.proofs.Common.{◌≡◌, ◌++◌, map}
use Rattle.qfs_plan_files.specs.Losing.{given_up}
use Rattle.qfs_plan_files.proofs.puts.given_up.Given as goal

-- the changes so far and those of the rows that are left are all
abbrev pub invariant-loop-row : goal.invariant-loop-row
invariant-loop-row l = l.changes.items ++ map given_up l.row-iterator ≡ map given_up l.fn.rows
