-- What the loop of `list` keeps.
use Rattle.std.proofs.Common.{◌≡◌, ◌++◌}
use Rattle.qfs_lease.proofs.leases.Leases.list.Given as goal

-- the leases so far and those to come are all
abbrev pub invariant-loop-row : goal.invariant-loop-row
invariant-loop-row l = l.list ++ l.row-iterator ≡ l.self.leases
