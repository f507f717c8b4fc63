-- What the loop of `put_at_once` keeps.
use Rattle.std.proofs.Common.{◌-◌, ◌≤◌}
use Rattle.qfs_bench_table.proofs.put_at_once.Given as goal

-- what is still to be put in has room
abbrev pub invariant-loop-at : goal.invariant-loop-at
invariant-loop-at l = l.count - l.at ≤ l.table.spare
