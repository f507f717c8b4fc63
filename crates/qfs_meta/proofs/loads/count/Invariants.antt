use Rattle.std.proofs.Common.{◌≡◌, ◌++◌, take, drop}
use Rattle.qfs_meta.specs.Loads.{loads_of}
use Rattle.qfs_meta.proofs.loads.count.Given as goal

-- the loads so far are with the rows
abbrev pub invariant-loop-at : goal.invariant-loop-at
invariant-loop-at l =
    l.loads ≡ take l.at (loads_of l.servers l.slots) ++ drop l.at (loads_of l.servers (take l.fn.run.start l.slots ++ drop l.fn.run.end l.slots))
