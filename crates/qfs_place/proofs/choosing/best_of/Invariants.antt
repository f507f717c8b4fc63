use Rattle.std.proofs.Common.{◌≡◌, ◌+◌, drop}
use Rattle.std.specs.List.{reduce}
use Rattle.qfs_model_meta.specs.Placing.{open_servers}
use Rattle.qfs_place.specs.Choosing.{better_of}
use Rattle.qfs_place.proofs.ChoiceLaws.{best_from, open_from}
use Rattle.qfs_place.proofs.choosing.best_of.Given as goal

-- the servers that are left are still to be looked at
abbrev pub invariant-loop-at : goal.invariant-loop-at
invariant-loop-at l =
    best_from l.wanted l.best (open_from l.barred (l.at + 1) (drop l.at l.loads))
    ≡ reduce (better_of l.wanted) (open_servers l.barred l.loads)
