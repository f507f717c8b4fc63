use Rattle.std.proofs.Common.{◌≡◌, ◌+◌, drop, None}
use Rattle.std.specs.Option.{IfSome}
use Rattle.qfs_meta.specs.Candidates.{IsCandidate, best_from}
use Rattle.qfs_meta.proofs.census.choose.Given as goal

-- the servers that are left are still to be looked at
abbrev pub invariant-loop-at : goal.invariant-loop-at
invariant-loop-at l =
    (best_from l.left_out l.barred l.best (l.at + 1) (drop l.at l.servers) (drop l.at l.loads) ≡ best_from l.left_out l.barred None 1 l.servers l.loads)
    × IfSome l.best IsCandidate
