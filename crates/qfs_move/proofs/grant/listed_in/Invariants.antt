use Rattle.std.proofs.Common.{◌≡◌, take}
use Rattle.qfs_move.specs.Sources.{listed_in}
use Rattle.qfs_move.proofs.grant.listed_in.Given as goal

abbrev pub invariant-loop-slot : goal.invariant-loop-slot
invariant-loop-slot l = l.seen ≡ listed_in (take l.slot l.nine)
