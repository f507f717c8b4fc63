-- The actors so far are those of the phases so far.
use Rattle.std.proofs.Common.{◌≡◌, take}
use Rattle.std.specs.Prelude.{flat_map}
use Rattle.qfs_nodes.specs.Actors.{starts_from}
use Rattle.qfs_nodes.proofs.start.first_actors.Given as goal

abbrev pub invariant-loop-phase : goal.invariant-loop-phase
invariant-loop-phase l = l.actors.items ≡ starts_from l.rules 1 (flat_map (λ phase. phase) (take l.phase-index l.phases))
