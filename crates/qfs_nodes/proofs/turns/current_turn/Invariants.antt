-- No actor of the phases so far is unfinished.
use Rattle.std.proofs.Common.{◌≡◌, ◌≤◌, drop, length}
use Rattle.std.specs.Prelude.{map}
use Rattle.qfs_model_world.specs.Fits.{unfinished, first_filled}
use Rattle.qfs_nodes.specs.Actors.{actors_of, by_sizes, total}
use Rattle.qfs_nodes.proofs.turns.current_turn.Given as goal

abbrev pub invariant-loop-size : goal.invariant-loop-size
invariant-loop-size l = record {
  enough : total (drop l.size-index l.sizes) ≤ length l.rest;
  same : first_filled (map unfinished (by_sizes l.sizes (actors_of l.actors)))
      ≡ first_filled (map unfinished (by_sizes (drop l.size-index l.sizes) (actors_of l.rest)));
}
