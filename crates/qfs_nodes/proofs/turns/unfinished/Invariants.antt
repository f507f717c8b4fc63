-- The list has the unfinished actors so far.
use Rattle.std.proofs.Common.{◌≡◌, take}
use Rattle.qfs_model_world.specs.Fits.{unfinished}
use Rattle.qfs_nodes.specs.Actors.{actors_of}
use Rattle.qfs_nodes.proofs.turns.unfinished.Given as goal

abbrev pub invariant-loop-actor : goal.invariant-loop-actor
invariant-loop-actor l = l.turn ≡ unfinished (actors_of (take l.actor-index l.actors))
