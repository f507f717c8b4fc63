-- The list has the replies of the actors so far.
use Rattle.std.proofs.Common.{◌≡◌}
use Rattle.qfs_nodes.specs.Actors.{actors_of, lines_of_actors}
use Rattle.qfs_nodes.proofs.ending.all_replies.Given as goal

abbrev pub invariant-loop-actor : goal.invariant-loop-actor
invariant-loop-actor l = l.replies ≡ lines_of_actors (actors_of l.yielded)
