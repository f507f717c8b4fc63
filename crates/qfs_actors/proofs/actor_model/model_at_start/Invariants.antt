use Rattle.qfs_model_actor.specs.Actor.{starting}
use Rattle.qfs_actors.proofs.actor_model.model_at_start.Given as goal

abbrev pub ghost-of : goal.ghost-of
ghost-of a = starting a.first.now.rules a.first.now.number a.second.now
