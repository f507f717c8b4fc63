use Rattle.qfs_model_actor.specs.Actor.{after_reply}
use Rattle.qfs_actors.proofs.actor_model.model_after.Given as goal

abbrev pub ghost-of : goal.ghost-of
ghost-of a = after_reply a.first.now.value a.second.now
