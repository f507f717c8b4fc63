use Rattle.qfs_model_actor.specs.Recover.{after_heal_next}
use Rattle.qfs_recover.specs.Rest.{done_of, failed_of}
use Rattle.qfs_recover.proofs.turn.after_heal.Goals as goal

pub returns-in-Granted-clause-rest : goal.returns-in-Granted-clause-rest
unfolding after_heal_next done_of failed_of
returns-in-Granted-clause-rest c = rw c.in-Granted.is c.begin.ensures.rest
