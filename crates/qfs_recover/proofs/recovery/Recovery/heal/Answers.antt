use Rattle.qfs_model_actor.specs.Recover.{heal_work}
use Rattle.qfs_recover.proofs.recovery.Recovery.heal.Goals as goal

pub returns-clause-rest : goal.returns-clause-rest
unfolding heal_work
returns-clause-rest c = c.heal_on-stage.ensures.rest
