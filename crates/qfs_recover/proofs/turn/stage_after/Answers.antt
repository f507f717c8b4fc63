use Rattle.std.proofs.Common.{refl}
use Rattle.qfs_model_actor.specs.Work.{goes_on}
use Rattle.qfs_recover.specs.Rest.{rest_of_recovery}
use Rattle.qfs_recover.proofs.turn.stage_after.Goals as goal

pub returns-in-Ended-clause-rest : goal.returns-in-Ended-clause-rest
unfolding rest_of_recovery goes_on
returns-in-Ended-clause-rest c = rw c.in-Ended.is refl
