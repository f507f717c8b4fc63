use Rattle.std.proofs.Common.{refl}
use Rattle.qfs_model_actor.specs.Work.{goes_on}
use Rattle.qfs_move.specs.Rest.{rest_of_move}
use Rattle.qfs_move.proofs.turn.stage_after.Goals as goal

pub returns-in-Ended-clause-rest : goal.returns-in-Ended-clause-rest
unfolding rest_of_move goes_on
returns-in-Ended-clause-rest c = rw c.in-Ended.is refl
