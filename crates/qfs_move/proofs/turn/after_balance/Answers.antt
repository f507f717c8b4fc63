use Rattle.qfs_model_actor.specs.Move.{after_balance_next}
use Rattle.qfs_move.specs.Rest.{done_of, failed_of}
use Rattle.qfs_move.proofs.turn.after_balance.Goals as goal

pub returns-in-Granted-clause-rest : goal.returns-in-Granted-clause-rest
unfolding after_balance_next done_of failed_of
returns-in-Granted-clause-rest c = rw c.in-Granted.is c.begin.ensures.rest
