use Rattle.qfs_model_actor.specs.Move.{rebalance_work}
use Rattle.qfs_move.proofs.mover.Mover.rebalance.Goals as goal

pub returns-clause-rest : goal.returns-clause-rest
unfolding rebalance_work
returns-clause-rest c = c.balance_on-stage.ensures.rest
