use Rattle.std.proofs.Common.{refl}
use Rattle.qfs_model_actor.specs.Move.{rebalance_on}
use Rattle.qfs_move.specs.Rest.{report_of_move, rest_of_move}
use Rattle.qfs_move.proofs.step.balance_on.Goals as goal

pub returns-then-more-eq0-clause-rest : goal.returns-then-more-eq0-clause-rest
unfolding rest_of_move report_of_move rebalance_on
returns-then-more-eq0-clause-rest c = rw (c.balanced.ensures, c.if-more-eq0.true) refl
