use Rattle.std.proofs.Common.{refl}
use Rattle.qfs_model_actor.specs.Move.{evacuate_on}
use Rattle.qfs_move.specs.Rest.{rest_of_move}
use Rattle.qfs_move.proofs.step.evacuate_on.Goals as goal

pub returns-then-more-eq0-clause-rest : goal.returns-then-more-eq0-clause-rest
unfolding rest_of_move evacuate_on
returns-then-more-eq0-clause-rest c = rw c.if-more-eq0.true refl
