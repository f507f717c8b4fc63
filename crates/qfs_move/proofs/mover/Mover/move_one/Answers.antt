use Rattle.std.proofs.Common.{refl}
use Rattle.qfs_move.specs.Rest.{rest_of_move}
use Rattle.qfs_move.proofs.mover.Mover.move_one.Goals as goal

pub returns-clause-rest : goal.returns-clause-rest
unfolding rest_of_move
returns-clause-rest c = refl
