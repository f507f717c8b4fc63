use Rattle.std.proofs.Common.{refl}
use Rattle.qfs_model_actor.specs.Repair.{give_up}
use Rattle.qfs_move.specs.Rest.{rest_of_move}
use Rattle.qfs_move.specs.Turns.{rest_of_failed}
use Rattle.qfs_repair.specs.Deliveries.{report_of_failure, rest_of_after, rest_of_delivery}
use Rattle.qfs_move.proofs.copying.failed.Goals as goal

pub returns-clause-rest : goal.returns-clause-rest
unfolding rest_of_move rest_of_failed rest_of_delivery rest_of_after report_of_failure give_up
returns-clause-rest c = refl
