use Rattle.std.proofs.Common.{refl}
use Rattle.qfs_model_actor.specs.Get.{get_work}
use Rattle.qfs_reader.specs.Rest.{rest_of_get}
use Rattle.qfs_reader.proofs.reader.Reader.new.Goals as goal

pub returns-clause-rest : goal.returns-clause-rest
unfolding rest_of_get get_work
returns-clause-rest c = rw c.range_of.ensures refl
