use Rattle.std.proofs.Common.{refl}
use Rattle.qfs_recover.specs.Rest.{rest_of_recovery}
use Rattle.qfs_recover.proofs.recovery.Recovery.recover_one.Goals as goal

pub returns-clause-rest : goal.returns-clause-rest
unfolding rest_of_recovery
returns-clause-rest c = refl
