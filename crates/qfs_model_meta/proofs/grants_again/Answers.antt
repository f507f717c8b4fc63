use Rattle.std.proofs.Common.{refl}
use Rattle.qfs_model_meta.specs.Whole.{whole_metaserver}
use Rattle.qfs_model_meta.proofs.grants_again.Goals as goal

pub returns : goal.returns
unfolding whole_metaserver
returns c = record { next_server = refl; no_server = refl }
