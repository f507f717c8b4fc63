use Rattle.std.proofs.Common.{refl}
use Rattle.qfs_model_meta.specs.Whole.{whole_metaserver}
use Rattle.qfs_model_meta.proofs.moves_under_a_reader.Goals as goal

pub returns : goal.returns
unfolding whole_metaserver
returns c = record { replies = refl }
