use Rattle.std.proofs.Common.{refl}
use Rattle.qfs_model_meta.specs.Whole.{whole_metaserver}
use Rattle.qfs_model_meta.proofs.heals_without_records.Goals as goal

pub returns : goal.returns
unfolding whole_metaserver
returns c = record { replies = refl }
