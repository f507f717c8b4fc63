use Rattle.std.proofs.Common.{refl}
use Rattle.qfs_model_meta.specs.Sound.{content_of, file_entry}
use Rattle.qfs_model_meta.specs.Whole.{whole_metaserver}
use Rattle.qfs_model_meta.proofs.renames_below.Goals as goal

pub returns : goal.returns
unfolding whole_metaserver content_of file_entry
returns c = record { replies = refl; leaves = record { written = refl; tree = λ puts. refl; replayed = λ puts. refl } }
