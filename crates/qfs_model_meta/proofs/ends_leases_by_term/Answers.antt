use Rattle.std.proofs.Common.{refl}
use Rattle.qfs_model_meta.specs.Whole.{whole_metaserver}
use Rattle.qfs_model_meta.proofs.ends_leases_by_term.Goals as goal

pub returns : goal.returns
unfolding whole_metaserver
returns c = record { over = refl; lost = refl; late = refl }
