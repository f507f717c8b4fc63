use Rattle.std.proofs.Common.{refl}
use Rattle.qfs_model_meta.specs.Whole.{whole_metaserver}
use Rattle.qfs_model_meta.proofs.evacuates_a_server.Goals as goal

pub returns : goal.returns
unfolding whole_metaserver
returns c = record { nine_servers = refl; ten_servers = refl }
