use Rattle.std.proofs.Common.{refl}
use Rattle.qfs_model_meta.specs.Placing.{open_servers}
use Rattle.qfs_place.proofs.choosing.best_of.Goals as goal

pub loop-at-init : goal.loop-at-init
unfolding open_servers
loop-at-init c = refl
