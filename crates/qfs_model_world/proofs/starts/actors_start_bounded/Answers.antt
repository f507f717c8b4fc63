use Rattle.qfs_model_world.proofs.Bounded.{start_bounded}
use Rattle.qfs_model_world.proofs.starts.actors_start_bounded.Goals as goal

pub returns : goal.returns
returns c = start_bounded
