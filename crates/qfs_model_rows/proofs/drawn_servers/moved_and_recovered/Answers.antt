use Rattle.std.proofs.Common.{refl}
use Rattle.qfs_model_world.proofs.OnLiterals.{world_on_literals}
use Rattle.qfs_model_rows.proofs.drawn_servers.moved_and_recovered.Goals as goal

pub returns : goal.returns
unfolding world_on_literals
returns c = record { prints = record { fitting = refl; whole = refl; printed = refl }; drawn = refl }
