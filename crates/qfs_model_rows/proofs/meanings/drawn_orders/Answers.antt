use Rattle.std.proofs.Common.{refl}
use Rattle.qfs_model_world.proofs.OnLiterals.{world_on_literals}
use Rattle.qfs_model_rows.proofs.meanings.drawn_orders.Goals as goal

pub returns : goal.returns
unfolding world_on_literals
returns c = record { three_actors_drawn = refl; other_order = refl; one_actor = refl }
