use Rattle.std.proofs.Common.{refl}
use Rattle.qfs_model_world.proofs.OnLiterals.{world_on_literals}
use Rattle.qfs_model_rows.proofs.given_orders.given_orders.Goals as goal

pub returns : goal.returns
unfolding world_on_literals
returns c = record { followed = refl; one_more = refl; one_less = refl; failed = refl; no_actor = refl }
