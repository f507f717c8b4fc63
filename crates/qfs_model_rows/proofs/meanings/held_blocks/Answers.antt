use Rattle.std.proofs.Common.{refl}
use Rattle.qfs_model_rows.specs.Meanings.{opened_in, held_if_open, holds_first_block}
use Rattle.qfs_model_world.proofs.OnLiterals.{world_on_literals}
use Rattle.qfs_model_rows.proofs.meanings.held_blocks.Goals as goal

pub returns : goal.returns
unfolding world_on_literals opened_in held_if_open holds_first_block
returns c = record { degraded_get = refl; three_fetches_fail = refl; four_fetches_fail = refl; first_opening = refl; second_opening = refl }
