-- What the check leaves to show of `blocks::Blocks::abandon`.
use Rattle.qfs_model_meta.specs.Slots.{change_slot}
use Rattle.qfs_blocks.proofs.blocks.Blocks.abandon.Goals as goal

pub returns-in-Ok-clause-ok : goal.returns-in-Ok-clause-ok
unfolding change_slot
returns-in-Ok-clause-ok c = c.change.ensures
