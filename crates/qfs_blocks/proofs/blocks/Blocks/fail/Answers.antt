-- What the check leaves to show of `blocks::Blocks::fail`.
use Rattle.qfs_model_meta.specs.Slots.{change_slot}
use Rattle.qfs_blocks.proofs.blocks.Blocks.fail.Goals as goal

pub returns : goal.returns
unfolding change_slot
returns c = c.change.ensures
