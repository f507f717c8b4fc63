-- What the check leaves to show of `blocks::Blocks::confirm`.
use Rattle.qfs_model_meta.specs.Slots.{change_slot}
use Rattle.qfs_blocks.proofs.blocks.Blocks.confirm.Goals as goal

pub returns-clause-ok : goal.returns-clause-ok
unfolding change_slot
returns-clause-ok c = c.change.ensures
