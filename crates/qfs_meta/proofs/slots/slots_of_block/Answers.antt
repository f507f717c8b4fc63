use Rattle.qfs_model_meta.specs.Slots.{is_of_block}
use Rattle.qfs_meta.proofs.SlotLaws.{by_block}
use Rattle.qfs_meta.proofs.slots.slots_of_block.Goals as goal

pub rows_of-requires : goal.rows_of-requires
rows_of-requires c = by_block c.args.block c.args.slots.now c.requires

pub returns : goal.returns
unfolding is_of_block
returns c = c.rows_of.ensures
