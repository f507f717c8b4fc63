use Rattle.qfs_model_meta.specs.Slots.{slots_of, is_of_file}
use Rattle.qfs_meta.proofs.SlotLaws.{by_file}
use Rattle.qfs_meta.proofs.slots.slots_of.Goals as goal

pub rows_of-requires : goal.rows_of-requires
rows_of-requires c = by_file c.args.file c.args.slots.now c.requires

pub returns : goal.returns
unfolding slots_of is_of_file
returns c = c.rows_of.ensures
