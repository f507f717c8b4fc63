-- The changes that slots of a file meet that is given up or taken away.
use Rattle.qfs_base.specs.declared.image.SlotRow.{SlotRow}
use Rattle.qfs_model_meta.specs.Slots.{slot_id}
use Rattle.qfs_state.specs.declared.prepared.Prepared.{Prepared}
use Rattle.qfs_state.specs.declared.prepared.Prepared.TheVariants.{EmptySlot, GiveUp}

-- the grant of a slot is given up
abbrev pub given_up : SlotRow → Prepared
given_up row = GiveUp (slot_id row)

-- the copies of a slot are condemned
abbrev pub emptied : SlotRow → Prepared
emptied row = EmptySlot (slot_id row)
