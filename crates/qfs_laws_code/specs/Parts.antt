-- Parts of the slots of a file, as gets and recoveries read them. For the laws
-- `parts_are_code_words` and `six_slots_give_each`.
use Rattle.std.specs.Prelude.{ℕ, List, drop, map, take}
use Rattle.qfs_base.specs.Mask.{all_slots}
use Rattle.qfs_base.specs.Shape.{Shape}
use Rattle.qfs_model_slot.specs.Slot.{slot_of}

-- so many bytes of a slot, from this one on
abbrev pub part : ℕ → ℕ → List ℕ → List ℕ
part at count slot = take count (drop at slot)

-- the same of slot j of block k of a file
abbrev pub part_of_slot : Shape → List ℕ → ℕ → ℕ → ℕ → ℕ → List ℕ
part_of_slot layout bytes k at count j = part at count (slot_of layout bytes k j)

-- the nine slots of block k
abbrev pub slots_of_block : Shape → List ℕ → ℕ → List (List ℕ)
slots_of_block layout bytes k = map (slot_of layout bytes k) all_slots
