-- The records of slots as a table has them.
use Rattle.std.specs.Prelude.{◌≡◌, ◌≤◌, ℕ, Bool, ◌&&◌, cond, count_by, List, find, Option, None}
use Rattle.std.specs.List.{list_any}
use Rattle.std.specs.Option.{option_to_list}
use Rattle.std.specs.declared.cmp.Ordering.{Ordering}
use Rattle.std.specs.declared.cmp.Ordering.TheVariants.{Equal, Greater}
use Rattle.qfs_base.specs.declared.chunk.Copy.{Copy}
use Rattle.qfs_base.specs.declared.image.SlotRow.{SlotRow}
use Rattle.qfs_base.specs.declared.request.SlotId.{SlotId}
use Rattle.qfs_base.specs.Table.{IsRising}
use Rattle.qfs_model_meta.specs.LeasedGrants.{comes_after}
use Rattle.qfs_model_meta.specs.Slots.{is_on, is_slot, slot_cmp, slot_id}
use Rattle.qfs_table.specs.Tables.{Contents}

-- the slot of an id
abbrev pub is_of : SlotId → SlotRow → Bool
is_of id row = is_slot id.block id.slot row

-- whether a row comes behind a slot, or behind none
abbrev pub is_after : Option SlotId → SlotRow → Bool
is_after after row = comes_after after (slot_id row)

abbrev pub after_order : Option SlotId → SlotRow → Ordering
after_order after row = cond (is_after after row) Equal Greater

-- whether a row's current copy is on a server in a life
abbrev pub has_current_on : ℕ → ℕ → SlotRow → Bool
has_current_on server life row = list_any (is_on server life) (option_to_list row.state.current)

-- one where there is a copy and it is on a server in a life, or else nothing
abbrev pub one_on : ℕ → ℕ → Option Copy → ℕ
one_on server life copy = count_by (is_on server life) (option_to_list copy)

-- whether a row comes behind a slot, with its current copy on a server in a life
abbrev pub is_next_on : ℕ → ℕ → Option SlotId → SlotRow → Bool
is_next_on server life after row = is_after after row && has_current_on server life row

-- a slot has a record, or a new one has room
abbrev pub HasPlace : SlotId → ℕ → List SlotRow → Type 0
HasPlace id spare slots = (find (is_of id) slots ≡ None) → 1 ≤ spare

-- the records are in order
pub record AreRecords (table : Contents SlotRow) : Type 0 where
  pub in_order : IsRising slot_cmp table.rows
