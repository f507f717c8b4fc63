-- Slot records that are found, granted and changed. For the calls of `Records`.
use Rattle.std.proofs.Common.{◌≡◌, ◌∙◌, ap, sym, refl, ℕ, true, false, true≢false}
use Rattle.std.proofs.Common.{◌&&◌, ◌+◌, [], ◌∷◌, cond, flat_map, arith, List, find, filter}
use Rattle.std.proofs.Common.{Option, Some, None}
use Rattle.std.proofs.lemmas.List.Sums.{sum_by-append}
use Rattle.std.specs.Option.{is_some, option_map, option_to_list}
use Rattle.std.specs.Prelude.{unwrap_or}
use Rattle.qfs_base.specs.declared.chunk.Copy.{Copy}
use Rattle.qfs_base.specs.declared.image.SlotRecord.{SlotRecord}
use Rattle.qfs_base.specs.declared.image.SlotRow.{SlotRow}
use Rattle.qfs_base.specs.declared.request.SlotId.{SlotId}
use Rattle.qfs_base.specs.EachLaws.{each_weaker}
use Rattle.qfs_base.specs.Table.{IsRising, change_where, has_key}
use Rattle.qfs_laws_slots.specs.Slots.{is_slot-is, row_of, rows-found, slot_cmp_total}
use Rattle.qfs_laws_tables.specs.SomeRow.{some-any}
use Rattle.qfs_model_meta.specs.Slots.{change_state, is_slot, never_granted, slot_at, slot_cmp}
use Rattle.qfs_model_meta.specs.Slots.{with_slot}
use Rattle.qfs_blocks.specs.Records.{after_order, has_current_on, is_after, is_next_on, is_of, one_on}
use Rattle.qfs_model_meta.specs.Slots.{count_on, granted_copy, is_on}
use Rattle.qfs_blocks.proofs.RowLaws.{find_alike, find_kept, key_passes, placed_changed}

-- a grant of a slot that has a record
pub granted_found : (id : SlotId) (change : SlotRecord → SlotRecord) (slots : List SlotRow)
    → IsRising slot_cmp slots → is_some (find (is_of id) slots) ≡ true
    → change_where (is_of id) (change_state change) slots
    ≡ with_slot id.block id.slot (change (slot_at slots id.block id.slot)) slots
unfolding with_slot is_slot slot_cmp change_state
granted_found id change slots rising found =
    placed_changed slot_cmp_total
    (row_of id.block id.slot (change (slot_at slots id.block id.slot))) (change_state change) slots
    rising (each_weaker _ _ (λ row known is. changed row known is) slots (rows-found slots rising))
    (sym (some-any (is_of id) slots) ∙ found)
  where
    changed : (row : SlotRow) → slot_at slots row.block row.slot ≡ row.state
        → is_slot id.block id.slot row ≡ true
        → change_state change row
        ≡ row_of id.block id.slot (change (slot_at slots id.block id.slot))
    changed row known is =
        let own = is_slot-is id.block id.slot row is in
        let state : row.state ≡ slot_at slots id.block id.slot =
        sym known ∙ ap (λ block. slot_at slots block row.slot) own.0
        ∙ ap (λ slot. slot_at slots id.block slot) own.1 in
        λ i. record { block = own.0 i; slot = own.1 i; state = change (state i) }

-- a slot without a record was never granted
pub unknown_slot : (id : SlotId) (slots : List SlotRow)
    → is_some (find (is_of id) slots) ≡ false → slot_at slots id.block id.slot ≡ never_granted
unfolding slot_at
unknown_slot id slots none = default (find (is_of id) slots) none
  where
    default : (found : Option SlotRow) → is_some found ≡ false
        → unwrap_or (option_map (λ (row : SlotRow). row.state) found) never_granted ≡ never_granted
    default None none = refl
    default (Some row) none = absurd (true≢false none)

pub found_after : (after : Option SlotId) (slots : List SlotRow)
    → find (has_key (after_order after)) slots ≡ find (is_after after) slots
found_after after slots =
    find_alike (has_key (after_order after)) (is_after after)
    (λ row. key_passes (is_after after row)) slots

pub found_on : (server life : ℕ) (after : Option SlotId) (slots : List SlotRow)
    → find (has_current_on server life) (filter (has_key (after_order after)) slots)
    ≡ find (is_next_on server life after) slots
found_on server life after slots =
    find_kept (has_current_on server life) (has_key (after_order after)) slots
    ∙ find_alike _ (is_next_on server life after)
    (λ row. ap (λ b. b && has_current_on server life row) (key_passes (is_after after row))) slots

-- the copies of the first of some rows count, and then those of the others
pub counted_first : (server life : ℕ) (row : SlotRow) (rows : List SlotRow)
    → count_on server life (row ∷ rows)
    ≡ one_on server life row.state.current + one_on server life (granted_copy row.state.grant)
    + count_on server life rows
unfolding count_on
counted_first server life row rows =
    let on = is_on server life in
    let current = λ (row : SlotRow). option_to_list row.state.current in
    let granted = λ (row : SlotRow). option_to_list (granted_copy row.state.grant) in
    let one = λ (copy : Copy). cond (on copy) 1 0 in
    let first = sum_by-append one (current row) (flat_map current rows) in
    let second = sum_by-append one (granted row) (flat_map granted rows) in
    omega (arith, first, second)

pub counted_none : (server life : ℕ) → count_on server life [] ≡ 0
unfolding count_on
counted_none server life = refl
