-- The table of slots with the pending grant of one of them left out, and with a new one in its place.
use Rattle.std.proofs.Common.{◌≡◌, ℕ, ◌+◌, ◌==◌, Bool, true, false, cond, List, [], ◌∷◌, ◌++◌, filter, count_by, Option, Some, None, refl, sym, ap, ◌∙◌, arith}
use Rattle.std.specs.List.{flat_map}
use Rattle.std.specs.Option.{option_to_list}
use Rattle.std.specs.Ordering.{nat_cmp, is_eq, ordering_then}
use Rattle.std.specs.declared.cmp.Ordering.TheVariants.{Less, Equal, Greater}
use Rattle.qfs_base.specs.declared.chunk.Copy.{Copy}
use Rattle.qfs_base.specs.declared.image.Grant.{Grant}
use Rattle.qfs_base.specs.declared.image.SlotRecord.{SlotRecord}
use Rattle.qfs_base.specs.declared.image.SlotRow.{SlotRow}
use Rattle.qfs_base.specs.declared.request.SlotId.{SlotId}
use Rattle.qfs_base.specs.Key.{block_cmp}
use Rattle.qfs_base.specs.Table.{Each, IsRising, place, place_before, change_row, change_where}
use Rattle.qfs_model_meta.specs.Slots.{is_on, count_on, is_slot, is_of_block, slot_cmp, slot_at, never_granted, grants_of_block, granted_copy, ungranted_slot, change_state, change_slot, without_grant}
use Rattle.qfs_meta.specs.Granting.{granted_elsewhere, granted_beside, IsLeftOut}
use Rattle.qfs_meta.proofs.LoadLaws.{copies_of_row, count_on-next}
use Rattle.qfs_base.specs.EachLaws.{each_weaker}
use Rattle.qfs_laws_tables.specs.Keys.{equal-is, key-is, less-not}
use Rattle.qfs_laws_tables.specs.Placed.{change_none}
use Rattle.qfs_laws_slots.specs.Slots.{is_slot-is, not_slot, rows-found, slot_at-behind, slot_at-here, slot_cmp_total}

-- ---- the grants of a block's other slots

-- a row of a block is that of a slot by the slot's number
slot_in_block : (id : SlotId) (row : SlotRow) → is_of_block id.block row ≡ true → is_slot id.block id.slot row ≡ (row.slot == id.slot)
unfolding is_of_block is_slot
slot_in_block id row of =
    ap (λ o. is_eq (ordering_then o (nat_cmp id.slot row.slot))) (equal-is (block_cmp id.block row.block) of)
    ∙ key-is id.slot row.slot

block_kept : (id : SlotId) (row : SlotRow) (b : Bool) → is_of_block id.block (change_row (change_state ungranted_slot) row b) ≡ is_of_block id.block row
unfolding is_of_block change_state
block_kept id row true = refl
block_kept id row false = refl

freed_elsewhere : (id : SlotId) (row : SlotRow) (b : Bool) → is_of_block id.block row ≡ true → is_slot id.block id.slot row ≡ b →
    option_to_list (granted_copy (change_row (change_state ungranted_slot) row b).state.grant) ≡ granted_elsewhere id.slot row
unfolding change_state ungranted_slot granted_copy
freed_elsewhere id row true of is = sym (ap (λ b. cond b [] (option_to_list (granted_copy row.state.grant))) (sym (slot_in_block id row of) ∙ is))
freed_elsewhere id row false of is = sym (ap (λ b. cond b [] (option_to_list (granted_copy row.state.grant))) (sym (slot_in_block id row of) ∙ is))

abbrev granted_here : SlotRow → List Copy
granted_here row = option_to_list (granted_copy row.state.grant)

beside_freed : (id : SlotId) (slots : List SlotRow) → grants_of_block id.block (change_slot id.block id.slot ungranted_slot slots) ≡ granted_beside id slots
unfolding grants_of_block change_slot
beside_freed id [] = refl
beside_freed id (row ∷ rows) =
    let test = is_of_block id.block in
    let here = is_slot id.block id.slot row in
    let rest : List SlotRow = change_where (is_slot id.block id.slot) (change_state ungranted_slot) rows in
    let changed : SlotRow = change_row (change_state ungranted_slot) row here in
    ap (λ b. flat_map granted_here (cond b (changed ∷ filter test rest) (filter test rest))) (block_kept id row here)
    ∙ elim (test row) as (λ b. test row ≡ b →
    flat_map granted_here (cond b (changed ∷ filter test rest) (filter test rest)) ≡ flat_map (granted_elsewhere id.slot) (cond b (row ∷ filter test rows) (filter test rows))) [
      | true ↦ λ of i. freed_elsewhere id row here of refl i ++ beside_freed id rows i
      | false ↦ λ _. beside_freed id rows
    ] refl

ungranted_elsewhere : (id : SlotId) (row : SlotRow) (b : Bool) → is_of_block id.block row ≡ true → (row.slot == id.slot) ≡ b →
    (is_slot id.block id.slot row ≡ true → row.state.grant ≡ None) → granted_here row ≡ cond b [] (granted_here row)
unfolding granted_copy
ungranted_elsewhere id row true of is none = ap (λ grant. option_to_list (granted_copy grant)) (none (slot_in_block id row of ∙ is))
ungranted_elsewhere id row false of is none = refl

beside_first : (id : SlotId) (slots : List SlotRow) → Each (λ row. is_slot id.block id.slot row ≡ true → row.state.grant ≡ None) slots →
    grants_of_block id.block slots ≡ granted_beside id slots
unfolding grants_of_block
beside_first id [] none = refl
beside_first id (row ∷ rows) none =
    let test = is_of_block id.block in
    elim (test row) as (λ b. test row ≡ b →
    flat_map granted_here (cond b (row ∷ filter test rows) (filter test rows)) ≡ flat_map (granted_elsewhere id.slot) (cond b (row ∷ filter test rows) (filter test rows))) [
      | true ↦ λ of i. ungranted_elsewhere id row (row.slot == id.slot) of refl none.0 i ++ beside_first id rows none.1 i
      | false ↦ λ _. beside_first id rows none.1
    ] refl

-- ---- the copies of the slots with a grant left out

-- no row above a slot's own is of the slot
none_above : (id : SlotId) (row : SlotRow) (rows : List SlotRow) → is_slot id.block id.slot row ≡ true → Each (λ later. slot_cmp row later ≡ Less) rows →
    Each (λ later. is_slot id.block id.slot later ≡ false) rows
none_above id row rows here above =
    let own = is_slot-is id.block id.slot row here in
    each_weaker _ _ (λ later below.
    (λ i. is_slot (sym own.0 i) (sym own.1 i) later) ∙ not_slot row later Less below less-not) rows above

freed_row : (server life : ℕ) (row : SlotRow) (grant : Grant) → row.state.grant ≡ Some grant →
    copies_of_row server life row ≡ copies_of_row server life (change_state ungranted_slot row) + count_by (is_on server life) (grant.copy ∷ [])
unfolding change_state ungranted_slot granted_copy
freed_row server life row grant pending =
    let granted : count_by (is_on server life) (option_to_list (granted_copy row.state.grant)) ≡ count_by (is_on server life) (grant.copy ∷ []) =
    ap (λ g. count_by (is_on server life) (option_to_list (granted_copy g))) pending in
    let none : count_by (is_on server life) [] ≡ 0 = refl in
    omega (arith, granted, none)

freed_count : (id : SlotId) (grant : Grant) (slots : List SlotRow) → IsRising slot_cmp slots → (slot_at slots id.block id.slot).grant ≡ Some grant → (server life : ℕ) →
    count_on server life slots ≡ count_on server life (change_slot id.block id.slot ungranted_slot slots) + count_by (is_on server life) (grant.copy ∷ [])
unfolding change_slot slot_at never_granted
freed_count id grant [] rising pending server life = absurd (cc)
freed_count id grant (row ∷ rows) rising pending server life =
    let rest : List SlotRow = change_where (is_slot id.block id.slot) (change_state ungranted_slot) rows in
    let copies : ℕ = count_by (is_on server life) (grant.copy ∷ []) in
    elim (is_slot id.block id.slot row) as (λ b. is_slot id.block id.slot row ≡ b →
    count_on server life (row ∷ rows) ≡ count_on server life (change_row (change_state ungranted_slot) row b ∷ rest) + copies) [
      | true ↦ λ here.
          let whole = count_on-next server life row rows in
          let freed = count_on-next server life (change_state ungranted_slot row) rest in
          let same : count_on server life rest ≡ count_on server life rows = ap (count_on server life) (change_none (is_slot id.block id.slot) (change_state ungranted_slot) rows (none_above id row rows here rising.0)) in
          let left = freed_row server life row grant (ap (λ (state : SlotRecord). state.grant) (sym (slot_at-here id.block id.slot row rows here)) ∙ pending) in
          omega (arith, whole, freed, same, left)
      | false ↦ λ other.
          let whole = count_on-next server life row rows in
          let freed = count_on-next server life row rest in
          let left = freed_count id grant rows rising.1 (ap (λ (state : SlotRecord). state.grant) (sym (slot_at-behind id.block id.slot row rows other)) ∙ pending) server life in
          omega (arith, whole, freed, left)
    ] refl

-- the pending grant of a slot is left out, where there is one
pub left_out : (id : SlotId) (slots : List SlotRow) (pending : Option Grant) → IsRising slot_cmp slots → (slot_at slots id.block id.slot).grant ≡ pending →
    IsLeftOut (granted_copy pending) slots (without_grant id.block id.slot slots pending)
unfolding without_grant granted_copy
left_out id slots None rising is server life =
    let none : count_by (is_on server life) [] ≡ 0 = refl in
    omega (arith, none)
left_out id slots (Some grant) rising is server life =
    let parts = freed_count id grant slots rising is server life in
    omega (arith, parts)

-- and the grants of its block are those of the other slots
pub others_granted : (id : SlotId) (slots : List SlotRow) (pending : Option Grant) → IsRising slot_cmp slots → (slot_at slots id.block id.slot).grant ≡ pending →
    grants_of_block id.block (without_grant id.block id.slot slots pending) ≡ granted_beside id slots
unfolding without_grant
others_granted id slots None rising is =
    beside_first id slots
    (each_weaker _ _ (λ row known here.
    let own = is_slot-is id.block id.slot row here in
    ap (λ (state : SlotRecord). state.grant) (sym known ∙ (λ i. slot_at slots (own.0 i) (own.1 i))) ∙ is) slots (rows-found slots rising))
others_granted id slots (Some grant) rising is = beside_freed id slots

-- ---- a row that is put in its place

abbrev row_of : SlotId → SlotRecord → SlotRow
row_of id state = record { block = id.block; slot = id.slot; state = state }

cmp_kept : (new : SlotRow) (change : SlotRecord → SlotRecord) (row : SlotRow) (b : Bool) → slot_cmp new (change_row (change_state change) row b) ≡ slot_cmp new row
unfolding slot_cmp change_state
cmp_kept new change row true = refl
cmp_kept new change row false = refl

is_slot-cmp : (id : SlotId) (state : SlotRecord) (row : SlotRow) → is_slot id.block id.slot row ≡ is_eq (slot_cmp (row_of id state) row)
unfolding slot_cmp is_slot
is_slot-cmp id state row = refl

-- a row that is put in place of a slot's row doesn't matter how that one was changed before
pub placed_again : (id : SlotId) (change : SlotRecord → SlotRecord) (state : SlotRecord) (slots : List SlotRow) → IsRising slot_cmp slots →
    place slot_cmp (row_of id state) (change_slot id.block id.slot change slots) ≡ place slot_cmp (row_of id state) slots
unfolding change_slot
placed_again id change state [] rising = refl
placed_again id change state (row ∷ rows) rising =
    let new : SlotRow = row_of id state in
    let test = is_slot id.block id.slot in
    let changed : SlotRow = change_row (change_state change) row (test row) in
    let rest : List SlotRow = change_where test (change_state change) rows in
    let apart = λ (above : Each (λ later. slot_cmp new later ≡ Less) rows).
    change_none test (change_state change) rows (each_weaker _ _ (λ later below. is_slot-cmp id state later ∙ ap is_eq below) rows above) in
    ap (place_before new changed rest (place slot_cmp new rest)) (cmp_kept new change row (test row))
    ∙ elim (slot_cmp new row) as (λ o. slot_cmp new row ≡ o → place_before new changed rest (place slot_cmp new rest) o ≡ place_before new row rows (place slot_cmp new rows) o) [
      | Less ↦ λ below i.
          new ∷ change_row (change_state change) row ((is_slot-cmp id state row ∙ ap is_eq below) i) ∷ apart (each_weaker _ _ (λ later above. slot_cmp_total.trans new row later below above) rows rising.0) i
      | Equal ↦ λ same i. new ∷ apart (each_weaker _ _ (λ later above. slot_cmp_total.congr new row later same ∙ above) rows rising.0) i
      | Greater ↦ λ above i. change_row (change_state change) row ((is_slot-cmp id state row ∙ ap is_eq above) i) ∷ placed_again id change state rows rising.1 i
    ] refl
