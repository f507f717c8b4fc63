-- The keys of the table of slots: a slot, its block and its file.
use Rattle.std.proofs.Common.{◌≡◌, ℕ, Bool, true, List, [], filter, slice_get, Option, None, refl, sym, ap, ◌∙◌}
use Rattle.std.specs.Prelude.{unwrap_or}
use Rattle.std.specs.Option.{option_map}
use Rattle.std.specs.Cmp.{nat_cmp_total}
use Rattle.std.specs.Ordering.{nat_cmp, is_le}
use Rattle.std.specs.declared.cmp.Ordering.TheVariants.{Less}
use Rattle.qfs_base.specs.declared.chunk.BlockId.{BlockId}
use Rattle.qfs_base.specs.declared.image.SlotRecord.{SlotRecord}
use Rattle.qfs_base.specs.declared.image.SlotRow.{SlotRow}
use Rattle.qfs_base.specs.declared.request.SlotId.{SlotId}
use Rattle.qfs_base.specs.Key.{block_cmp}
use Rattle.qfs_base.specs.KeyLaws.{block_cmp_total}
use Rattle.qfs_base.specs.Table.{change_where, has_key, IsRising}
use Rattle.qfs_model_meta.specs.Slots.{slot_order, block_order, file_order, change_state, is_slot, slot_cmp, slot_at, never_granted}
use Rattle.qfs_meta.specs.Runs.{IsInOrder}
use Rattle.qfs_laws_tables.specs.InOrder.{change_rises}
use Rattle.qfs_laws_slots.specs.Slots.{slot_cmp_total}
use Rattle.qfs_meta.proofs.RunLaws.{by_row, in_order, key_falls, first_le, find_first}

-- ---- the table is in order by each key

block_le : (a b : SlotRow) → slot_cmp a b ≡ Less → is_le (block_cmp a.block b.block) ≡ true
unfolding slot_cmp
block_le a b below = first_le (block_cmp a.block b.block) (nat_cmp a.slot b.slot) (ap is_le below)

pub by_slot : (id : SlotId) (rows : List SlotRow) → IsRising slot_cmp rows → IsInOrder (slot_order id) rows
unfolding slot_cmp
by_slot id = by_row slot_cmp_total (record { block = id.block; slot = id.slot; state = never_granted })

pub by_block : (block : BlockId) (rows : List SlotRow) → IsRising slot_cmp rows → IsInOrder (block_order block) rows
by_block block = in_order slot_cmp _ (λ a b below. key_falls block_cmp_total block a.block b.block (block_le a b below))

pub by_file : (file : ℕ) (rows : List SlotRow) → IsRising slot_cmp rows → IsInOrder (file_order file) rows
by_file file =
    in_order slot_cmp _ (λ a b below. key_falls nat_cmp_total file a.block.file b.block.file (first_le _ (nat_cmp a.block.index b.block.index) (block_le a b below)))

-- a change of the records of some rows leaves their order
pub changed_rises : (change : SlotRecord → SlotRecord) (test : SlotRow → Bool) (rows : List SlotRow) → IsRising slot_cmp rows →
    IsRising slot_cmp (change_where test (change_state change) rows)
unfolding slot_cmp change_state
changed_rises change test = change_rises slot_cmp test (change_state change) (λ a b. refl) (λ a b. refl)

-- ---- its rows with each key

-- a slot without a row has no grant pending
pub unknown_slot : (row : SlotRow) (rows : List SlotRow) → filter (has_key (slot_cmp row)) rows ≡ [] → (slot_at rows row.block row.slot).grant ≡ None
unfolding slot_at is_slot slot_cmp never_granted
unknown_slot row rows none =
    ap (λ first. (unwrap_or (option_map (λ (r : SlotRow). r.state) first) never_granted).grant)
    (find_first (is_slot row.block row.slot) rows ∙ ap (λ some. slice_get some 0) none)

-- what is known of a slot is in the first of the rows with its key
pub known_of_slot : (id : SlotId) (rows found : List SlotRow) (first : Option SlotRow) →
    found ≡ filter (has_key (slot_order id)) rows → first ≡ slice_get found 0 →
    unwrap_or (option_map (λ (row : SlotRow). row.state) first) never_granted ≡ slot_at rows id.block id.slot
unfolding slot_at is_slot
known_of_slot id rows found first found_is first_is =
    ap (λ row. unwrap_or (option_map (λ (r : SlotRow). r.state) row) never_granted)
    (first_is
    ∙ ap (λ some. slice_get some 0) found_is
    ∙ sym (find_first (is_slot id.block id.slot) rows))
