-- What placing a slot and closing a file leave of the records of slots, and how many grants a block
-- has: cited by the steps of a put.
use Rattle.std.proofs.Common.{◌≡◌, ℕ, ◌+◌, ◌==◌, ◌≤◌, Bool, true, false, List, [], ◌∷◌, length}
use Rattle.std.proofs.Common.{Option, Some, None, refl, sym, ap, ◌∙◌, arith}
use Rattle.std.proofs.lemmas.Bool.{eq-eqb, false_from_ne_true, true≢false}
use Rattle.qfs_base.specs.EachLaws.{each_weaker}
use Rattle.qfs_base.specs.Table.{Each, place}
use Rattle.qfs_base.specs.declared.chunk.BlockId.{BlockId}
use Rattle.qfs_base.specs.declared.image.Grant.{Grant}
use Rattle.qfs_base.specs.declared.image.SlotRecord.{SlotRecord}
use Rattle.qfs_base.specs.declared.image.SlotRow.{SlotRow}
use Rattle.qfs_model_meta.specs.Slots.{never_granted, slot_cmp, is_slot, is_of_block, slot_at}
use Rattle.qfs_model_meta.specs.Slots.{granted_copy, grants_of_block, sealed_slot, with_slot}
use Rattle.qfs_model_meta.specs.Slots.{seal_file}
use Rattle.qfs_laws_slots.specs.Slots.{is_slot-is, sealed-cases}
use Rattle.qfs_laws_tables.specs.EachRow.{each_place}
use Rattle.qfs_laws_tables.specs.Placed.{total-placed_le}
use Rattle.qfs_laws_tables.specs.Sums.{total, total-none}

-- a slot of another file or of another number is another one
pub is_slot-other : (block other : BlockId) (slot number : ℕ) (state : SlotRecord)
    → (block.file ≡ other.file → slot ≡ number → ⊥)
    → is_slot other number (record { block = block; slot = slot; state = state }) ≡ false
is_slot-other block other slot number state differ =
    false_from_ne_true _ (λ is. let same = is_slot-is other number _ is in
    differ (ap (λ (k : BlockId). k.file) same.0) same.1)

-- a table in which each row passes
pub each_with_slot : (P : SlotRow → Type 0) (block : BlockId) (slot : ℕ) (state : SlotRecord)
    (slots : List SlotRow)
    → P (record { block = block; slot = slot; state = state }) → Each P slots
    → Each P (with_slot block slot state slots)
unfolding with_slot
each_with_slot P block slot state slots new each =
    each_place P slot_cmp (record { block = block; slot = slot; state = state }) slots new each

-- ---- a file that is closed

sealed-never : sealed_slot never_granted ≡ never_granted
unfolding sealed_slot never_granted granted_copy
sealed-never = refl

pub slot_at-sealed : (file : ℕ) (block : BlockId) (slot : ℕ) (slots : List SlotRow)
    → block.file ≡ file
    → slot_at (seal_file file slots) block slot ≡ sealed_slot (slot_at slots block slot)
slot_at-sealed file block slot slots own =
    sealed-cases (λ r. r ≡ sealed_slot (slot_at slots block slot)) file block slot slots
    (λ none. sym (ap sealed_slot none ∙ sealed-never)) (λ _. refl)
    (λ other. absurd (true≢false (sym (eq-eqb block.file file own) ∙ other)))

pub slot_at-unsealed : (file : ℕ) (block : BlockId) (slot : ℕ) (slots : List SlotRow)
    → (block.file == file) ≡ false
    → slot_at (seal_file file slots) block slot ≡ slot_at slots block slot
slot_at-unsealed file block slot slots other =
    sealed-cases (λ r. r ≡ slot_at slots block slot) file block slot slots (λ none. sym none)
    (λ own. absurd (true≢false (sym own ∙ other))) (λ _. refl)

-- ---- how many grants a block has

-- how many grants of a block a row has
abbrev grants_in : BlockId → SlotRow → ℕ
grants_in block row = length (grants_of_block block (row ∷ []))

grants-next : (block : BlockId) (row : SlotRow) (rows : List SlotRow)
    → (length (grants_of_block block (row ∷ rows)) ≡ grants_in block row
    + length (grants_of_block block rows)) × (grants_in block row ≤ 1)
unfolding grants_of_block granted_copy
grants-next block row rows = one (is_of_block block row) row.state.grant refl refl
  where
    one : (b : Bool) (g : Option Grant) → is_of_block block row ≡ b → row.state.grant ≡ g
        → (length (grants_of_block block (row ∷ rows)) ≡ grants_in block row
        + length (grants_of_block block rows)) × (grants_in block row ≤ 1)
    one true None is has = rw (is, has) (omega arith, omega arith)
    one true (Some grant) is has = rw (is, has) (omega arith, omega arith)
    one false g is has = rw is (omega arith, omega arith)

grants-empty : (block : BlockId) → length (grants_of_block block []) ≡ 0
unfolding grants_of_block
grants-empty block = refl

-- they are the sum of those of its rows
grants-sum : (block : BlockId) (rows : List SlotRow)
    → length (grants_of_block block rows) ≡ total (grants_in block) rows
grants-sum block [] = grants-empty block
grants-sum block (row ∷ rows) =
    (grants-next block row rows).0 ∙ ap (λ n. grants_in block row + n) (grants-sum block rows)

-- one more row is one more grant at most
pub grants-more : (of block : BlockId) (slot : ℕ) (state : SlotRecord) (slots : List SlotRow)
    → length (grants_of_block of (with_slot block slot state slots))
    ≤ 1 + length (grants_of_block of slots)
unfolding with_slot
grants-more of block slot state slots =
    let new : SlotRow = record { block = block; slot = slot; state = state } in
    omega (
      arith,
      grants-sum of slots,
      grants-sum of (place slot_cmp new slots),
      total-placed_le slot_cmp (grants_in of) new slots,
      (grants-next of new []).1,
    )

grants-apart : (block : BlockId) (row : SlotRow) → is_of_block block row ≡ false
    → grants_in block row ≡ 0
unfolding grants_of_block
grants-apart block row apart = rw apart refl

-- a block of which there is no row has no grants
pub grants-none : (block : BlockId) (slots : List SlotRow)
    → Each (λ row. is_of_block block row ≡ false) slots
    → length (grants_of_block block slots) ≡ 0
grants-none block slots each =
    grants-sum block slots ∙ total-none (grants_in block) slots
    (each_weaker _ _ (grants-apart block) slots each)
