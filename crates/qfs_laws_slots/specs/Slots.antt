-- The table of slots: what is known of each slot after one was placed, changed, sealed or
-- forgotten. Cited by the laws of the metaserver and of puts and gets, and for the metaserver in
-- memory.
use Rattle.qfs_base.specs.Key.{block_cmp}
use Rattle.qfs_base.specs.KeyLaws.{block_cmp-Equal, block_cmp_total}
use Rattle.qfs_base.specs.Table.{Each, IsRising, change_row, change_where, place, place_before}
use Rattle.qfs_base.specs.declared.chunk.BlockId.{BlockId}
use Rattle.qfs_base.specs.declared.chunk.Copy.{Copy}
use Rattle.qfs_base.specs.declared.image.MetaImage.{MetaImage}
use Rattle.qfs_base.specs.declared.image.SlotRecord.{SlotRecord}
use Rattle.qfs_base.specs.declared.image.SlotRow.{SlotRow}
use Rattle.qfs_base.specs.declared.image.Grant.{Grant}
use Rattle.qfs_model_meta.specs.Slots.{change_slot, change_state, failed_slot, forget_file}
use Rattle.qfs_model_meta.specs.Slots.{is_of_block, is_of_file, is_slot, never_granted, same_block}
use Rattle.qfs_model_meta.specs.Slots.{same_copy, seal_file, sealed_slot, slot_at, slot_cmp}
use Rattle.qfs_model_meta.specs.Slots.{ungranted_slot, with_slot}
use Rattle.std.proofs.Common.{Bool, List, None, Option, Some, [], ap, arith, cond, false, filter}
use Rattle.std.proofs.Common.{find, not, refl, subst, sym, true, unwrap_or, ℕ, ◌+◌, ◌==◌, ◌∙◌, ◌∷◌}
use Rattle.std.proofs.Common.{◌≡◌}
use Rattle.std.proofs.lemmas.Bool.{and_parts, eqb-true}
use Rattle.std.proofs.lemmas.Bool.Decides.{nat_tests}
use Rattle.std.specs.Cmp.{IsTotalOrder, nat_cmp_total, on_total, ranked, then_total, tied_itself}
use Rattle.std.specs.Option.{option_map}
use Rattle.std.specs.Ordering.{is_eq, nat_cmp, ordering_reverse, ordering_then}
use Rattle.std.specs.Prelude.{IsTrue, is_some}
use Rattle.std.specs.declared.cmp.Ordering.{Ordering}
use Rattle.std.specs.declared.cmp.Ordering.TheVariants.{Equal, Greater, Less}
use Rattle.qfs_base.specs.EachLaws.{each_weaker}
use Rattle.qfs_laws_tables.specs.EachRow.{each_both, each_of_all, find_none}
use Rattle.qfs_laws_tables.specs.Keys.{equal-is, greater-not, key-is, less-not}
use Rattle.qfs_laws_tables.specs.Sums.{total}
use Rattle.qfs_laws_tables.specs.Placed.{find-placed, find-apart, found_changed}
use Rattle.qfs_model_meta.specs.FreedLaws.{key_kept}

-- ---- keys

pub same_block-is : (a b : BlockId) → same_block a b ≡ true → a ≡ b
unfolding same_block
same_block-is a b is =
    let keys = and_parts _ _ is in
    let file : a.file ≡ b.file = eqb-true _ _ keys.0 in
    let index : a.index ≡ b.index = eqb-true _ _ keys.1 in
    λ i. record { file = file i; index = index i }

pub same_block-self : (b : BlockId) → same_block b b ≡ true
unfolding same_block
same_block-self b = grind (arith, nat_tests)

pub same_copy-is : (a b : Copy) → same_copy a b ≡ true → a ≡ b
unfolding same_copy
same_copy-is a b is =
    let x = and_parts _ _ is in
    let y = and_parts _ _ x.0 in
    let server : a.server ≡ b.server = eqb-true _ _ y.0 in
    let life : a.life ≡ b.life = eqb-true _ _ y.1 in
    let version : a.version ≡ b.version = eqb-true _ _ x.1 in
    λ i. record { server = server i; life = life i; version = version i }

pub same_copy-self : (c : Copy) → same_copy c c ≡ true
unfolding same_copy
same_copy-self c = grind (arith, nat_tests)

abbrev pub row_of : BlockId → ℕ → SlotRecord → SlotRow
row_of block slot state = record { block = block; slot = slot; state = state }

pub is_slot-self : (row : SlotRow) → is_slot row.block row.slot row ≡ true
unfolding is_slot
is_slot-self row = let block = same_block-self row.block in grind (arith, nat_tests)

then-Equal : (a b : Ordering) → ordering_then a b ≡ Equal → (a ≡ Equal) × (b ≡ Equal)
then-Equal Less b e = absurd (cc)
then-Equal Equal b e = (refl, e)
then-Equal Greater b e = absurd (cc)

pub is_slot-is : (block : BlockId) (slot : ℕ) (row : SlotRow) → is_slot block slot row ≡ true
    → (row.block ≡ block) × (row.slot ≡ slot)
unfolding is_slot
is_slot-is block slot row is =
    let parts = then-Equal (block_cmp block row.block) (nat_cmp slot row.slot) (equal-is _ is) in
    (sym (block_cmp-Equal block row.block parts.0), sym (ranked slot row.slot Equal (sym parts.1)))

pub of_block-is : (block : BlockId) (row : SlotRow) → is_of_block block row ≡ true
    → row.block ≡ block
unfolding is_of_block
of_block-is block row is = sym (block_cmp-Equal block row.block (equal-is _ is))

-- a row is of a file where its block is
pub of_file-is : (file : ℕ) (row : SlotRow) → is_of_file file row ≡ (row.block.file == file)
unfolding is_of_file
of_file-is file row = key-is file row.block.file

pub slot_cmp_total : IsTotalOrder slot_cmp
unfolding slot_cmp
slot_cmp_total =
    then_total (on_total (λ r. r.block) block_cmp_total) (on_total (λ r. r.slot) nat_cmp_total)

-- rows that tie are of one slot
pub ties : (a b : SlotRow) → slot_cmp a b ≡ Equal → (a.block ≡ b.block) × (a.slot ≡ b.slot)
unfolding slot_cmp
ties a b e =
    let parts = then-Equal _ _ e in
    (block_cmp-Equal a.block b.block parts.0, ranked a.slot b.slot Equal (sym parts.1))

tied : (a b : SlotRow) → a.block ≡ b.block → a.slot ≡ b.slot → slot_cmp a b ≡ Equal
unfolding slot_cmp
tied a b block slot =
    ap (λ k. ordering_then (block_cmp a.block k) (nat_cmp a.slot b.slot)) (sym block)
    ∙ ap (λ k. ordering_then (block_cmp a.block a.block) (nat_cmp a.slot k)) (sym slot)
    ∙ tied_itself slot_cmp_total (record { block = a.block; slot = a.slot; state = a.state })

-- a row that doesn't tie is no row of the slot
pub not_slot : (new row : SlotRow) (o : Ordering) → slot_cmp new row ≡ o → (o ≡ Equal → ⊥)
    → is_slot new.block new.slot row ≡ false
not_slot new row o is differs =
    elim (is_slot new.block new.slot row) as (λ b. is_slot new.block new.slot row ≡ b → b ≡ false) [
      | true ↦ λ here. let same = is_slot-is new.block new.slot row here in absurd
          (differs (sym is ∙ tied new row (sym same.0) (sym same.1)))
      | false ↦ λ _. refl
    ] refl

-- two slots are the same, or no row is of both
pub slot_cases : (Y : Type 0) (block : BlockId) (slot : ℕ) (row : SlotRow)
    → (row.block ≡ block → row.slot ≡ slot → Y) → (is_slot block slot row ≡ false → Y) → Y
slot_cases Y block slot row same apart =
    elim (is_slot block slot row) as (λ b. is_slot block slot row ≡ b → Y) [
      | true ↦ λ is. let k = is_slot-is block slot row is in same k.0 k.1
      | false ↦ apart
    ] refl

-- ---- what is known of a slot

abbrev pub record_in : Option SlotRow → SlotRecord
record_in found = unwrap_or (option_map (λ (row : SlotRow). row.state) found) never_granted

pub slot_at-here : (block : BlockId) (slot : ℕ) (row : SlotRow) (rows : List SlotRow)
    → is_slot block slot row ≡ true → slot_at (row ∷ rows) block slot ≡ row.state
unfolding slot_at
slot_at-here block slot row rows here =
    ap (λ b. record_in (cond b (Some row) (find (is_slot block slot) rows))) here

pub slot_at-behind : (block : BlockId) (slot : ℕ) (row : SlotRow) (rows : List SlotRow)
    → is_slot block slot row ≡ false → slot_at (row ∷ rows) block slot ≡ slot_at rows block slot
unfolding slot_at
slot_at-behind block slot row rows other =
    ap (λ b. record_in (cond b (Some row) (find (is_slot block slot) rows))) other

pub slot_at-none : (block : BlockId) (slot : ℕ) (rows : List SlotRow)
    → Each (λ row. is_slot block slot row ≡ false) rows → slot_at rows block slot ≡ never_granted
unfolding slot_at
slot_at-none block slot rows each = ap record_in (find_none (is_slot block slot) rows each)

-- what each row and a slot that was never granted have, each slot has
pub slot_has : (P : SlotRecord → Type 0) (rows : List SlotRow) (block : BlockId) (slot : ℕ)
    → P never_granted
    → Each (λ (row : SlotRow). row.block ≡ block → row.slot ≡ slot → P row.state) rows
    → P (slot_at rows block slot)
unfolding slot_at
slot_has P [] block slot none each = none
slot_has P (row ∷ rows) block slot none each =
    elim (is_slot block slot row) as
    (λ b. is_slot block slot row ≡ b → P
    (record_in (cond b (Some row) (find (is_slot block slot) rows)))) [
      | true ↦ λ is. let k = is_slot-is block slot row is in each.0 k.0 k.1
      | false ↦ λ is. slot_has P rows block slot none each.1
    ] refl

-- ---- a slot is placed

found-placed : (new : SlotRow) (rows : List SlotRow)
    → find (is_slot new.block new.slot) (place slot_cmp new rows) ≡ Some new
found-placed new rows =
    find-placed slot_cmp (is_slot new.block new.slot) new rows (is_slot-self new)
    (each_of_all _ (λ row above. not_slot new row Greater above greater-not) rows)

pub placed-same : (block : BlockId) (slot : ℕ) (state : SlotRecord) (slots : List SlotRow)
    → slot_at (with_slot block slot state slots) block slot ≡ state
unfolding slot_at with_slot
placed-same block slot state slots =
    ap record_in (found-placed (record { block = block; slot = slot; state = state }) slots)

found-other : (block : BlockId) (slot : ℕ) (new : SlotRow) (rows : List SlotRow)
    → is_slot block slot new ≡ false
    → find (is_slot block slot) (place slot_cmp new rows) ≡ find (is_slot block slot) rows
unfolding is_slot
found-other block slot new rows other =
    find-apart slot_cmp (is_slot block slot) new rows other
    (λ row tie. let same = ties new row tie in
    subst (λ s. is_eq (ordering_then (block_cmp block row.block) (nat_cmp slot s)) ≡ false) same.1
    (subst (λ b. is_eq (ordering_then (block_cmp block b) (nat_cmp slot new.slot)) ≡ false)
    same.0 other))

pub placed-other : (block other : BlockId) (slot number : ℕ) (state : SlotRecord)
    (slots : List SlotRow)
    → is_slot other number (record { block = block; slot = slot; state = state }) ≡ false
    → slot_at (with_slot block slot state slots) other number ≡ slot_at slots other number
unfolding slot_at with_slot
placed-other block other slot number state slots apart =
    ap record_in (found-other other number (record { block = block; slot = slot; state = state })
    slots apart)

-- what holds of each slot after one was placed
pub placed-cases : (P : SlotRecord → Type 0) (block other : BlockId) (slot number : ℕ)
    (state : SlotRecord) (slots : List SlotRow)
    → (block ≡ other → slot ≡ number → P state)
    → (is_slot other number (record { block = block; slot = slot; state = state }) ≡ false → P
    (slot_at slots other number))
    → P (slot_at (with_slot block slot state slots) other number)
placed-cases P block other slot number state slots same apart =
    slot_cases (P (slot_at (with_slot block slot state slots) other number)) other number
    (record { block = block; slot = slot; state = state })
    (λ b s. subst P (sym (ap (λ k. slot_at (with_slot block slot state slots) k number) (sym b) ∙ ap
    (slot_at (with_slot block slot state slots) block) (sym s) ∙ placed-same block slot state
    slots)) (same b s))
    (λ away. subst P (sym (placed-other block other slot number state slots away)) (apart away))

pub has-placed : (block other : BlockId) (slot number : ℕ) (state : SlotRecord)
    (slots : List SlotRow)
    → ((is_slot other number (record { block = block; slot = slot; state = state }) ≡ false) →
    IsTrue (is_some (find (is_slot other number) slots)))
    → IsTrue (is_some (find (is_slot other number) (with_slot block slot state slots)))
unfolding with_slot
has-placed block other slot number state slots had =
    slot_cases (IsTrue (is_some (find (is_slot other number)
    (place slot_cmp (record { block = block; slot = slot; state = state }) slots)))) other number
    (record { block = block; slot = slot; state = state })
    (λ b s. let found : find (is_slot other number)
    (place slot_cmp (record { block = block; slot = slot; state = state }) slots) ≡ Some
    (record { block = block; slot = slot; state = state }) =
    ap (λ k. find (is_slot k number)
    (place slot_cmp (record { block = block; slot = slot; state = state }) slots)) (sym b)
    ∙ ap (λ k. find (is_slot block k)
    (place slot_cmp (record { block = block; slot = slot; state = state }) slots)) (sym s)
    ∙ found-placed (record { block = block; slot = slot; state = state }) slots in
    subst (λ o. IsTrue (is_some o)) (sym found) refl)
    (λ away. subst (λ o. IsTrue (is_some o))
    (sym (found-other other number (record { block = block; slot = slot; state = state }) slots
    away)) (had away))

-- ---- a slot is changed

-- a change of some rows' records, seen at each slot
pub changed-cases : (P : SlotRecord → Type 0) (test : SlotRow → Bool)
    (change : SlotRecord → SlotRecord) (slots : List SlotRow) (block : BlockId) (slot : ℕ)
    → (slot_at slots block slot ≡ never_granted → P never_granted)
    → ((row : SlotRow) → row.block ≡ block → row.slot ≡ slot → slot_at slots block slot ≡ row.state
    → test row ≡ true → P (change row.state))
    → ((row : SlotRow) → row.block ≡ block → row.slot ≡ slot → slot_at slots block slot ≡ row.state
    → test row ≡ false → P row.state)
    → P (slot_at (change_where test (change_state change) slots) block slot)
unfolding change_state slot_at
changed-cases P test change [] block slot none if_so if_not = none refl
changed-cases P test change (row ∷ rows) block slot none if_so if_not =
    let rest : List SlotRow = change_where test (change_state change) rows in
    slot_cases (P (slot_at (change_where test (change_state change) (row ∷ rows)) block slot)) block
    slot row
    (λ b s.
    let here : is_slot block slot row ≡ true = subst (λ k. is_slot k slot row ≡ true) b
    (subst (λ k. is_slot row.block k row ≡ true) s (is_slot-self row)) in
    let at : slot_at (row ∷ rows) block slot ≡ row.state = slot_at-here block slot row rows here in
    elim (test row) as (λ t. test row ≡ t → P
    (slot_at (change_row (change_state change) row t ∷ rest) block slot)) [
      | true ↦ λ t. subst P (sym (slot_at-here block slot (change_state change row) rest
          (key_kept block slot change row true ∙ here))) (if_so row b s at t)
      | false ↦ λ t. subst P (sym (slot_at-here block slot row rest here)) (if_not row b s at t)
    ] refl)
    (λ away.
    let at : slot_at (row ∷ rows) block slot ≡ slot_at rows block slot = slot_at-behind block slot
    row rows away in
    subst P (sym (slot_at-behind block slot (change_row (change_state change) row (test row)) rest
    (key_kept block slot change row (test row) ∙ away)))
    (changed-cases P test change rows block slot (λ a. none (at ∙ a))
    (λ r b s a. if_so r b s (at ∙ a)) (λ r b s a. if_not r b s (at ∙ a))))

pub has-changed : (test : SlotRow → Bool) (change : SlotRecord → SlotRecord) (block : BlockId)
    (slot : ℕ) (slots : List SlotRow)
    → is_some (find (is_slot block slot) (change_where test (change_state change) slots)) ≡ is_some
    (find (is_slot block slot) slots)
has-changed test change block slot [] = refl
has-changed test change block slot (row ∷ rows) =
    rw (key_kept block slot change row (test row))
    (elim (is_slot block slot row) as (λ b.
    is_some (cond b (Some (change_row (change_state change) row (test row)))
    (find (is_slot block slot) (change_where test (change_state change) rows)))
    ≡ is_some (cond b (Some row) (find (is_slot block slot) rows)))
    [ true ↦ refl | false ↦ has-changed test change block slot rows ])

-- a change of one slot, seen at each slot
changed-same : (P : SlotRecord → Type 0) (block : BlockId) (slot : ℕ)
    (change : SlotRecord → SlotRecord) (slots : List SlotRow)
    → (P (change never_granted) → P never_granted) → P (change (slot_at slots block slot)) → P
    (slot_at (change_slot block slot change slots) block slot)
unfolding change_slot change_state slot_at
changed-same P block slot change [] none changed = none changed
changed-same P block slot change (row ∷ rows) none changed =
    let rest : List SlotRow = change_where (is_slot block slot) (change_state change) rows in
    (elim (is_slot block slot row) as
    (λ b. is_slot block slot row ≡ b → P
    (change (record_in (cond b (Some row) (find (is_slot block slot) rows))))
    → P (slot_at (change_row (change_state change) row b ∷ rest) block slot)) [
      | true ↦ λ here changed. subst P
          (sym (slot_at-here block slot (change_state change row) rest
          (key_kept block slot change row true ∙ here))) changed
      | false ↦ λ away changed. subst P (sym (slot_at-behind block slot row rest away))
          (changed-same P block slot change rows none changed)
    ]) refl changed

same_test : (block other : BlockId) (slot number : ℕ) (row : SlotRow) → row.block ≡ other
    → row.slot ≡ number
    → is_slot block slot (record { block = other; slot = number; state = never_granted }) ≡ false
    → is_slot block slot row ≡ false
unfolding is_slot
same_test block other slot number row b s apart =
    subst (λ k. is_eq (ordering_then (block_cmp block row.block) (nat_cmp slot k)) ≡ false) (sym s)
    (subst (λ k. is_eq (ordering_then (block_cmp block k) (nat_cmp slot number)) ≡ false) (sym b)
    apart)

pub changed-other : (block other : BlockId) (slot number : ℕ) (change : SlotRecord → SlotRecord)
    (slots : List SlotRow)
    → is_slot block slot (record { block = other; slot = number; state = never_granted }) ≡ false
    → slot_at (change_slot block slot change slots) other number ≡ slot_at slots other number
unfolding change_slot change_state
changed-other block other slot number change [] apart = refl
changed-other block other slot number change (row ∷ rows) apart =
    let rest : List SlotRow = change_where (is_slot block slot) (change_state change) rows in
    slot_cases (slot_at (change_where (is_slot block slot) (change_state change) (row ∷ rows)) other
    number ≡ slot_at (row ∷ rows) other number) other number row
    (λ b s.
    let here : is_slot other number row ≡ true = subst (λ k. is_slot k number row ≡ true) b
    (subst (λ k. is_slot row.block k row ≡ true) s (is_slot-self row)) in
    let test : is_slot block slot row ≡ false = same_test block other slot number row b s apart in
    ap (λ t. slot_at (change_row (change_state change) row t ∷ rest) other number) test
    ∙ slot_at-here other number row rest here ∙ sym (slot_at-here other number row rows here))
    (λ away.
    slot_at-behind other number (change_row (change_state change) row (is_slot block slot row)) rest
    (key_kept other number change row (is_slot block slot row) ∙ away)
    ∙ changed-other block other slot number change rows apart
    ∙ sym (slot_at-behind other number row rows away))

pub slot-cases : (P : SlotRecord → Type 0) (block other : BlockId) (slot number : ℕ)
    (change : SlotRecord → SlotRecord) (slots : List SlotRow)
    → (P (change never_granted) → P never_granted)
    → (block ≡ other → slot ≡ number → P (change (slot_at slots other number)))
    → (is_slot block slot (record { block = other; slot = number; state = never_granted }) ≡ false →
    P (slot_at slots other number))
    → P (slot_at (change_slot block slot change slots) other number)
slot-cases P block other slot number change slots none same apart =
    let new : SlotRow = record { block = other; slot = number; state = never_granted } in
    slot_cases (P (slot_at (change_slot block slot change slots) other number)) block slot new
    (λ b s. subst (λ k. P (slot_at (change_slot k slot change slots) other number)) b
    (subst (λ k. P (slot_at (change_slot other k change slots) other number)) s
    (changed-same P other number change slots none (same (sym b) (sym s)))))
    (λ away. subst P (sym (changed-other block other slot number change slots away)) (apart away))

-- ---- the slots of a file are sealed, or forgotten

pub sealed-cases : (P : SlotRecord → Type 0) (file : ℕ) (block : BlockId) (slot : ℕ)
    (slots : List SlotRow)
    → (slot_at slots block slot ≡ never_granted → P never_granted)
    → ((block.file == file) ≡ true → P (sealed_slot (slot_at slots block slot)))
    → ((block.file == file) ≡ false → P (slot_at slots block slot))
    → P (slot_at (seal_file file slots) block slot)
unfolding seal_file
sealed-cases P file block slot slots none own other =
    changed-cases P (is_of_file file) sealed_slot slots block slot none
    (λ row b s at is. subst (λ state. P (sealed_slot state)) at
    (own (ap (λ (k : BlockId). k.file == file) (sym b) ∙ sym (of_file-is file row) ∙ is)))
    (λ row b s at is. subst P at (other
    (ap (λ (k : BlockId). k.file == file) (sym b) ∙ sym (of_file-is file row) ∙ is)))

pub forgotten-cases : (P : SlotRecord → Type 0) (file : ℕ) (block : BlockId) (slot : ℕ)
    (slots : List SlotRow)
    → ((block.file == file) ≡ true → P never_granted)
    → ((block.file == file) ≡ false → P (slot_at slots block slot))
    → P (slot_at (forget_file file slots) block slot)
unfolding forget_file slot_at
forgotten-cases P file block slot [] none other =
    (elim (block.file == file) as (λ b. (block.file == file) ≡ b → P never_granted)
    [ true ↦ none | false ↦ other ]) refl
forgotten-cases P file block slot (row ∷ rows) none other =
    let rest : List SlotRow = filter (λ (row : SlotRow). not (is_of_file file row)) rows in
    (elim (is_of_file file row) as (λ f. is_of_file file row ≡ f
    → P (record_in (find (is_slot block slot) (cond (not f) (row ∷ rest) rest)))) [
      | true ↦ λ is. forgotten-cases P file block slot rows none
          (λ differs. subst P (ap record_in (behind is differs)) (other differs))
      | false ↦ λ is. (elim (is_slot block slot row) as
          (λ b. is_slot block slot row ≡ b → P
          (record_in (cond b (Some row) (find (is_slot block slot) rest)))) [
            | true ↦ λ here.
                let k = is_slot-is block slot row here in
                subst P (ap (λ b. record_in (cond b (Some row) (find (is_slot block slot) rows)))
                here)
                (other (ap (λ (k : BlockId). k.file == file) (sym k.0) ∙ sym (of_file-is file row)
                ∙ is))
            | false ↦ λ away. forgotten-cases P file block slot rows none
                (λ differs. subst P (ap (λ b. record_in
                (cond b (Some row) (find (is_slot block slot) rows))) away) (other differs))
          ]) refl
    ]) refl
  where
    behind : is_of_file file row ≡ true → (block.file == file) ≡ false
        → find (is_slot block slot) (row ∷ rows) ≡ find (is_slot block slot) rows
    behind is differs =
        slot_cases (find (is_slot block slot) (row ∷ rows) ≡ find (is_slot block slot) rows) block
        slot row
        (λ b s. let same : is_of_file file row ≡ (block.file == file) = of_file-is file row ∙ ap
        (λ (k : BlockId). k.file == file) b in absurd (cc))
        (λ away. ap (λ t. cond t (Some row) (find (is_slot block slot) rows)) away)

pub has-forgotten : (file : ℕ) (block : BlockId) (slot : ℕ) (slots : List SlotRow)
    → (block.file == file) ≡ false
    → IsTrue (is_some (find (is_slot block slot) slots)) → IsTrue
    (is_some (find (is_slot block slot) (forget_file file slots)))
unfolding forget_file
has-forgotten file block slot [] other had = had
has-forgotten file block slot (row ∷ rows) other had =
    let rest : List SlotRow = filter (λ (row : SlotRow). not (is_of_file file row)) rows in
    slot_cases (IsTrue (is_some (find (is_slot block slot)
    (cond (not (is_of_file file row)) (row ∷ rest) rest)))) block slot row
    (λ b s.
    let stays : is_of_file file row ≡ false = of_file-is file row ∙ ap
    (λ (k : BlockId). k.file == file) b ∙ other in
    let here : is_slot block slot row ≡ true = subst (λ k. is_slot k slot row ≡ true) b
    (subst (λ k. is_slot row.block k row ≡ true) s (is_slot-self row)) in
    subst (λ f. IsTrue (is_some (find (is_slot block slot) (cond (not f) (row ∷ rest) rest))))
    (sym stays)
    (subst (λ t. IsTrue (is_some (cond t (Some row) (find (is_slot block slot) rest)))) (sym here)
    refl))
    (λ away.
    let before : IsTrue (is_some (find (is_slot block slot) rows)) = subst
    (λ t. IsTrue (is_some (cond t (Some row) (find (is_slot block slot) rows)))) away had in
    let after = has-forgotten file block slot rows other before in
    elim (is_of_file file row) as (λ f. IsTrue
    (is_some (find (is_slot block slot) (cond (not f) (row ∷ rest) rest)))) [
      | true ↦ after
      | false ↦ subst (λ t. IsTrue (is_some (cond t (Some row) (find (is_slot block slot) rest))))
          (sym away) after
    ])

-- ---- the sum of a weight over the slots after one was placed

-- where a slot that was never granted weighs nothing
pub total-placed : (w : SlotRow → ℕ) (block : BlockId) (slot : ℕ) (state : SlotRecord)
    (slots : List SlotRow)
    → IsRising slot_cmp slots
    → w (record { block = block; slot = slot; state = never_granted }) ≡ 0
    → total w (with_slot block slot state slots) + w
    (record { block = block; slot = slot; state = slot_at slots block slot })
    ≡ total w slots + w (record { block = block; slot = slot; state = state })
unfolding with_slot slot_at
total-placed w block slot state [] rising none = omega arith
total-placed w block slot state (row ∷ rows) rising none =
    let new : SlotRow = record { block = block; slot = slot; state = state } in
    let old : SlotRecord → ℕ = λ state. w (record { block = block; slot = slot; state = state }) in
    elim (slot_cmp new row) as (λ o. slot_cmp new row ≡ o →
    total w (place_before new row rows (place slot_cmp new rows) o) + old
    (slot_at (row ∷ rows) block slot) ≡ w row + total w rows + w new) [
      | Less ↦ λ is.
          let gone : Each (λ row. is_slot block slot row ≡ false) rows = each_weaker _ _
          (λ later above. not_slot new later Less (slot_cmp_total.trans new row later is above)
          less-not) rows rising.0 in
          let at : slot_at (row ∷ rows) block slot ≡ never_granted = slot_at-none block slot
          (row ∷ rows) (not_slot new row Less is less-not, gone) in
          let e = ap old at in
          omega arith
      | Equal ↦ λ is.
          let same = ties new row is in
          let here : is_slot block slot row ≡ true = subst (λ k. is_slot k slot row ≡ true)
          (sym same.0) (subst (λ k. is_slot row.block k row ≡ true) (sym same.1)
          (is_slot-self row)) in
          let at : slot_at (row ∷ rows) block slot ≡ row.state = slot_at-here block slot row rows
          here in
          let whole : w row ≡ old row.state = λ i. w
          (record { block = sym same.0 i; slot = sym same.1 i; state = row.state }) in
          let e = ap old at in
          omega arith
      | Greater ↦ λ is.
          let at : slot_at (row ∷ rows) block slot ≡ slot_at rows block slot = slot_at-behind block
          slot row rows (not_slot new row Greater is greater-not) in
          let e = ap old at in
          let rest = total-placed w block slot state rows rising.1 none in
          omega arith
    ] refl

pub rows-found : (rows : List SlotRow) → IsRising slot_cmp rows
    → Each (λ (row : SlotRow). slot_at rows row.block row.slot ≡ row.state) rows
rows-found [] rising = tt
rows-found (row ∷ rows) rising = (
  slot_at-here row.block row.slot row rows (is_slot-self row),
  each_weaker (λ (later : SlotRow). (slot_cmp row later ≡ Less)
      × (slot_at rows later.block later.slot ≡ later.state))
      (λ (later : SlotRow). slot_at (row ∷ rows) later.block later.slot ≡ later.state)
      (λ later b. slot_at-behind later.block later.slot row rows
      (not_slot later row Greater (slot_cmp_total.antisymm later row ∙ ap ordering_reverse b.0)
      greater-not) ∙ b.1) rows
      (each_both (λ later. slot_cmp row later ≡ Less)
      (λ (later : SlotRow). slot_at rows later.block later.slot ≡ later.state) rows rising.0
      (rows-found rows rising.1)),
)

-- no slot of a file has a current copy
abbrev pub Bare : MetaImage → ℕ → Type 0
Bare m file =
    (block : BlockId) (slot : ℕ) → block.file ≡ file → (slot_at m.slots block slot).current ≡ None

-- the record of a slot whose pending grant's server failed the put
pub failed_change : (server : ℕ) (block : BlockId) (slot : ℕ) (slots : List SlotRow)
    (grant : Grant)
    → (slot_at slots block slot).grant ≡ Some grant
    → slot_at (change_slot block slot (failed_slot server) (change_slot block slot ungranted_slot
    slots)) block slot ≡ failed_slot server (ungranted_slot (slot_at slots block slot))
unfolding change_slot slot_at change_state never_granted
failed_change server block slot slots grant pending =
    let test : SlotRow → Bool = is_slot block slot in
    let first : SlotRow → SlotRow = change_state ungranted_slot in
    let then : SlotRow → SlotRow = change_state (failed_slot server) in
    ap record_in
    (found_changed test then (λ row. key_kept block slot (failed_slot server) row true)
    (change_where test first slots)
    ∙ ap (option_map then)
    (found_changed test first (λ row. key_kept block slot ungranted_slot row true) slots))
    ∙ (elim (find test slots) as (λ found. (record_in found).grant ≡ Some grant
    → record_in (option_map then (option_map first found)) ≡ failed_slot server
    (ungranted_slot (record_in found))) [
      | None ↦ λ none. absurd (cc)
      | Some row ↦ λ _. refl
    ]) pending
