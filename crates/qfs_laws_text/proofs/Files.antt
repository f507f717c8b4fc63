-- The closed files of a sound state, and the slots of their blocks.
use Rattle.std.proofs.Common.{◌≡◌, ℕ, zero, suc, ◌<◌, ◌==◌, nat_eq, nat_lt, Bool, true, false, List, [], ◌∷◌, map, filter, find, Some, None, refl, sym, ap, subst, ◌∙◌, arith, cond}
use Rattle.std.proofs.lemmas.Bool.{and_from, false≢true, ltb-true}
use Rattle.std.proofs.lemmas.Bool.Decides.{nat_tests}
use Rattle.std.specs.List.{AllByRecursion, IsDistinct, list_any, range_with_len}
use Rattle.std.specs.Option.{option_map}
use Rattle.std.specs.Ordering.{nat_cmp, is_eq}
use Rattle.std.specs.Prelude.{⊤, IsTrue, is_some, unwrap_or}
use Rattle.std.specs.declared.cmp.Ordering.{Ordering}
use Rattle.qfs_base.specs.EachLaws.{each_filter, each_weaker}
use Rattle.qfs_base.specs.Shape.{Shape}
use Rattle.qfs_base.specs.Table.{Each, place, place_all}
use Rattle.qfs_base.specs.declared.chunk.BlockId.{BlockId}
use Rattle.qfs_base.specs.declared.image.MetaImage.{MetaImage}
use Rattle.qfs_base.specs.declared.image.SlotRow.{SlotRow}
use Rattle.qfs_base.specs.declared.image.TreeRow.{TreeRow}
use Rattle.qfs_base.specs.declared.rules.Rules.{Rules}
use Rattle.qfs_laws_slots.specs.Slots.{is_slot-is}
use Rattle.qfs_laws_tables.specs.EachRow.{each_both, each_passes, each_place, found_has, each_of_all, range-each}
use Rattle.qfs_laws_tables.specs.Keys.{key-is}
use Rattle.qfs_laws_tables.specs.SomeRow.{found-any}
use Rattle.qfs_model_meta.specs.Grammar.{IsImage, files_in}
use Rattle.qfs_model_meta.specs.LeasedGrants.{has_block}
use Rattle.qfs_model_meta.specs.Lists.{block_count}
use Rattle.qfs_model_meta.specs.PutRequests.{file_slots, block_slots}
use Rattle.qfs_model_meta.specs.Slots.{slot_at, is_slot, never_granted}
use Rattle.qfs_model_meta.specs.TreeRows.{has_file, is_closed, is_closed_row, kind_of}
use Rattle.qfs_model_promises.specs.Along.{SlotsFit, IsOfBlock, IsFilled, HasCurrent}
use Rattle.qfs_model_world.specs.Audit.{by_file, closed_rows}
use Rattle.qfs_report.specs.AuditOfImage.{blocks_of_file}
use Rattle.qfs_laws_text.proofs.Blocks.{InFile, is_of_index, blocks_are}
use Rattle.qfs_laws_text.proofs.Ranges.{each_of_flat}

-- ---- each file stands at one row

-- the row that is found by a row's file is that row
abbrev IsFound : List TreeRow → TreeRow → Type 0
IsFound tree row = 0 < row.file → find (has_file row.file) tree ≡ Some row

apart_rows : (file : ℕ) (rows : List TreeRow)
    → AllByRecursion (λ k. nat_eq file k ≡ false) (files_in rows)
    → Each (λ (row : TreeRow). 0 < row.file → (row.file ≡ file → ⊥)) rows
unfolding files_in
apart_rows file [] each = tt
apart_rows file (row ∷ rows) each =
    elim (nat_lt 0 row.file) as (λ b. nat_lt 0 row.file ≡ b
    → AllByRecursion (λ k. nat_eq file k ≡ false)
    (cond b (row.file ∷ files_in rows) (files_in rows))
    → (0 < row.file → (row.file ≡ file → ⊥))
    × Each (λ (row : TreeRow). 0 < row.file → (row.file ≡ file → ⊥)) rows) [
      | true ↦ λ _ each. (
        (λ some same. let apart : nat_eq file row.file ≡ false = each.0 in
            absurd (grind (arith, nat_tests))),
        apart_rows file rows each.1,
      )
      | false ↦ λ none each. (
        (λ some same. absurd (grind (arith, nat_tests))),
        apart_rows file rows each,
      )
    ] refl each

-- a row in front doesn't have a file's number
found_behind : (row later : TreeRow) (rows : List TreeRow) → (row.file ≡ later.file → ⊥)
    → find (has_file later.file) rows ≡ Some later
    → find (has_file later.file) (row ∷ rows) ≡ Some later
unfolding has_file
found_behind row later rows apart found =
    let other : is_eq (nat_cmp later.file row.file) ≡ false = key-is later.file row.file
    ∙ apart_test row.file later.file apart in
    rw other found
  where
    apart_test : (a b : ℕ) → (a ≡ b → ⊥) → (a == b) ≡ false
    apart_test a b apart = grind (arith, nat_tests)

found_own : (row : TreeRow) (rows : List TreeRow) → IsFound (row ∷ rows) row
unfolding has_file
found_own row rows some =
    let same : is_eq (nat_cmp row.file row.file) ≡ true = key-is row.file row.file
    ∙ grind (arith, nat_tests) in
    rw same refl

rows_found : (tree : List TreeRow) → IsDistinct nat_eq (files_in tree) → Each (IsFound tree) tree
unfolding IsDistinct files_in
rows_found [] distinct = tt
rows_found (row ∷ rows) distinct =
    elim (nat_lt 0 row.file) as (λ b. nat_lt 0 row.file ≡ b
    → IsDistinct nat_eq (cond b (row.file ∷ files_in rows) (files_in rows))
    → Each (IsFound (row ∷ rows)) (row ∷ rows)) [
      | true ↦ λ _ distinct. (
        found_own row rows,
        each_weaker
            (λ (later : TreeRow). IsFound rows later
            × (0 < later.file → (later.file ≡ row.file → ⊥))) (IsFound (row ∷ rows))
            (λ later p some. found_behind row later rows (λ same. p.1 some (sym same)) (p.0 some))
            rows
            (each_both (IsFound rows)
            (λ (later : TreeRow). 0 < later.file → (later.file ≡ row.file → ⊥)) rows
            (rows_found rows distinct.1) (apart_rows row.file rows distinct.0)),
      )
      | false ↦ λ none distinct. (
        found_own row rows,
        each_weaker (IsFound rows) (IsFound (row ∷ rows))
            (λ later p some. found_behind row later rows
            (λ same. absurd (grind (arith, nat_tests))) (p some)) rows (rows_found rows distinct),
      )
    ] refl distinct

-- a closed file has a number
numbered : (file : ℕ) (closed : Bool) → is_closed (kind_of file closed) ≡ true → 0 < file
unfolding is_closed kind_of
numbered zero closed is = absurd (false≢true is)
numbered (suc n) closed is = omega arith

closed_numbered : (row : TreeRow) → is_closed_row row ≡ true → 0 < row.file
unfolding is_closed_row
closed_numbered row closed = numbered row.file row.closed closed

-- ---- the slots of the blocks of a closed file

current_has_row : (slots : List SlotRow) (block : BlockId) (slot : ℕ)
    → is_some (slot_at slots block slot).current ≡ true
    → list_any (is_of_index block.file block.index) slots ≡ true
unfolding slot_at never_granted
current_has_row slots block slot has =
    elim (find (is_slot block slot) slots) as (λ found. find (is_slot block slot) slots ≡ found
    → is_some (unwrap_or (option_map (λ (row : SlotRow). row.state) found) never_granted).current
    ≡ true → list_any (is_of_index block.file block.index) slots ≡ true) [
      | None ↦ λ _ has. absurd (false≢true has)
      | Some row ↦ λ found _. found-any (is_slot block slot)
          (is_of_index block.file block.index) slots row found
          (of_index row (is_slot-is block slot row
          (found_has (λ _. ⊤) (is_slot block slot) slots row found
          (each_of_all (λ _. ⊤) (λ _. tt) slots)).1).0)
    ] refl has
  where
    of_index : (row : SlotRow) → row.block ≡ block → is_of_index block.file block.index row ≡ true
    of_index row same =
        let file : row.block.file ≡ block.file = ap (λ (b : BlockId). b.file) same in
        let index : row.block.index ≡ block.index = ap (λ (b : BlockId). b.index) same in
        and_from (row.block.file == block.file) (row.block.index == block.index)
        (grind (arith, nat_tests)) (grind (arith, nat_tests))

-- each block of a filled file has a slot
filled_has : (layout : Shape) (m : MetaImage) (row : TreeRow) → IsFilled layout m row
    → is_closed_row row ≡ true → (index : ℕ) → index < block_count layout row.len
    → list_any (is_of_index row.file index) m.slots ≡ true
unfolding file_slots block_slots
filled_has layout m row filled closed index small =
    let each = range-each
    (λ index. Each (HasCurrent m) (block_slots (record { file = row.file; index = index }))) 0
    (block_count layout row.len)
    (each_of_flat (HasCurrent m) (λ index. block_slots (record { file = row.file; index = index }))
    (range_with_len 0 (block_count layout row.len)) (filled closed)) index (omega arith)
    (omega arith) in
    current_has_row m.slots (record { file = row.file; index = index }) 0 each.0

-- the slots of a closed file are of blocks that it has
slots_inside : (layout : Shape) (m : MetaImage) (row : TreeRow)
    → find (has_file row.file) m.tree ≡ Some row → Each (IsOfBlock layout m) m.slots
    → Each (InFile row.file (block_count layout row.len)) m.slots
unfolding has_block
slots_inside layout m row found each =
    each_weaker (IsOfBlock layout m) (InFile row.file (block_count layout row.len))
    (λ slot of_block same. within slot.block.index
    (subst (λ file. IsTrue (has_block layout slot.block.index (find (has_file file) m.tree))) same
    of_block)) m.slots each
  where
    within : (index : ℕ) → has_block layout index (find (has_file row.file) m.tree) ≡ true
        → index < block_count layout row.len
    within index has =
        ltb-true index (block_count layout row.len)
        (subst (λ o. has_block layout index o ≡ true) found has)

-- the blocks of a closed file that have a slot are those that its length says
abbrev pub HasItsBlocks : Shape → MetaImage → TreeRow → Type 0
HasItsBlocks layout m row =
    blocks_of_file m.slots row.file
    ≡ map (λ index. record { file = row.file; index = index })
    (range_with_len 0 (block_count layout row.len))

pub each_placed : {X : Type 0} (P : X → Type 0) (order : X → X → Ordering) (news rows : List X)
    → Each P news → Each P rows → Each P (place_all order news rows)
each_placed P order [] rows news had = had
each_placed P order (x ∷ xs) rows news had =
    each_placed P order xs (place order x rows) news.1 (each_place P order x rows news.0 had)

pub closed_have_blocks : (rules : Rules) (m : MetaImage) → IsImage m → SlotsFit rules m
    → Each (HasItsBlocks rules.layout m) (closed_rows m.tree)
unfolding closed_rows
closed_have_blocks rules m image fits =
    each_placed (HasItsBlocks rules.layout m) by_file (filter is_closed_row m.tree) []
    (each_weaker
    (λ (row : TreeRow). (is_closed_row row ≡ true)
    × (is_closed_row row ≡ true → HasItsBlocks rules.layout m row)) (HasItsBlocks rules.layout m)
    (λ row p. p.1 p.0) (filter is_closed_row m.tree)
    (each_both (λ row. is_closed_row row ≡ true)
    (λ row. is_closed_row row ≡ true → HasItsBlocks rules.layout m row)
    (filter is_closed_row m.tree) (each_passes is_closed_row m.tree)
    (each_filter (λ row. is_closed_row row ≡ true → HasItsBlocks rules.layout m row) is_closed_row
    m.tree all))) tt
  where
    all : Each (λ row. is_closed_row row ≡ true → HasItsBlocks rules.layout m row) m.tree
    all = each_weaker (λ row. IsFound m.tree row × IsFilled rules.layout m row)
        (λ row. is_closed_row row ≡ true → HasItsBlocks rules.layout m row)
        (λ row p closed. blocks_are row.file (block_count rules.layout row.len) m.slots
        (slots_inside rules.layout m row (p.0 (closed_numbered row closed)) fits.in_blocks)
        (filled_has rules.layout m row p.1 closed)) m.tree
        (each_both (IsFound m.tree) (IsFilled rules.layout m) m.tree
        (rows_found m.tree image.fits.tree.each_file_once) fits.filled)
