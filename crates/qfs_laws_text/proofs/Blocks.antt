-- The blocks of a closed file that have a slot are all blocks of the file.
use Rattle.std.proofs.Common.{◌≡◌, ℕ, ◌+◌, ◌<◌, ◌≤◌, ◌==◌, nat_eq, Bool, true, false, ◌&&◌, ◌||◌, List, [], ◌∷◌, map, filter, fold, refl, sym, ap, ◌∙◌, arith}
use Rattle.std.proofs.lemmas.Bool.{and_parts, eqb-true}
use Rattle.std.proofs.lemmas.Bool.Decides.{nat_tests}
use Rattle.std.specs.BTreeSet.{insert_key}
use Rattle.std.specs.Cmp.{ranked}
use Rattle.std.specs.List.{list_any, range_with_len}
use Rattle.std.specs.Ordering.{nat_cmp, ordering_then}
use Rattle.std.specs.declared.cmp.Ordering.TheVariants.{Less, Equal, Greater}
use Rattle.qfs_base.specs.EachLaws.{each_filter, each_weaker}
use Rattle.qfs_base.specs.Key.{block_cmp}
use Rattle.qfs_base.specs.KeyLaws.{block_cmp_total, block_cmp-Equal}
use Rattle.qfs_base.specs.Table.{Each, IsRising}
use Rattle.qfs_base.specs.declared.chunk.BlockId.{BlockId}
use Rattle.qfs_base.specs.declared.image.SlotRow.{SlotRow}
use Rattle.qfs_laws_tables.specs.EachRow.{each_both, each_map, each_passes}
use Rattle.qfs_laws_tables.specs.InOrder.{filter_rises}
use Rattle.qfs_laws_tables.specs.SomeRow.{any_filter, any_map}
use Rattle.qfs_report.specs.AuditOfImage.{blocks_of, blocks_of_file}
use Rattle.qfs_laws_text.proofs.Ranges.{Rises, range_is, any_inserted, each_inserted, inserted_rises}

abbrev put_blocks : List BlockId → List SlotRow → List BlockId
put_blocks blocks rows =
    fold (λ blocks (row : SlotRow). insert_key block_cmp blocks row.block) blocks rows

blocks_rise : (rows : List SlotRow) (blocks : List BlockId) → IsRising block_cmp blocks
    → IsRising block_cmp (put_blocks blocks rows)
blocks_rise [] blocks rising = rising
blocks_rise (row ∷ rows) blocks rising =
    blocks_rise rows (insert_key block_cmp blocks row.block)
    (inserted_rises block_cmp block_cmp_total blocks row.block rising)

blocks_each : (P : BlockId → Type 0) (rows : List SlotRow) (blocks : List BlockId)
    → Each (λ (row : SlotRow). P row.block) rows → Each P blocks → Each P (put_blocks blocks rows)
blocks_each P [] blocks each had = had
blocks_each P (row ∷ rows) blocks each had =
    blocks_each P rows (insert_key block_cmp blocks row.block) each.1
    (each_inserted block_cmp P blocks row.block each.0 had)

either_of : (a b c : Bool) → (a || (b || c)) ≡ ((b || a) || c)
either_of true true c = refl
either_of true false c = refl
either_of false true c = refl
either_of false false c = refl

blocks_any : (test : BlockId → Bool) (rows : List SlotRow) (blocks : List BlockId)
    → list_any test (put_blocks blocks rows)
    ≡ (list_any (λ (row : SlotRow). test row.block) rows || list_any test blocks)
blocks_any test [] blocks = refl
blocks_any test (row ∷ rows) blocks =
    blocks_any test rows (insert_key block_cmp blocks row.block)
    ∙ ap (λ b. list_any (λ (row : SlotRow). test row.block) rows || b)
    (any_inserted block_cmp block_cmp-Equal test blocks row.block)
    ∙ either_of (list_any (λ (row : SlotRow). test row.block) rows) (test row.block)
    (list_any test blocks)

-- ---- of one file

-- the order of blocks of one file is that of their indices
index_order : (file : ℕ) (a b : BlockId) → a.file ≡ file → b.file ≡ file → block_cmp a b ≡ Less
    → a.index < b.index
index_order file a b in_file too less =
    elim (nat_cmp a.file b.file) as (λ r. nat_cmp a.file b.file ≡ r
    → ordering_then r (nat_cmp a.index b.index) ≡ Less → a.index < b.index) [
      | Less ↦ λ is _. let below : a.file < b.file = ranked a.file b.file Less (sym is) in
          absurd (omega arith)
      | Equal ↦ λ _ is. ranked a.index b.index Less (sym is)
      | Greater ↦ λ is _. let over : b.file < a.file = ranked a.file b.file Greater (sym is) in
          absurd (omega arith)
    ] refl less

abbrev indices : List BlockId → List ℕ
indices blocks = map (λ (block : BlockId). block.index) blocks

indices_rise : (file : ℕ) (blocks : List BlockId) → Each (λ (b : BlockId). b.file ≡ file) blocks
    → IsRising block_cmp blocks → Rises (indices blocks)
indices_rise file [] in_file rising = tt
indices_rise file (b ∷ blocks) in_file rising = (
  each_map (λ (c : BlockId). (c.file ≡ file) × (block_cmp b c ≡ Less)) (λ i. b.index < i)
      (λ (c : BlockId). c.index) (λ c p. index_order file b c in_file.0 p.0 p.1) blocks
      (each_both (λ (c : BlockId). c.file ≡ file) (λ c. block_cmp b c ≡ Less) blocks in_file.1
      rising.0),
  indices_rise file blocks in_file.1 rising.1,
)

by_index : (file : ℕ) (blocks : List BlockId) → Each (λ (b : BlockId). b.file ≡ file) blocks
    → blocks ≡ map (λ index. record { file = file; index = index }) (indices blocks)
by_index file [] in_file = refl
by_index file (b ∷ blocks) in_file =
    (λ i. record { file = in_file.0 i; index = b.index } ∷ by_index file blocks in_file.1 i)

-- ---- all blocks of a file

-- whether a row is of a file's block
abbrev pub is_of_index : ℕ → ℕ → SlotRow → Bool
is_of_index file index row = (row.block.file == file) && (row.block.index == index)

abbrev pub InFile : ℕ → ℕ → SlotRow → Type 0
InFile file count row = row.block.file ≡ file → row.block.index < count

module _ (file count : ℕ) (slots : List SlotRow) (inside : Each (InFile file count) slots)
    (full : (index : ℕ) → index < count → list_any (is_of_index file index) slots ≡ true) where
  abbrev blocks : List BlockId
  blocks = put_blocks [] slots

  abbrev is_in : BlockId → Bool
  is_in b = b.file == file

  abbrev of_file : List BlockId
  of_file = filter is_in blocks

  in_file : Each (λ (b : BlockId). b.file ≡ file) of_file
  in_file = each_weaker (λ b. is_in b ≡ true) (λ (b : BlockId). b.file ≡ file)
      (λ b is. eqb-true b.file file is) of_file (each_passes is_in blocks)

  rising : IsRising block_cmp of_file
  rising = filter_rises block_cmp is_in blocks (blocks_rise slots [] tt)

  below : Each (λ (b : BlockId). b.index < count) of_file
  below = each_weaker (λ (b : BlockId). (b.file ≡ file → b.index < count) × (b.file ≡ file))
      (λ (b : BlockId). b.index < count) (λ b p. p.0 p.1) of_file
      (each_both (λ (b : BlockId). b.file ≡ file → b.index < count) (λ (b : BlockId). b.file ≡ file)
      of_file
      (each_filter (λ (b : BlockId). b.file ≡ file → b.index < count) is_in blocks
      (blocks_each (λ (b : BlockId). b.file ≡ file → b.index < count) slots [] inside tt)) in_file)

  abbrev is_at : ℕ → BlockId → Bool
  is_at index b = (b.file == file) && (b.index == index)

  same_index : (index : ℕ) (b : BlockId) → is_at index b ≡ true → nat_eq index b.index ≡ true
  same_index index b is =
      let at : b.index ≡ index = eqb-true b.index index
      (and_parts (b.file == file) (b.index == index) is).1 in
      grind (arith, nat_tests)

  has : (index : ℕ) → index < count → list_any (nat_eq index) (indices of_file) ≡ true
  has index small =
      any_map (is_at index) (nat_eq index) (λ (b : BlockId). b.index) (same_index index) of_file
      (any_filter (is_at index) is_in
      (λ b is. (and_parts (b.file == file) (b.index == index) is).0) blocks
      (blocks_any (is_at index) slots [] ∙ ap (λ b. b || false) (full index small)))

  pub blocks_are : blocks_of_file slots file
      ≡ map (λ index. record { file = file; index = index }) (range_with_len 0 count)
  unfolding blocks_of_file blocks_of
  blocks_are =
      by_index file of_file in_file
      ∙ ap (map {B = BlockId} (λ index. record { file = file; index = index }))
      (range_is count 0 (indices of_file) (indices_rise file of_file in_file rising)
      (each_map (λ (b : BlockId). b.file ≡ file) (λ n. 0 ≤ n) (λ (b : BlockId). b.index)
      (λ b _. omega arith) of_file in_file)
      (each_map (λ (b : BlockId). b.index < count) (λ n. n < 0 + count) (λ (b : BlockId). b.index)
      (λ b below. omega arith) of_file below)
      (λ index _ high. has index (omega arith)))
