-- The tables of the audit tell what its definition says: of each block which slots have a current
-- copy and a live one, and the blocks of the closed files.
use Rattle.std.proofs.Common.{◌≡◌, ℕ, zero, suc, ◌+◌, ◌<◌, ◌≤◌, ◌==◌, ltb, Bool, true, false, not, ◌||◌, ◌&&◌, List, [], ◌∷◌, ◌++◌, Option, Some, None, is_some, unwrap_or, cond, map, filter, fold, flat_map, count_by, sum, sum_by, append_assoc, length, refl, sym, ap, subst, ◌∙◌, arith}
use Rattle.std.proofs.lemmas.List.Concat.{flat_map_single}
use Rattle.std.proofs.lemmas.List.Folds.{flat_map-map}
use Rattle.std.proofs.lemmas.List.Sums.{length-filter, sum-map}
use Rattle.std.proofs.lemmas.List.{length-map, map-append}
use Rattle.std.specs.BTreeSet.{insert_key}
use Rattle.std.specs.List.{range_with_len}
use Rattle.std.specs.List.Sorted.{IsStrictlySortedBy}
use Rattle.std.specs.Map.{keys_of}
use Rattle.std.specs.Ordering.{nat_cmp, ordering_then, is_eq}
use Rattle.std.specs.declared.cmp.Ordering.{Ordering}
use Rattle.std.specs.declared.cmp.Ordering.TheVariants.{Less, Equal, Greater}
use Rattle.qfs_base.specs.Key.{block_cmp}
use Rattle.qfs_base.specs.KeyLaws.{block_cmp_total, block_cmp-Equal}
use Rattle.qfs_base.specs.KeyMap.{value_at}
use Rattle.qfs_base.specs.KeyMapLaws.{value_at-with_entry}
use Rattle.qfs_base.specs.Mask.{all_slots, has_slot}
use Rattle.qfs_base.specs.NameTree.{PathNames}
use Rattle.qfs_base.specs.Table.{place, place_all}
use Rattle.qfs_base.specs.declared.chunk.BlockId.{BlockId}
use Rattle.qfs_base.specs.declared.chunk.Copy.{Copy}
use Rattle.qfs_base.specs.declared.image.MetaImage.{MetaImage}
use Rattle.qfs_base.specs.declared.image.SlotRow.{SlotRow}
use Rattle.qfs_base.specs.declared.image.TreeRow.{TreeRow}
use Rattle.qfs_model_meta.specs.Slots.{slot_at, is_slot, never_granted}
use Rattle.qfs_model_meta.specs.TreeRows.{is_closed_row}
use Rattle.qfs_model_text.specs.Audit.{AuditLine, Summary, audit_line, audit_lines, summary_line}
use Rattle.qfs_model_world.specs.Audit.{by_file, closed_rows, current_copies}
use Rattle.qfs_report.specs.AuditOfImage.{audit_of_image, summary_of_image, is_live, is_live_slot, blocks_of, blocks_of_file, audit_of_block, audit_of_file, standing_blocks}
use Rattle.qfs_report.specs.AuditTables.{with_if, nothing_held, held_unless, held_with, table_with, table_of, closed_with, closed_of, line_if, lines_of, standing_if, standing_of, current_of, copies_of}
use Rattle.qfs_report.specs.declared.held.Held.{Held}
use Rattle.qfs_report.proofs.Joined.{key-is, joined}
use Rattle.qfs_report.proofs.Marks.{has-inserted}
use Rattle.qfs_report.proofs.Tables.{keys-inserted, by-key, placed-entry}

-- what the slots of one block hold after these rows
unfoldable pub block_held : List ℕ → BlockId → Held → List SlotRow → Held
block_held lives block held [] = held
block_held lives block held (row ∷ rows) =
    block_held lives block (cond (is_eq (block_cmp block row.block)) (held_with lives held row)
    held) rows

-- ---- the table, block by block

found-first : (lives : List ℕ) (table : List (BlockId × Held)) (row : SlotRow) (block : BlockId)
    (same : Bool) → is_eq (block_cmp block row.block) ≡ same
    → unwrap_or (cond same (Some (held_with lives
    (unwrap_or (value_at block_cmp table row.block) nothing_held) row))
    (value_at block_cmp table block)) nothing_held
    ≡ cond same (held_with lives (unwrap_or (value_at block_cmp table block) nothing_held) row)
    (unwrap_or (value_at block_cmp table block) nothing_held)
found-first lives table row block true is =
    let e : block ≡ row.block = block_cmp-Equal block row.block
    (equal-if (block_cmp block row.block) is) in
    ap (λ (b : BlockId). held_with lives (unwrap_or (value_at block_cmp table b) nothing_held) row)
    (sym e)
  where
    equal-if : (o : Ordering) → is_eq o ≡ true → o ≡ Equal
    equal-if Less e = absurd cc
    equal-if Equal e = refl
    equal-if Greater e = absurd cc
found-first lives table row block false is = refl

found-in-table : (lives : List ℕ) (rows : List SlotRow) (table : List (BlockId × Held))
    (block : BlockId)
    → unwrap_or (value_at block_cmp (table_of lives table rows) block) nothing_held
    ≡ block_held lives block (unwrap_or (value_at block_cmp table block) nothing_held) rows
unfolding table_of table_with block_held
found-in-table lives [] table block = refl
found-in-table lives (row ∷ rows) table block =
    let held : Held = held_with lives (unwrap_or (value_at block_cmp table row.block) nothing_held)
    row in
    found-in-table lives rows (table_with lives table row) block
    ∙ ap (λ (h : Held). block_held lives block h rows)
    (ap (λ (o : Option Held). unwrap_or o nothing_held)
    (value_at-with_entry block_cmp_total table row.block held block)
    ∙ found-first lives table row block (is_eq (block_cmp block row.block)) refl)

table-keys : (lives : List ℕ) (rows : List SlotRow) (table : List (BlockId × Held))
    → keys_of (table_of lives table rows)
    ≡ fold (λ blocks (row : SlotRow). insert_key block_cmp blocks row.block) (keys_of table)
    rows
unfolding table_of table_with
table-keys lives [] table = refl
table-keys lives (row ∷ rows) table =
    table-keys lives rows (table_with lives table row)
    ∙ ap (λ keys. fold (λ blocks (row : SlotRow). insert_key block_cmp blocks row.block) keys rows)
    (keys-inserted block_cmp table row.block
    (held_with lives (unwrap_or (value_at block_cmp table row.block) nothing_held) row))

-- the table has each block with what its slots hold
pub table-is : (lives : List ℕ) (slots : List SlotRow)
    → IsStrictlySortedBy block_cmp (keys_of (table_of lives [] slots))
    → table_of lives [] slots ≡ map {B = BlockId × Held}
    (λ block. (block, block_held lives block nothing_held slots)) (blocks_of slots)
unfolding blocks_of
table-is lives slots rising =
    by-key block_cmp block_cmp_total nothing_held (table_of lives [] slots) rising
    ∙ ap (λ (held : BlockId → Held). map {B = BlockId × Held} (λ block. (block, held block))
    (keys_of (table_of lives [] slots)))
    (λ i block. found-in-table lives slots [] block i)
    ∙ ap (map {B = BlockId × Held} (λ block. (block, block_held lives block nothing_held slots)))
    (table-keys lives slots [])

-- ---- the slots of a block

both-equal : (a b : Ordering) → is_eq (ordering_then a b) ≡ (is_eq a && is_eq b)
both-equal Less b = refl
both-equal Equal b = refl
both-equal Greater b = refl

is-slot : (block : BlockId) (slot : ℕ) (row : SlotRow) → is_slot block slot row
    ≡ (is_eq (block_cmp block row.block) && (slot == row.slot))
unfolding is_slot
is-slot block slot row =
    both-equal (block_cmp block row.block) (nat_cmp slot row.slot)
    ∙ ap (λ same. is_eq (block_cmp block row.block) && same) (key-is slot row.slot)

-- a set of slots among those that a block holds, where a test of a row's copy decides
module _ (lives : List ℕ) (pick : Held → List ℕ) (test : Option Copy → Bool)
    (none : test None ≡ false)
    (marks : (held : Held) (row : SlotRow) → pick (held_unless false lives held row)
    ≡ with_if (test row.state.current) row.slot (pick held)) where
  -- whether a slot is in it at last, by what is known first and what the rows say
  abbrev told : ℕ → Held → Bool → Bool
  told slot held rest = cond (has_slot held.known slot) (has_slot (pick held) slot)
      (has_slot (pick held) slot || rest)

  with_if-has : (yes : Bool) (at slot : ℕ) (slots : List ℕ) → has_slot (with_if yes at slots) slot
      ≡ ((yes && (at == slot)) || has_slot slots slot)
  unfolding with_if
  with_if-has true at slot slots = has-inserted at slot slots
  with_if-has false at slot slots = refl

  or-none : (a : Bool) → (a || false) ≡ a
  or-none true = refl
  or-none false = refl

  either-way : (a b : Bool) → ((a && true) || b) ≡ (b || a)
  either-way true true = refl
  either-way true false = refl
  either-way false true = refl
  either-way false false = refl

  not-that : (a b : Bool) → ((a && false) || b) ≡ b
  not-that true b = refl
  not-that false b = refl

  known-held : (a b : Bool) → (not a || b) ≡ true → a ≡ true → b ≡ true
  known-held true b is in-range = is
  known-held false b is in-range = absurd cc

  not-known : (a b : Bool) → (not a || b) ≡ false → b ≡ false
  not-known true b is = is
  not-known false b is = absurd cc

  row-told : (slot : ℕ) → slot < 9 → (held : Held) (row : SlotRow) (rest skip : Bool)
      → (not (ltb row.slot 9) || has_slot held.known row.slot) ≡ skip
      → (same : Bool) → (slot == row.slot) ≡ same
      → told slot (held_unless skip lives held row) rest
      ≡ told slot held (cond same (test row.state.current) rest)
  unfolding held_unless
  row-told slot below held row rest true skips true is =
      let e : slot ≡ row.slot = grind arith in
      let within : ltb row.slot 9 ≡ true = grind arith in
      let known : has_slot held.known slot ≡ true = ap (has_slot held.known) e
      ∙ known-held (ltb row.slot 9) (has_slot held.known row.slot) skips within in
      rw known refl
  row-told slot below held row rest true skips false is = refl
  row-told slot below held row rest false skips true is =
      let e : (row.slot == slot) ≡ true = grind arith in
      let at : slot ≡ row.slot = grind arith in
      let unknown : has_slot held.known slot ≡ false = ap (has_slot held.known) at
      ∙ not-known (ltb row.slot 9) (has_slot held.known row.slot) skips in
      rw (
        has-inserted row.slot slot held.known,
        marks held row,
        with_if-has
            (test row.state.current) row.slot slot (pick held),
        e,
        unknown,
      )
      (either-way (test row.state.current) (has_slot (pick held) slot))
  row-told slot below held row rest false skips false is =
      let e : (row.slot == slot) ≡ false = grind arith in
      rw (
        has-inserted row.slot slot held.known,
        marks held row,
        with_if-has
            (test row.state.current) row.slot slot (pick held),
        e,
        not-that (test row.state.current)
            (has_slot (pick held) slot),
      )
      refl

  slot-told : (block : BlockId) (slot : ℕ) (row : SlotRow) (rows : List SlotRow) (is : Bool)
      → is_slot block slot row ≡ is
      → test (slot_at (row ∷ rows) block slot).current
      ≡ cond is (test row.state.current) (test (slot_at rows block slot).current)
  unfolding slot_at
  slot-told block slot row rows true is = rw is refl
  slot-told block slot row rows false is = rw is refl

  step-told : (block : BlockId) (slot : ℕ) → slot < 9
      → (held : Held) (row : SlotRow) (rest here : Bool)
      → told slot (cond here (held_with lives held row) held) rest
      ≡ told slot held (cond (here && (slot == row.slot)) (test row.state.current) rest)
  unfolding held_with
  step-told block slot below held row rest true =
      row-told slot below held row rest (not (ltb row.slot 9) || has_slot held.known row.slot) refl
      (slot == row.slot) refl
  step-told block slot below held row rest false = refl

  at-end : (block : BlockId) (slot : ℕ) (known a : Bool) → a
      ≡ cond known a (a || test (slot_at [] block slot).current)
  unfolding slot_at never_granted
  at-end block slot true a = refl
  at-end block slot false a = rw none (sym (or-none a))

  -- whether a slot is in the set after these rows
  pub rows-told : (block : BlockId) (slot : ℕ) → slot < 9 → (rows : List SlotRow) (held : Held)
      → has_slot (pick (block_held lives block held rows)) slot
      ≡ told slot held (test (slot_at rows block slot).current)
  unfolding block_held
  rows-told block slot below [] held = at-end block slot (has_slot held.known slot)
      (has_slot (pick held) slot)
  rows-told block slot below (row ∷ rows) held =
      let here : Bool = is_eq (block_cmp block row.block) in
      rows-told block slot below rows (cond here (held_with lives held row) held)
      ∙ step-told block slot below held row (test (slot_at rows block slot).current) here
      ∙ ap (told slot held) (sym (slot-told block slot row rows (here && (slot == row.slot))
      (is-slot block slot row)))

none-live : (lives : List ℕ) → is_live lives None ≡ false
unfolding is_live
none-live lives = refl

-- a block's slots whose current copy is live, and those that have a current copy
live-slots : (lives : List ℕ) (slots : List SlotRow) (block : BlockId) (slot : ℕ) → slot < 9
    → has_slot (block_held lives block nothing_held slots).live slot
    ≡ is_live_slot lives slots block slot
unfolding nothing_held is_live_slot has_slot held_unless block_held
live-slots lives slots block slot below =
    rows-told lives (λ (held : Held). held.live) (is_live lives) (none-live lives)
    (λ held row. refl) block slot below slots nothing_held

current-slots : (lives : List ℕ) (slots : List SlotRow) (block : BlockId) (slot : ℕ) → slot < 9
    → has_slot (block_held lives block nothing_held slots).current slot
    ≡ is_some (slot_at slots block slot).current
unfolding nothing_held has_slot held_unless block_held
current-slots lives slots block slot below =
    rows-told lives (λ (held : Held). held.current) is_some refl (λ held row. refl) block slot below
    slots nothing_held

-- ---- the closed files

closed-rows-from : (tree rows : List TreeRow)
    → closed_of (map (λ (row : TreeRow). (row.file, row.path)) rows) tree
    ≡ map {B = ℕ × PathNames} (λ (row : TreeRow). (row.file, row.path))
    (place_all by_file (filter is_closed_row tree) rows)
unfolding closed_of closed_with by_file
closed-rows-from [] rows = refl
closed-rows-from (row ∷ tree) rows = next (is_closed_row row) refl (closed-rows-from tree rows)
    (closed-rows-from tree (place by_file row rows))
  where
    next : (b : Bool) → is_closed_row row ≡ b
        → closed_of (map (λ (row : TreeRow). (row.file, row.path)) rows) tree
        ≡ map {B = ℕ × PathNames} (λ (row : TreeRow). (row.file, row.path))
        (place_all by_file (filter is_closed_row tree) rows)
        → closed_of (map (λ (row : TreeRow). (row.file, row.path)) (place by_file row rows)) tree
        ≡ map {B = ℕ × PathNames} (λ (row : TreeRow). (row.file, row.path))
        (place_all by_file (filter is_closed_row tree) (place by_file row rows))
        → closed_of (map (λ (row : TreeRow). (row.file, row.path)) rows) (row ∷ tree)
        ≡ map {B = ℕ × PathNames} (λ (row : TreeRow). (row.file, row.path))
        (place_all by_file (filter is_closed_row (row ∷ tree)) rows)
    next true is stay more = rw is (ap (λ files. closed_of files tree)
        (sym (placed-entry (λ (row : TreeRow). row.file) (λ (row : TreeRow). row.path) row rows))
        ∙ more)
    next false is stay more = rw is stay

-- the closed files by number are those that the audit goes over
closed-is : (tree : List TreeRow) → closed_of [] tree
    ≡ map {B = ℕ × PathNames} (λ (row : TreeRow). (row.file, row.path)) (closed_rows tree)
unfolding closed_rows
closed-is tree = closed-rows-from tree []

-- ---- the lines and the summary

-- tests that agree on the slots of a block
map-below : (p q : ℕ → Bool) → ((slot : ℕ) → slot < 9 → p slot ≡ q slot) → (count first : ℕ)
    → first + count ≤ 9
    → map p (range_with_len first count) ≡ map q (range_with_len first count)
map-below p q agree zero first within = refl
map-below p q agree (suc count) first within =
    rw (agree first (omega arith)) (ap (λ rest. q first ∷ rest)
    (map-below p q agree count (first + 1) (omega arith)))

filter-below : (p q : ℕ → Bool) → ((slot : ℕ) → slot < 9 → p slot ≡ q slot) → (count first : ℕ)
    → first + count ≤ 9
    → filter p (range_with_len first count) ≡ filter q (range_with_len first count)
filter-below p q agree zero first within = refl
filter-below p q agree (suc count) first within =
    rw (agree first (omega arith), filter-below p q agree count (first + 1) (omega arith)) refl

count-below : (p q : ℕ → Bool) → ((slot : ℕ) → slot < 9 → p slot ≡ q slot) → count_by p all_slots
    ≡ count_by q all_slots
count-below p q agree =
    sym (length-filter p all_slots) ∙ ap length (filter-below p q agree 9 0 (omega arith))
    ∙ length-filter q all_slots

map-flat_map : {X Y Z : Type 0} (g : Y → Z) (f : X → List Y) (xs : List X) → map g (flat_map f xs)
    ≡ flat_map (λ x. map g (f x)) xs
map-flat_map g f [] = refl
map-flat_map g f (x ∷ xs) = map-append g (f x) (flat_map f xs)
    ∙ ap (λ rest. map g (f x) ++ rest) (map-flat_map g f xs)

map-map : {X Y Z : Type 0} (g : Y → Z) (f : X → Y) (xs : List X) → map g (map f xs)
    ≡ map (λ x. g (f x)) xs
map-map g f [] = refl
map-map g f (x ∷ xs) = ap (λ rest. g (f x) ∷ rest) (map-map g f xs)

sum_by-map : {X Y : Type 0} (g : Y → ℕ) (f : X → Y) (xs : List X) → sum_by g (map f xs)
    ≡ sum_by (λ x. g (f x)) xs
sum_by-map g f xs = sym (sum-map g (map f xs)) ∙ ap sum (map-map g f xs) ∙ sum-map (λ x. g (f x)) xs

module _ (image : MetaImage) (lives : List ℕ)
    (by_number : IsStrictlySortedBy nat_cmp (keys_of (closed_of [] image.tree)))
    (by_block : IsStrictlySortedBy block_cmp (keys_of (table_of lives [] image.slots))) where
  abbrev files : List (ℕ × PathNames)
  files = closed_of [] image.tree

  abbrev table : List (BlockId × Held)
  table = table_of lives [] image.slots

  abbrev held_at : BlockId → Held
  held_at block = block_held lives block nothing_held image.slots

  blocks-rise : IsStrictlySortedBy block_cmp (blocks_of image.slots)
  unfolding blocks_of
  blocks-rise = subst (IsStrictlySortedBy block_cmp) (table-keys lives image.slots []) by_block

  -- what the blocks give whose files are closed, file by file
  by-file : {Y : Type 0} (at : Option PathNames → BlockId × Held → List Y)
      → ((e : BlockId × Held) → at None e ≡ [])
      → flat_map (λ (e : BlockId × Held). at (value_at nat_cmp files e.0.file) e) table
      ≡ flat_map (λ (row : TreeRow). flat_map
      (λ (block : BlockId). at (Some row.path) (block, held_at block))
      (blocks_of_file image.slots row.file)) (closed_rows image.tree)
  unfolding blocks_of_file
  by-file {Y} at none =
      ap (flat_map (λ (e : BlockId × Held). at (value_at nat_cmp files e.0.file) e))
      (table-is lives image.slots by_block)
      ∙ flat_map-map (λ (e : BlockId × Held). at (value_at nat_cmp files e.0.file) e)
      (λ block. (block, held_at block)) (blocks_of image.slots)
      ∙ joined (λ path block. at path (block, held_at block)) (λ block. none (block, held_at block))
      files (blocks_of image.slots) by_number blocks-rise
      ∙ ap (flat_map (λ (f : ℕ × PathNames). flat_map
      (λ (block : BlockId). at (Some f.1) (block, held_at block))
      (filter (λ (block : BlockId). block.file == f.0) (blocks_of image.slots))))
      (closed-is image.tree)
      ∙ flat_map-map (λ (f : ℕ × PathNames). flat_map
      (λ (block : BlockId). at (Some f.1) (block, held_at block))
      (filter (λ (block : BlockId). block.file == f.0) (blocks_of image.slots)))
      (λ (row : TreeRow). (row.file, row.path)) (closed_rows image.tree)

  -- nine letters
  letters : (block : BlockId) → map (has_slot (held_at block).live) all_slots
      ≡ map (is_live_slot lives image.slots block) all_slots
  letters block = map-below (has_slot (held_at block).live) (is_live_slot lives image.slots block)
      (live-slots lives image.slots block) 9 0 (omega arith)

  pub lines-are : lines_of files table
      ≡ flat_map (audit_of_file lives image.slots) (closed_rows image.tree)
  unfolding lines_of line_if audit_of_file audit_of_block
  lines-are =
      by-file (λ path e. line_if path e.0 e.1) (λ e. refl)
      ∙ ap (λ (f : TreeRow → List AuditLine). flat_map f (closed_rows image.tree)) (λ i row.
      (flat_map_single (λ (block : BlockId). record {
        path = row.path;
        index = block.index;
        right = map (has_slot (held_at block).live)
            all_slots;
      }) (blocks_of_file image.slots row.file)
      ∙ ap (λ (f : BlockId → AuditLine). map f (blocks_of_file image.slots row.file))
      (λ j block. record { path = row.path; index = block.index; right = letters block j })) i)

  -- the blocks that stand, with what their slots hold
  standing-are : standing_of files table
      ≡ map {B = BlockId × Held} (λ block. (block, held_at block)) (standing_blocks image)
  unfolding standing_of standing_if standing_blocks
  standing-are =
      by-file standing_if (λ e. refl)
      ∙ ap (λ (f : TreeRow → List (BlockId × Held)). flat_map f (closed_rows image.tree))
      (λ i row. flat_map_single {A = BlockId × Held}
      (λ (block : BlockId). (block, held_at block)) (blocks_of_file image.slots row.file) i)
      ∙ sym (map-flat_map {Z = BlockId × Held} (λ block. (block, held_at block))
      (λ (row : TreeRow). blocks_of_file image.slots row.file) (closed_rows image.tree))

  pub blocks-counted : length (standing_of files table) ≡ length (standing_blocks image)
  blocks-counted = ap length standing-are
      ∙ length-map (standing_blocks image) (λ block. (block, held_at block))

  pub copies-counted : copies_of (standing_of files table)
      ≡ sum_by (current_copies image) (standing_blocks image)
  unfolding copies_of current_of current_copies
  copies-counted =
      ap (sum_by (λ (e : BlockId × Held). current_of e.1)) standing-are
      ∙ sum_by-map (λ (e : BlockId × Held). current_of e.1) (λ block. (block, held_at block))
      (standing_blocks image)
      ∙ ap (λ (f : BlockId → ℕ). sum_by f (standing_blocks image)) (λ i block. counted block i)
    where
      counted : (block : BlockId) → current_of (held_at block) ≡ current_copies image block
      counted block = count-below (has_slot (held_at block).current)
          (λ slot. is_some (slot_at image.slots block slot).current)
          (current-slots lives image.slots block)

-- no blocks rise
pub no-blocks-rise : (table : List (BlockId × Held)) → table ≡ []
    → IsStrictlySortedBy block_cmp (keys_of table)
unfolding IsStrictlySortedBy
no-blocks-rise table empty = rw empty tt

-- the text of the audit, by what the tables tell
pub audit-is : (image : MetaImage) (lives : List ℕ) (steps : ℕ) (tree : List TreeRow)
    (slots : List SlotRow)
    (paths : List (ℕ × PathNames)) (blocks : List (BlockId × Held)) (out lined now : List ℕ)
    (s : Summary)
    → tree ≡ image.tree → slots ≡ image.slots
    → paths ≡ closed_of [] tree → IsStrictlySortedBy nat_cmp (keys_of paths)
    → blocks ≡ table_of lives [] slots → IsStrictlySortedBy block_cmp (keys_of blocks)
    → lined ≡ out ++ flat_map audit_line (lines_of paths blocks)
    → s.files ≡ count_by is_closed_row tree → s.dirs
    ≡ count_by (λ (row : TreeRow). row.file == 0) tree
    → s.blocks ≡ length (standing_of paths blocks) → s.copies ≡ copies_of (standing_of paths blocks)
    → s.condemned ≡ length image.condemned → s.steps ≡ steps
    → now ≡ lined ++ summary_line s
    → now ≡ out ++ audit_lines (audit_of_image image lives steps)
unfolding audit_of_image summary_of_image
audit-is image lives steps tree slots paths blocks out lined now s tree-is slots-is paths-are
    paths-rise blocks-are blocks-rising lines files dirs standing copies condemned counted told =
    let p : paths ≡ closed_of [] image.tree = paths-are ∙ ap (closed_of []) tree-is in
    let b : blocks ≡ table_of lives [] image.slots = blocks-are ∙ ap (table_of lives []) slots-is in
    let by-number : IsStrictlySortedBy nat_cmp (keys_of (closed_of [] image.tree)) = subst
    (λ (es : List (ℕ × PathNames)). IsStrictlySortedBy nat_cmp (keys_of es)) p paths-rise in
    let by-block : IsStrictlySortedBy block_cmp (keys_of (table_of lives [] image.slots)) = subst
    (λ (es : List (BlockId × Held)). IsStrictlySortedBy block_cmp (keys_of es)) b blocks-rising
    in
    let l : lines_of paths blocks ≡ flat_map (audit_of_file lives image.slots)
    (closed_rows image.tree) = (λ i. lines_of (p i) (b i))
    ∙ lines-are image lives by-number by-block in
    let n : s.blocks ≡ length (standing_blocks image) = standing
    ∙ (λ i. length (standing_of (p i) (b i))) ∙ blocks-counted image lives by-number by-block in
    let k : s.copies ≡ sum_by (current_copies image) (standing_blocks image) = copies
    ∙ (λ i. copies_of (standing_of (p i) (b i)))
    ∙ copies-counted image lives by-number by-block in
    let f : s.files ≡ count_by is_closed_row image.tree = files
    ∙ ap (count_by is_closed_row) tree-is in
    let d : s.dirs ≡ count_by (λ (row : TreeRow). row.file == 0) image.tree = dirs
    ∙ ap (count_by (λ (row : TreeRow). row.file == 0)) tree-is in
    told
    ∙ ap (λ text. text ++ summary_line s) lines
    ∙ append_assoc out (flat_map audit_line (lines_of paths blocks)) (summary_line s)
    ∙ (λ i. out ++ (flat_map audit_line (l i)
    ++ summary_line (record {
      files = f i;
      dirs = d i;
      blocks = n i;
      copies = k i;
      condemned =
          condemned i;
      steps = counted i;
    })))
