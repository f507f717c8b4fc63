-- Blocks by file and index, joined with files by number: to go over the blocks once and look the
-- file of each up gives what going over the files gives, and over the blocks of each.
use Rattle.std.proofs.Common.{◌≡◌, ℕ, ◌<◌, ◌≤◌, ◌==◌, Bool, true, false, List, [], ◌∷◌, ◌++◌, Option, Some, None, cond, filter, flat_map, refl, sym, ap, ◌∙◌, arith, append_assoc}
use Rattle.std.specs.List.{AllByRecursion}
use Rattle.std.specs.List.Sorted.{IsStrictlySortedBy}
use Rattle.std.specs.Map.{keys_of}
use Rattle.std.specs.Ordering.{nat_cmp, ordering_then, is_eq}
use Rattle.std.specs.Cmp.{ranked}
use Rattle.std.specs.declared.cmp.Ordering.{Ordering}
use Rattle.std.specs.declared.cmp.Ordering.TheVariants.{Less, Equal, Greater}
use Rattle.qfs_base.specs.Key.{block_cmp}
use Rattle.qfs_base.specs.KeyMap.{value_at}
use Rattle.qfs_base.specs.declared.chunk.BlockId.{BlockId}

-- a number is that of a key exactly where the order says so
pub key-is : (key n : ℕ) → is_eq (nat_cmp key n) ≡ (key == n)
key-is key n =
    elim (nat_cmp key n) as (λ r. nat_cmp key n ≡ r → is_eq r ≡ (key == n)) [
      | Less ↦ λ h. let less : key < n = ranked key n Less (sym h) in grind arith
      | Equal ↦ λ h. let same : key ≡ n = ranked key n Equal (sym h) in grind arith
      | Greater ↦ λ h. let more : n < key = ranked key n Greater (sym h) in grind arith
    ] refl

-- a block before another is of no later file
file-first : (a b : ℕ) (rest : Ordering) → ordering_then (nat_cmp a b) rest ≡ Less → a ≤ b
file-first a b rest less =
    elim (nat_cmp a b) as (λ r. nat_cmp a b ≡ r → ordering_then r rest ≡ Less → a ≤ b) [
      | Less ↦ λ h _. let l : a < b = ranked a b Less (sym h) in omega arith
      | Equal ↦ λ h _. let e : a ≡ b = ranked a b Equal (sym h) in omega arith
      | Greater ↦ λ h g. absurd cc
    ] refl less

-- no number at or below the first of rising ones stands behind it
none-before : {P : Type 0} (n : ℕ) (files : List (ℕ × P))
    → AllByRecursion (λ m. nat_cmp n m ≡ Less) (keys_of files)
    → (k : ℕ) → k ≤ n → value_at nat_cmp files k ≡ None
none-before n [] above k below = refl
none-before n (f ∷ files) above k below =
    let l : n < f.0 = ranked n f.0 Less (sym above.0) in
    let e : is_eq (nat_cmp k f.0) ≡ false = key-is k f.0 ∙ grind arith in
    rw e (none-before n files above.1 k below)

-- no block of a file stands behind one of a later file
no-more : (n : ℕ) (b : BlockId) (blocks : List BlockId) → n < b.file
    → AllByRecursion (λ c. block_cmp b c ≡ Less) blocks
    → filter (λ (c : BlockId). c.file == n) blocks ≡ []
no-more n b [] later rising = refl
no-more n b (c ∷ blocks) later rising =
    let le : b.file ≤ c.file = file-first b.file c.file (nat_cmp b.index c.index) rising.0 in
    let e : (c.file == n) ≡ false = grind arith in
    rw e (no-more n b blocks later rising.1)

module _ {P Y : Type 0} (at : Option P → BlockId → List Y) (nothing : (b : BlockId) → at None b
    ≡ []) where
  -- what the blocks give whose file is looked up
  abbrev pub looked_up : List (ℕ × P) → List BlockId → List Y
  looked_up files blocks = flat_map (λ (b : BlockId). at (value_at nat_cmp files b.file) b) blocks

  -- what those of a file give
  abbrev pub of_file : List BlockId → ℕ × P → List Y
  of_file blocks f = flat_map (λ (b : BlockId). at (Some f.1) b)
      (filter (λ (b : BlockId). b.file == f.0) blocks)

  -- one block more before those of which it is known
  split-first : (n : ℕ) (p : P) (files : List (ℕ × P)) (b : BlockId) (blocks : List BlockId)
      → AllByRecursion (λ m. nat_cmp n m ≡ Less) (keys_of files)
      → AllByRecursion (λ c. block_cmp b c ≡ Less) blocks
      → looked_up ((n, p) ∷ files) blocks ≡ of_file blocks (n, p) ++ looked_up files blocks
      → (is : Bool) → (b.file == n) ≡ is
      → at (cond is (Some p) (value_at nat_cmp files b.file)) b ++ looked_up ((n, p) ∷ files) blocks
      ≡ flat_map (λ (c : BlockId). at (Some p) c)
      (cond is (b ∷ filter (λ (c : BlockId). c.file == n) blocks)
      (filter (λ (c : BlockId). c.file == n) blocks))
      ++ (at (value_at nat_cmp files b.file) b ++ looked_up files blocks)
  split-first n p files b blocks above rising more true is =
      let empty : at (value_at nat_cmp files b.file) b
      ≡ [] = ap (λ v. at v b) (none-before n files above b.file (grind arith)) ∙ nothing b in
      rw (more, empty) (sym (append_assoc (at (Some p) b) (of_file blocks (n, p))
      (looked_up files blocks)))
  split-first n p files b blocks above rising more false is =
      elim (nat_cmp b.file n) as (λ r. nat_cmp b.file n ≡ r → at (value_at nat_cmp files b.file) b
      ++ looked_up ((n, p) ∷ files) blocks ≡ of_file blocks (n, p)
      ++ (at (value_at nat_cmp files b.file) b ++ looked_up files blocks)) [
        | Less ↦ λ h.
            let l : b.file < n = ranked b.file n Less (sym h) in
            let empty : at (value_at nat_cmp files b.file) b
            ≡ [] = ap (λ v. at v b) (none-before n files above b.file (omega arith))
            ∙ nothing b in
            rw (more, empty) refl
        | Equal ↦ λ h. let e : b.file ≡ n = ranked b.file n Equal (sym h) in absurd (grind arith)
        | Greater ↦ λ h.
            let l : n < b.file = ranked b.file n Greater (sym h) in
            rw (more, no-more n b blocks l rising) refl
      ] refl

  -- what the first file's blocks give, and then those of the other files
  split : (n : ℕ) (p : P) (files : List (ℕ × P)) (blocks : List BlockId)
      → AllByRecursion (λ m. nat_cmp n m ≡ Less) (keys_of files)
      → IsStrictlySortedBy block_cmp blocks
      → looked_up ((n, p) ∷ files) blocks ≡ of_file blocks (n, p) ++ looked_up files blocks
  unfolding IsStrictlySortedBy
  split n p files [] above rising = refl
  split n p files (b ∷ blocks) above rising =
      rw (key-is b.file n)
      (split-first n p files b blocks above rising.0 (split n p files blocks above rising.1)
      (b.file == n) refl)

  -- what the blocks give whose files are looked up is what each file's blocks give
  pub joined : (files : List (ℕ × P)) (blocks : List BlockId)
      → IsStrictlySortedBy nat_cmp (keys_of files) → IsStrictlySortedBy block_cmp blocks
      → looked_up files blocks ≡ flat_map (of_file blocks) files
  unfolding IsStrictlySortedBy
  joined [] [] above rising = refl
  joined [] (b ∷ blocks) above rising = rw (nothing b) (joined [] blocks above rising.1)
  joined (f ∷ files) blocks above rising =
      split f.0 f.1 files blocks above.0 rising
      ∙ ap (λ rest. of_file blocks f ++ rest) (joined files blocks above.1 rising)
