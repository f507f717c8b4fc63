-- Which blocks, rows and windows a range touches.
use Rattle.std.proofs.Common.{◌≡◌, refl, ap, arith, inl, inr, ℕ, zero, suc, ◌+◌, ◌-◌, ◌*◌, ◌/◌, ◌%◌, ◌<◌, ◌≤◌, List, ◌∷◌, ◌++◌, map, length, ◌∙◌}
use Rattle.std.specs.Prelude.{min, max, flat_map, Option, Some, None, ⊤}
use Rattle.std.specs.Iterator.{YieldsFirst, item_count, MakesProgress}
use Rattle.std.specs.Int.{div_ceil}
use Rattle.std.specs.List.{range_with_len}
use Rattle.std.proofs.Math.Nat.{mul-le-mul_right, div-lt_iff_lt-mul}
use Rattle.std.proofs.lemmas.Bool.{cases_lt}
use Rattle.std.proofs.lemmas.Grind.{div_ceil_times}
use Rattle.std.proofs.lemmas.Nat.{div-add-mod', mod_below}
use Rattle.qfs_base.specs.Layout.{block_bytes, row_bytes, blocks_of, window_at, windows_of_rows}
use Rattle.qfs_base.specs.ListLaws.{div_ceil-least}
use Rattle.qfs_stripe.specs.Touched.{IsTouched, AreTouched, AreInOrder, first_touched, past_touched}

-- ---- parts of a number, rounded up

-- a part that is one of them begins before the end
part_begins : (a d q : ℕ) → 0 < d → q < div_ceil a d → q * d < a
part_begins a d q some less =
    let short : div_ceil a d * d < a + d = (div_ceil_times a d some).1 in
    let le : (q + 1) * d ≤ div_ceil a d * d = mul-le-mul_right d (omega (arith, less)) in
    omega (arith, short, le)

-- one that begins before the end is one of them
part_before : (a d q : ℕ) → 0 < d → q * d < a → q < div_ceil a d
part_before a d q some less =
    elim (cases_lt q (div_ceil a d)) [
      | inl before ↦ before
      | inr past ↦
          let whole : a ≤ div_ceil a d * d = (div_ceil_times a d some).0 in
          let le : div_ceil a d * d ≤ q * d = mul-le-mul_right d past in
          absurd (omega (arith, less, whole, le))
    ]

-- the part that a lies in, before the parts of a greater b end
part_of_less : (a b d : ℕ) → 0 < d → a < b → a / d < div_ceil b d
part_of_less a b d some less =
    let whole : b ≤ div_ceil b d * d = (div_ceil_times b d some).0 in
    (div-lt_iff_lt-mul some).1 (omega (arith, less, whole))

-- ---- blocks

pub blocks_are_touched : (s r from to : ℕ) → 0 < block_bytes s r → from < to → AreTouched s r from to (from / block_bytes s r) (blocks_of s r to)
blocks_are_touched s r from to whole some k first past =
    let size = block_bytes s r in
    let split : from / size * size + from % size ≡ from = div-add-mod' from size in
    let rest : from % size < size = mod_below from size whole in
    let le : from / size * size ≤ k * size = mul-le-mul_right size first in
    record { some = some; starts = part_begins to size k whole past; ends = omega (arith, split, rest, le) }

pub block_of_file : (s r from to k : ℕ) → 0 < block_bytes s r → IsTouched s r from to k → k < blocks_of s r to
block_of_file s r from to k whole touched = part_before to (block_bytes s r) k whole touched.starts

-- ---- rows

pub rows_most : (s r to k : ℕ) → 0 < row_bytes s → past_touched s r to k ≤ r
rows_most s r to k some =
    let rows : block_bytes s r ≡ r * row_bytes s = grind arith in
    div_ceil-least (min (to - k * block_bytes s r) (block_bytes s r)) (row_bytes s) r some (omega (arith, rows))

less_inside : (from to start size : ℕ) → 0 < size → from < to → start < to → from < start + size → from - start < min (to - start) size
less_inside from to start size whole some starts ends = omega arith

pub rows_touched : (s r from to k : ℕ) → 0 < block_bytes s r → 0 < row_bytes s → IsTouched s r from to k → first_touched s r from k < past_touched s r to k
rows_touched s r from to k whole some touched =
    part_of_less (from - k * block_bytes s r) (min (to - k * block_bytes s r) (block_bytes s r)) (row_bytes s) some
    (less_inside from to (k * block_bytes s r) (block_bytes s r) whole touched.some touched.starts touched.ends)

-- ---- windows

-- the first of what is told by numbers from a up to b, and the others
pub first_told : {X : Type 0} (f : ℕ → X) (a b : ℕ) (first : X) → a < b → first ≡ f a → map f (range_with_len a (b - a)) ≡ first ∷ map f (range_with_len (a + 1) (b - (a + 1)))
first_told f a b first some is =
    let more : b - a ≡ suc (b - (a + 1)) = omega arith in
    rw is (ap (λ n. map f (range_with_len a n)) more)

-- the items of the first block, and those of the others
pub first_in_blocks : {X : Type 0} (f : ℕ → List X) (a b : ℕ) → a < b → flat_map f (range_with_len a (b - a)) ≡ f a ++ flat_map f (range_with_len (a + 1) (b - (a + 1)))
first_in_blocks f a b some =
    let more : b - a ≡ suc (b - (a + 1)) = omega arith in
    ap (λ n. flat_map f (range_with_len a n)) more

pub some_windows : (k first past : ℕ) → first < past → 0 < length (windows_of_rows k first past)
some_windows k first past some =
    let told = first_told (window_at k first past) (first / 16) (div_ceil past 16) _ (omega arith) refl in
    omega (arith, ap length told)

in_order_from : (k first past r row g n : ℕ) → first < past → past ≤ r → first / 16 ≤ g → g + n ≤ div_ceil past 16 → row ≤ max first (g * 16)
    → AreInOrder k row r (map (window_at k first past) (range_with_len g n))
in_order_from k first past r row g zero some most reached upto behind = tt
in_order_from k first past r row g (suc n) some most reached upto behind =
    let w = window_at k first past g in (
      record { index = refl; behind = behind; some = omega arith; few = omega arith; within = omega arith },
      in_order_from k first past r (w.first_row + w.rows) (g + 1) n some most (omega arith) (omega arith) (omega arith),
    )

pub in_order : (k first past r : ℕ) → first < past → past ≤ r → AreInOrder k first r (windows_of_rows k first past)
in_order k first past r some most =
    in_order_from k first past r first (first / 16) (div_ceil past 16 - first / 16) some most (omega arith) (omega arith) (omega arith)

-- ---- the walk over blocks

-- items stand before others, and one of them is taken
pub first_of_front : {X : Type 0} (all front rest : List X) (given : Option X) (left : List X) → all ≡ front ++ rest → 0 < length front
    → YieldsFirst (λ xs. xs) front given left → YieldsFirst (λ xs. xs) all given (left ++ rest)
first_of_front all front rest None left is some yields = absurd (omega (arith, ap length yields.0))
first_of_front all front rest (Some x) left is some yields = is ∙ ap (λ xs. xs ++ rest) yields

-- so fewer are left
pub fewer_left : {X : Type 0} (all : List X) (given : Option X) (left : List X) → 0 < length all → YieldsFirst (λ xs. xs) all given left
    → MakesProgress (λ _. ⊤) (item_count (λ xs. xs)) all given left
fewer_left all None left some yields = absurd (omega (arith, ap length yields.0))
fewer_left all (Some x) left some yields = record { on = λ _. (tt, tt, omega (arith, ap length yields)); keeps = tt; rests = λ _. tt }
