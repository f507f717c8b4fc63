-- The bytes of data slots and parity slots, one stripe and one slot after another.
use Rattle.std.proofs.Common.{true, false, nat_lt, ◌≡◌, ◌∙◌, refl, sym, ap, arith, ℕ, ◌+◌, ◌-◌, ◌*◌, ◌<◌, ◌≤◌, List, length, map, get_or, inl, inr, rules}
use Rattle.std.proofs.lemmas.Nat.{div-mul-add, mod-mul-add, mul-add-lt}
use Rattle.std.proofs.lemmas.Grind.{common_steps, same_number_lists}
use Rattle.std.proofs.lemmas.List.{places}
use Rattle.std.proofs.lemmas.List.FromFn.{length-map-range_with_len, get_or-map-range_with_len}
use Rattle.std.proofs.lemmas.Bool.{cases_lt}
use Rattle.std.proofs.lemmas.Bool.Decides.{nat_tests}
use borrow.Rule.Slice.PartMut.{put_mid}
use Rattle.std.specs.List.{range_with_len}
use Rattle.qfs_base.specs.Shape.{Shape}
use Rattle.qfs_base.specs.Layout.{rows_of}
use Rattle.qfs_code.specs.Code.{slots_of}
use Rattle.qfs_code.proofs.Columns.{length-column, length-slots_of, byte_of_slots}
use Rattle.qfs_model_slot.specs.CodeWord.{column, parity}
use Rattle.qfs_model_slot.specs.Slot.{data_byte, data_bytes, byte_of_kind, slot_byte, slot_of}

-- a list is told by a function where each of its items is
pub told_by : (f : ℕ → ℕ) (n : ℕ) (xs : List ℕ) → length xs ≡ n → ((k : ℕ) → k < length xs → get_or xs k 0 ≡ f k) → xs ≡ map f (range_with_len 0 n)
told_by f n xs long each =
    same_number_lists xs _ (long ∙ sym (length-map-range_with_len f 0 n))
    (λ k inside. let below : k < n = omega arith in each k inside ∙ sym (get_or-map-range_with_len f 0 n k k 0 below (omega arith)))

-- what holds of the bytes before a part that is written, and of the part, holds of all up to its end
pub next_part : (f : ℕ → ℕ) (xs ys : List ℕ) (at n k : ℕ) → n ≡ k → at + k ≤ length xs → length ys ≡ k
    → ((a : ℕ) → a < at → get_or xs a 0 ≡ f a) → ((i : ℕ) → i < length ys → get_or ys i 0 ≡ f (at + i))
    → (a : ℕ) → a < at + k → get_or (put_mid at n xs ys) a 0 ≡ f a
next_part f xs ys at n k e inside long before here a below =
    elim (cases_lt a at) [
      | inl l ↦ let front : get_or (put_mid at n xs ys) a 0 ≡ get_or xs a 0 = first_of (search (rules, places), grind (arith, common_steps, places)) in front ∙ before a l
      | inr g ↦
          let back : get_or (put_mid at n xs ys) a 0 ≡ get_or ys (a - at) 0 = first_of (search (rules, places), grind (arith, common_steps, places)) in
          let sum : at + (a - at) ≡ a = omega arith in
          back ∙ here (a - at) (omega arith) ∙ ap f sum
    ]

-- byte i of the stripe in a row of a data slot
pub data_byte-stripe : (layout : Shape) (bytes : List ℕ) (k j row i : ℕ) → i < layout.s
    → get_or bytes (k * (6 * layout.s * layout.r) + j * layout.s + row * (6 * layout.s) + i) 0 ≡ data_byte layout bytes k j (row * layout.s + i)
unfolding data_byte
data_byte-stripe layout bytes k j row i inside =
    rw (div-mul-add row layout.s i inside, mod-mul-add row layout.s i inside)
    (let sum : k * (6 * layout.s * layout.r) + j * layout.s + row * (6 * layout.s) + i ≡ k * (6 * layout.s * layout.r) + row * (6 * layout.s) + j * layout.s + i = omega arith in
    ap (λ o. get_or bytes o 0) sum)

-- the stripe of one more row stands
pub next_stripe : (layout : Shape) (bytes xs ys : List ℕ) (k j row : ℕ) → row * layout.s + layout.s ≤ length xs → length ys ≡ layout.s
    → ((a : ℕ) → a < row * layout.s → get_or xs a 0 ≡ data_byte layout bytes k j a)
    → ((i : ℕ) → i < length ys → get_or ys i 0 ≡ get_or bytes (k * (6 * layout.s * layout.r) + j * layout.s + row * (6 * layout.s) + i) 0)
    → (a : ℕ) → a < (row + 1) * layout.s
    → get_or (put_mid (row * layout.s) (row * layout.s + layout.s - row * layout.s) xs ys) a 0 ≡ data_byte layout bytes k j a
next_stripe layout bytes xs ys k j row inside long before here a below =
    next_part (data_byte layout bytes k j) xs ys (row * layout.s) _ layout.s (omega arith) inside long before
    (λ i l. let short : i < layout.s = omega arith in here i l ∙ data_byte-stripe layout bytes k j row i short)
    a (grind arith)

-- the bytes of a row are those of the data slots at its place in their chunks, where they stand one after another
row_of_file : (layout : Shape) (bytes six : List ℕ) (k row i : ℕ) → i < layout.s → length six ≡ 6 * layout.s
    → ((x : ℕ) → x < length six → get_or six x 0 ≡ get_or bytes (k * (6 * layout.s * layout.r) + row * (6 * layout.s) + x) 0)
    → column (slots_of 6 layout.s six) i ≡ data_bytes layout bytes k (row * layout.s + i)
unfolding data_bytes
row_of_file layout bytes six k row i inside long each =
    let first = k * (6 * layout.s * layout.r) + row * (6 * layout.s) in
    let wide : length (column (slots_of 6 layout.s six) i) ≡ 6 = length-column (slots_of 6 layout.s six) i ∙ length-slots_of 6 layout.s six in
    told_by (λ j. data_byte layout bytes k j (row * layout.s + i)) 6 _ wide
    (λ j below.
    let slot : j < 6 = omega arith in
    let place : j * layout.s + i < 6 * layout.s = omega (arith, mul-add-lt j layout.s i 6 slot inside) in
    let sum : first + (j * layout.s + i) ≡ k * (6 * layout.s * layout.r) + j * layout.s + row * (6 * layout.s) + i = omega arith in
    byte_of_slots 6 layout.s six j i slot inside ∙ each (j * layout.s + i) (omega arith) ∙ ap (λ o. get_or bytes o 0) sum
    ∙ data_byte-stripe layout bytes k j row i inside)

-- the parity of one more row stands
pub next_parity : (layout : Shape) (bytes six xs ys : List ℕ) (k e row : ℕ) → length six ≡ 6 * layout.s
    → row * layout.s + layout.s ≤ length xs → length ys ≡ layout.s
    → ((x : ℕ) → x < length six → get_or six x 0 ≡ get_or bytes (k * (6 * layout.s * layout.r) + row * (6 * layout.s) + x) 0)
    → ((a : ℕ) → a < row * layout.s → get_or xs a 0 ≡ parity e (data_bytes layout bytes k a))
    → ((i : ℕ) → i < length ys → get_or ys i 0 ≡ parity e (column (slots_of 6 layout.s six) i))
    → (a : ℕ) → a < (row + 1) * layout.s
    → get_or (put_mid (row * layout.s) (row * layout.s + layout.s - row * layout.s) xs ys) a 0 ≡ parity e (data_bytes layout bytes k a)
next_parity layout bytes six xs ys k e row long inside short each before here a below =
    next_part (λ a. parity e (data_bytes layout bytes k a)) xs ys (row * layout.s) _ layout.s (omega arith) inside short before
    (λ i l. let near : i < layout.s = omega arith in here i l ∙ ap (parity e) (row_of_file layout bytes six k row i near long each))
    a (grind arith)

-- the bytes of data slots and of parity slots are those of a slot
pub data_byte-slot : (layout : Shape) (bytes : List ℕ) (k j a : ℕ) → j < 6 → data_byte layout bytes k j a ≡ slot_byte layout bytes k j a
unfolding slot_byte byte_of_kind
data_byte-slot layout bytes k j a inside = let test : nat_lt j 6 ≡ true = grind (arith, nat_tests) in rw test refl

pub parity-slot : (layout : Shape) (bytes : List ℕ) (k j a : ℕ) → 6 ≤ j → parity (j - 6) (data_bytes layout bytes k a) ≡ slot_byte layout bytes k j a
unfolding slot_byte byte_of_kind
parity-slot layout bytes k j a beyond = let test : nat_lt j 6 ≡ false = grind (arith, nat_tests) in rw test refl

-- a chunk is that of a slot where each of its bytes is
pub slot_of-each : (layout : Shape) (bytes chunk : List ℕ) (k j rows : ℕ) → rows ≡ rows_of layout.s layout.r (length bytes) k
    → length chunk ≡ rows * layout.s → ((a : ℕ) → a < length chunk → get_or chunk a 0 ≡ slot_byte layout bytes k j a)
    → chunk ≡ slot_of layout bytes k j
unfolding slot_of
slot_of-each layout bytes chunk k j rows e long each = told_by (slot_byte layout bytes k j) _ chunk (long ∙ ap (λ n. n * layout.s) e) each

-- a row's stripe ends within the rows
pub row_inside : (row rows s n : ℕ) → row < rows → n ≡ rows * s → row * s + s ≤ n
row_inside row rows s n inside e = grind arith
