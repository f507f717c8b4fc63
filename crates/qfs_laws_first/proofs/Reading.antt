-- The row of a get of a file of at most one row: its six stripes, and the bytes that they give.
-- Cited by the steps of a get.
use Rattle.std.proofs.Common.{inl, inr, ◌≡◌, ◌∙◌, sym, ap, subst, refl, arith, ℕ, zero, suc, ◌+◌}
use Rattle.std.proofs.Common.{◌*◌, ◌/◌, ◌%◌, ◌<◌, ◌≤◌, nat_lt, min, true, List, [], ◌∷◌, ◌++◌}
use Rattle.std.proofs.Common.{length, take, drop, map, slice_index}
use Rattle.std.proofs.Math.Nat.{zero-mul, zero-div, sub-zero, div-eq_of_lt, mod-eq_of_lt, mod_self}
use Rattle.std.proofs.Math.Nat.{div-eq_of_eq-mul_left, eq-or-lt_of_le}
use Rattle.std.proofs.Math.Seq.{take-length}
use Rattle.std.proofs.lemmas.Bool.Decides.{nat_tests}
use Rattle.std.proofs.lemmas.Grind.{same_number_lists}
use Rattle.std.proofs.lemmas.List.{append-nil, map-append}
use Rattle.std.proofs.lemmas.List.FromFn.{length-map-range_with_len, get_or-map-range_with_len}
use Rattle.std.proofs.lemmas.List.FromFn.{take-map-range_with_len}
use Rattle.std.specs.Int.{div_ceil}
use Rattle.std.specs.List.{All, flat_map, range_with_len}
use Rattle.qfs_base.specs.Layout.{row_bytes, block_bytes, rows_of, blocks_of, blocks_touched}
use Rattle.qfs_base.specs.Layout.{windows_touched}
use Rattle.qfs_base.specs.Shape.{Shape}
use Rattle.qfs_base.specs.declared.layout.Window.{Window}
use Rattle.qfs_model_slot.specs.Slot.{data_byte, byte_of_kind, slot_byte, slot_of}
use Rattle.qfs_model_actor.specs.Pieces.{Piece, piece_of, given_or_restored, data_of, row_of}
use Rattle.qfs_model_actor.specs.Pieces.{rows_of_file}
use Rattle.qfs_model_actor.specs.Windows.{window_offset, cut_to_range}

-- ---- one row

-- a number from 1 to m is one m-th, rounded up
div_ceil-one : (n m : ℕ) → 0 < n → n ≤ m → div_ceil n m ≡ 1
div_ceil-one n m some most =
    elim (eq-or-lt_of_le most) [
      | inl whole ↦
          let once : n / m ≡ 1 = div-eq_of_eq-mul_left (omega arith) (omega arith) in
          let none : n % m ≡ 0 = rw whole (mod_self m) in
          rw (once, none) refl
      | inr less ↦
          let none : n / m ≡ 0 = div-eq_of_lt less in
          let all : n % m ≡ n = mod-eq_of_lt less in
          rw (none, all) (omega arith)
    ]

-- a file of at most one row
pub record IsOfOneRow (layout : Shape) (len : ℕ) : Type 0 where
  pub some : 0 < len
  pub most : len ≤ 6 * layout.s
  pub rows : 1 ≤ layout.r

inside_block : (s r len : ℕ) → len ≤ 6 * s → 1 ≤ r → len ≤ 6 * s * r
inside_block s r len most rows = grind arith

pub blocks_of-one : (layout : Shape) (len : ℕ) → IsOfOneRow layout len
    → blocks_of layout.s layout.r len ≡ 1
blocks_of-one layout len short =
    div_ceil-one len (block_bytes layout.s layout.r) short.some
    (inside_block layout.s layout.r len short.most short.rows)

pub rows_of-one : (layout : Shape) (len : ℕ) → IsOfOneRow layout len
    → rows_of layout.s layout.r len 0 ≡ 1
rows_of-one layout len short =
    let none : 0 * block_bytes layout.s layout.r ≡ 0 = zero-mul (block_bytes layout.s layout.r) in
    let inside : len ≤ block_bytes layout.s layout.r =
    inside_block layout.s layout.r len short.most short.rows in
    let all : min len (block_bytes layout.s layout.r) ≡ len = omega arith in
    rw (none, sub-zero len, all) (div_ceil-one len (row_bytes layout.s) short.some short.most)

pub blocks_touched-one : (layout : Shape) (len : ℕ) → IsOfOneRow layout len
    → blocks_touched layout.s layout.r 0 len ≡ 0 ∷ []
blocks_touched-one layout len short =
    rw (zero-div (block_bytes layout.s layout.r), blocks_of-one layout len short) refl

-- the one row
abbrev pub first_row : Window
first_row = record { index = 0; first_row = 0; rows = 1 }

pub windows_touched-one : (layout : Shape) (len : ℕ) → IsOfOneRow layout len
    → windows_touched layout.s layout.r 0 len 0 ≡ first_row ∷ []
windows_touched-one layout len short =
    let none : 0 * block_bytes layout.s layout.r ≡ 0 = zero-mul (block_bytes layout.s layout.r) in
    let inside : len ≤ block_bytes layout.s layout.r =
    inside_block layout.s layout.r len short.most short.rows in
    let all : min len (block_bytes layout.s layout.r) ≡ len = omega arith in
    rw (
      none,
      sub-zero len,
      all,
      zero-div (row_bytes layout.s),
      div_ceil-one len (row_bytes layout.s) short.some short.most,
    ) refl

-- ---- the bytes of a stripe

map-shifted : (f g : ℕ → ℕ) (a c n : ℕ) → ((i : ℕ) → i < n → f (a + i) ≡ g (c + i))
    → map f (range_with_len a n) ≡ map g (range_with_len c n)
map-shifted f g a c zero same = refl
map-shifted f g a c (suc n) same =
    let first : f a ≡ g c =
    (let x : a + 0 ≡ a = omega arith in let y : c + 0 ≡ c = omega arith in
    ap f (sym x) ∙ same 0 (omega arith) ∙ ap g y) in
    let rest = map-shifted f g (a + 1) (c + 1) n
    (λ i below. let x : a + 1 + i ≡ a + suc i = omega arith in let y : c + suc i ≡ c + 1 + i =
    omega arith in ap f x ∙ same (suc i) (omega arith) ∙ ap g y) in
    rw (first, rest) refl

-- the bytes of a file
abbrev byte_at : List ℕ → ℕ → ℕ
byte_at bytes i = slice_index bytes i

stripe_byte : (layout : Shape) (bytes : List ℕ) (j i : ℕ) → j < 6 → i < layout.s
    → slot_byte layout bytes 0 j (0 + i) ≡ byte_at bytes (j * layout.s + i)
unfolding slot_byte byte_of_kind data_byte
stripe_byte layout bytes j i below_six inside =
    let start : 0 + i ≡ i = omega arith in
    let kind : nat_lt j 6 ≡ true = grind (arith, nat_tests) in
    let row : i / layout.s ≡ 0 = div-eq_of_lt inside in
    let at : i % layout.s ≡ i = mod-eq_of_lt inside in
    rw (start, kind, row, at)
    (let sum : 0 * block_bytes layout.s layout.r + 0 * row_bytes layout.s + j * layout.s + i
    ≡ j * layout.s + i = omega arith in
    ap (byte_at bytes) sum)

-- a data slot is a stripe of the file
stripe-is : (layout : Shape) (bytes : List ℕ) (j : ℕ) → j < 6 → IsOfOneRow layout (length bytes)
    → slot_of layout bytes 0 j ≡ map (byte_at bytes) (range_with_len (j * layout.s) layout.s)
unfolding slot_of
stripe-is layout bytes j below_six short =
    let one : rows_of layout.s layout.r (length bytes) 0 * layout.s ≡ layout.s =
    rw (rows_of-one layout (length bytes) short) (omega arith) in
    rw one (map-shifted (slot_byte layout bytes 0 j) (byte_at bytes) 0 (j * layout.s) layout.s
    (λ i below. stripe_byte layout bytes j i below_six below))

pub slot_long : (layout : Shape) (bytes : List ℕ) (j : ℕ) → IsOfOneRow layout (length bytes)
    → length (slot_of layout bytes 0 j) ≡ layout.s
unfolding slot_of
slot_long layout bytes j short =
    let one : rows_of layout.s layout.r (length bytes) 0 * layout.s ≡ layout.s =
    rw (rows_of-one layout (length bytes) short) (omega arith) in
    length-map-range_with_len (slot_byte layout bytes 0 j) 0 _ ∙ one

map-joined : (f : ℕ → ℕ) (a n m : ℕ)
    → map f (range_with_len a n) ++ map f (range_with_len (a + n) m)
    ≡ map f (range_with_len a (n + m))
map-joined f a zero m =
    let x : a + 0 ≡ a = omega arith in let y : 0 + m ≡ m = omega arith in rw (x, y) refl
map-joined f a (suc n) m =
    let x : a + suc n ≡ a + 1 + n = omega arith in
    let y : suc n + m ≡ suc (n + m) = omega arith in
    rw (x, y) (ap (λ rest. f a ∷ rest) (map-joined f (a + 1) n m))

-- the six stripes
abbrev pub stripes_of : Shape → List ℕ → List (List ℕ)
stripes_of layout bytes = map (λ j. slot_of layout bytes 0 j) (range_with_len 0 6)

stripes-joined : (f : ℕ → ℕ) (s : ℕ)
    → flat_map (λ j. map f (range_with_len (j * s) s)) (range_with_len 0 6)
    ≡ map f (range_with_len 0 (6 * s))
stripes-joined f s =
    let start : 0 * s ≡ 0 = zero-mul s in
    subst (λ a. flat_map (λ j. map f (range_with_len (j * s) s)) (range_with_len 0 6)
    ≡ map f (range_with_len a (6 * s))) start (joined 0 6)
  where
    joined : (a n : ℕ) → flat_map (λ j. map f (range_with_len (j * s) s)) (range_with_len a n)
        ≡ map f (range_with_len (a * s) (n * s))
    joined a zero = let none : 0 * s ≡ 0 = zero-mul s in rw none refl
    joined a (suc n) =
        let next : (a + 1) * s ≡ a * s + s = grind arith in
        let all : suc n * s ≡ s + n * s = grind arith in
        ap (λ rest. map f (range_with_len (a * s) s) ++ rest) (joined (a + 1) n)
        ∙ rw (next, all) (map-joined f (a * s) s (n * s))

flat-map : (f g : ℕ → List ℕ) (xs : List ℕ) → ((j : ℕ) → f j ≡ g j) → flat_map f xs ≡ flat_map g xs
flat-map f g [] same = refl
flat-map f g (x ∷ xs) same = rw (same x, flat-map f g xs same) refl

-- a list of numbers is told by its items
told_by : (xs : List ℕ) → map (byte_at xs) (range_with_len 0 (length xs)) ≡ xs
told_by xs =
    same_number_lists _ xs (length-map-range_with_len (byte_at xs) 0 (length xs))
    (λ k inside. let below : k < length xs =
    omega (arith, inside, length-map-range_with_len (byte_at xs) 0 (length xs)) in
    get_or-map-range_with_len (byte_at xs) 0 (length xs) k k 0 below (omega arith))

stripes-are : (layout : Shape) (bytes : List ℕ) → IsOfOneRow layout (length bytes)
    → flat_map (λ piece. piece) (stripes_of layout bytes) ≡ map (byte_at bytes)
    (range_with_len 0 (6 * layout.s))
stripes-are layout bytes short =
    let s0 = stripe-is layout bytes 0 (omega arith) short in
    let s1 = stripe-is layout bytes 1 (omega arith) short in
    let s2 = stripe-is layout bytes 2 (omega arith) short in
    let s3 = stripe-is layout bytes 3 (omega arith) short in
    let s4 = stripe-is layout bytes 4 (omega arith) short in
    let s5 = stripe-is layout bytes 5 (omega arith) short in
    rw (s0, s1, s2, s3, s4, s5) (stripes-joined (byte_at bytes) layout.s)

-- the file's bytes are those of its stripes, up to its end
pub bytes-joined : (layout : Shape) (bytes : List ℕ) → IsOfOneRow layout (length bytes)
    → take (length bytes) (flat_map (λ piece. piece) (stripes_of layout bytes)) ≡ bytes
bytes-joined layout bytes short =
    ap (take (length bytes)) (stripes-are layout bytes short)
    ∙ take-map-range_with_len (byte_at bytes) 0 (6 * layout.s) (length bytes) short.most
    ∙ told_by bytes

-- ---- what is kept of the row

-- the slots below a number, with their bytes
abbrev pub piece : Shape → List ℕ → ℕ → Piece
piece layout bytes j = record { slot = j; bytes = slot_of layout bytes 0 j }

abbrev pub pieces_to : Shape → List ℕ → ℕ → List Piece
pieces_to layout bytes slot = map (piece layout bytes) (range_with_len 0 slot)

range-more : (a n : ℕ) → range_with_len a (n + 1) ≡ range_with_len a n ++ (a + n) ∷ []
range-more a zero = let x : a + 0 ≡ a = omega arith in rw x refl
range-more a (suc n) =
    let x : a + suc n ≡ a + 1 + n = omega arith in let y : suc n + 1 ≡ suc (n + 1) =
    omega arith in rw (y, x) (ap (λ rest. a ∷ rest) (range-more (a + 1) n))

pub pieces_to-more : (layout : Shape) (bytes : List ℕ) (slot : ℕ)
    → pieces_to layout bytes slot ++ piece layout bytes slot ∷ [] ≡ pieces_to layout bytes
    (slot + 1)
pieces_to-more layout bytes slot =
    let start : 0 + slot ≡ slot = omega arith in
    sym (ap (map (piece layout bytes)) (range-more 0 slot)
    ∙ map-append (piece layout bytes) (range_with_len 0 slot) ((0 + slot) ∷ [])
    ∙ ap (λ j. pieces_to layout bytes slot ++ piece layout bytes j ∷ []) start)

data_of-six : (layout : Shape) (bytes : List ℕ)
    → data_of (pieces_to layout bytes 6) ≡ stripes_of layout bytes
unfolding data_of piece_of given_or_restored
data_of-six layout bytes = refl

row_of-stripes : (s : ℕ) (pieces : List (List ℕ)) → All (λ piece. length piece ≡ s) pieces
    → row_of s pieces 0 ≡ flat_map (λ piece. piece) pieces
unfolding row_of
row_of-stripes s [] each = refl
row_of-stripes s (piece ∷ pieces) each =
    let long : length piece ≡ s = each 0 piece (omega arith) in
    let none : 0 * s ≡ 0 = zero-mul s in
    let whole : take s piece ≡ piece = rw (← long) (take-length piece) in
    let more = row_of-stripes s pieces (λ k d inside. each (suc k) d (omega arith)) in
    let first : take s (drop (0 * s) piece) ≡ piece = rw none whole in
    rw (first, more) refl

stripes-long : (layout : Shape) (bytes : List ℕ) → IsOfOneRow layout (length bytes) → (js : List ℕ)
    → All (λ piece. length piece ≡ layout.s) (map (λ j. slot_of layout bytes 0 j) js)
stripes-long layout bytes short [] k d inside = absurd (omega arith)
stripes-long layout bytes short (j ∷ js) zero d inside = slot_long layout bytes j short
stripes-long layout bytes short (j ∷ js) (suc k) d inside =
    stripes-long layout bytes short js k d (omega arith)

-- the row of six stripes gives the file's bytes
pub row-kept : (layout : Shape) (bytes : List ℕ) → IsOfOneRow layout (length bytes)
    → cut_to_range 0 (length bytes) (window_offset layout first_row)
    (rows_of_file layout.s 1 (data_of (pieces_to layout bytes 6))) ≡ bytes
unfolding cut_to_range window_offset rows_of_file
row-kept layout bytes short =
    let none : 0 * block_bytes layout.s layout.r + 0 * row_bytes layout.s ≡ 0 = omega arith in
    rw (
      none,
      data_of-six layout bytes,
      row_of-stripes layout.s (stripes_of layout bytes)
          (stripes-long layout bytes short (range_with_len 0 6)),
      append-nil (flat_map (λ piece. piece) (stripes_of layout bytes)),
      sub-zero (length bytes),
    )
    (bytes-joined layout bytes short)
