-- Six slots of bytes with their three parity slots are code words.
use Rattle.std.proofs.Common.{◌≡◌, ℕ, zero, suc, ◌+◌, ◌*◌, ◌<◌, ◌≤◌, true, ltb, List, [], ◌∷◌, ◌++◌, ◌&&◌, length, get_or, take, drop, All, refl, sym, ap, ap₂, ◌∙◌, arith, lt-ltb, ltb-true, length-append, length-take, length-drop, get_or-take, get_or-drop, take_at, drop_at, get_or-append-add, append_assoc, append-nil, zero-add, zero-mul, le_refl, subst, ⊎_elim}
use Rattle.std.proofs.lemmas.Bool.{and_parts, cases_lt}
use Rattle.std.proofs.lemmas.List.{get_or_past, get_or_default}
use Rattle.std.proofs.lemmas.List.Elements.{All-append}
use Rattle.std.proofs.lemmas.Nat.{row_fits}
use Rattle.std.proofs.lemmas.List.FromFn.{get_or-map-range_with_len}
use Rattle.std.specs.List.{list_all}
use Rattle.qfs_galois.specs.Field.{polynomial_product, remainder, product, power}
use Rattle.qfs_model_slot.specs.CodeWord.{parity, column, slot_at, IsCodeWord, AreCodeWords}
use Rattle.qfs_code.specs.Code.{parity_row, parity_slot, parity_slots, slots_of}
use Rattle.qfs_code.proofs.Parity.{parity_by_row}
use Rattle.qfs_code.proofs.Dot.{dot-lt, all_bytes}
use Rattle.qfs_code.proofs.Columns.{length-column, get_or-column, length-slots_of, length-weighed, get_or-weighed, weighed_by_bytes}

-- ---- bytes

by_places : (ys : List ℕ) → list_all (λ x. ltb x 256) ys ≡ true → All (λ byte. byte < 256) ys
by_places [] _ k d l = absurd (omega arith)
by_places (y ∷ ys) h zero d _ = ltb-true y 256 (and_parts (ltb y 256) (list_all (λ x. ltb x 256) ys) h).0
by_places (y ∷ ys) h (suc k) d l = by_places ys (and_parts (ltb y 256) (list_all (λ x. ltb x 256) ys) h).1 k d (omega arith)

bytes-append : (xs ys : List ℕ) → list_all (λ x. ltb x 256) xs ≡ true → list_all (λ x. ltb x 256) ys ≡ true → list_all (λ x. ltb x 256) (xs ++ ys) ≡ true
bytes-append [] ys _ h = h
bytes-append (x ∷ xs) ys h k =
    let parts = and_parts (ltb x 256) (list_all (λ x. ltb x 256) xs) h in
    ap₂ (λ b c. b && c) parts.0 (bytes-append xs ys parts.1 k)

pub byte_at : (slot : List ℕ) (t : ℕ) → All (λ byte. byte < 256) slot → get_or slot t 0 < 256
byte_at slot t bytes = ⊎_elim (λ inside. bytes t 0 inside) (λ past. omega (arith, get_or_past slot t 0 past)) (cases_lt t (length slot))

pub column_bytes : (slots : List (List ℕ)) (t : ℕ) → All (λ slot. All (λ byte. byte < 256) slot) slots → list_all (λ x. ltb x 256) (column slots t) ≡ true
unfolding column
column_bytes [] t _ = refl
column_bytes (s ∷ ss) t bytes =
    ap₂ (λ b c. b && c) (lt-ltb (get_or s t 0) 256 (byte_at s t (bytes 0 [] (omega arith))))
    (column_bytes ss t (λ k d l. bytes (suc k) d (omega arith)))

row_bytes : (e : ℕ) → e < 3 → list_all (λ x. ltb x 256) (parity_row e) ≡ true
unfolding parity_row power product remainder polynomial_product
row_bytes zero _ = refl
row_bytes (suc zero) _ = refl
row_bytes (suc (suc zero)) _ = refl
row_bytes (suc (suc (suc e))) l = absurd (omega arith)

-- ---- six slots and their parity

column-append : (xs ys : List (List ℕ)) (t : ℕ) → column (xs ++ ys) t ≡ column xs t ++ column ys t
unfolding column
column-append [] ys t = refl
column-append (x ∷ xs) ys t = ap (λ rest. get_or x t 0 ∷ rest) (column-append xs ys t)

module _ (size : ℕ) (six : List (List ℕ)) (long : length six ≡ 6) where
  length-parity_slots : length (parity_slots size six) ≡ 3
  unfolding parity_slots
  length-parity_slots = refl

  slot_at-parity_slots : (e : ℕ) → e < 3 → slot_at (parity_slots size six) e ≡ parity_slot e size six
  unfolding parity_slots
  slot_at-parity_slots e l = get_or-map-range_with_len (λ e. parity_slot e size six) 0 3 e e [] l (omega arith)

  parity_sizes : All (λ slot. length slot ≡ size) (parity_slots size six)
  unfolding parity_slots parity_slot
  parity_sizes zero d _ = length-weighed (parity_row 0) size six
  parity_sizes (suc zero) d _ = length-weighed (parity_row 1) size six
  parity_sizes (suc (suc zero)) d _ = length-weighed (parity_row 2) size six
  parity_sizes (suc (suc (suc k))) d l = absurd (omega arith)

  parity_byte : (e t : ℕ) → e < 3 → t < size → get_or (column (parity_slots size six) t) e 0 ≡ parity e (column six t)
  unfolding parity_slot
  parity_byte e t l lt =
      get_or-column (parity_slots size six) t e ∙ ap (λ s. get_or s t 0) (slot_at-parity_slots e l) ∙ get_or-weighed (parity_row e) size six t lt
      ∙ sym (parity_by_row e (column six t) (length-column six t ∙ long))

  module _ (sizes : All (λ slot. length slot ≡ size) six) (bytes : All (λ slot. All (λ byte. byte < 256) slot) six) where
    parity_bytes : (t : ℕ) → t < size → list_all (λ x. ltb x 256) (column (parity_slots size six) t) ≡ true
    parity_bytes t lt =
        let fits = λ (e : ℕ) (l : e < 3). dot-lt (parity_row e) (column six t) (row_bytes e l) (column_bytes six t bytes) in
        let by_row = λ (e : ℕ). parity_by_row e (column six t) (length-column six t ∙ long) in
        all_bytes (column (parity_slots size six) t)
        (λ k d l. let near : k < 3 = omega (arith, length-column (parity_slots size six) t, length-parity_slots) in
        omega (arith, get_or_default (column (parity_slots size six) t) k d 0 l, parity_byte k t near lt, by_row k, fits k near))

    word : (t : ℕ) → t < size → IsCodeWord (column six t ++ column (parity_slots size six) t)
    word t lt =
        let cs = column six t in
        let ps = column (parity_slots size six) t in
        let six_long : length cs ≡ 6 = length-column six t ∙ long in
        let three_long : length ps ≡ 3 = length-column (parity_slots size six) t ∙ length-parity_slots in
        record {
          nine = omega (arith, length-append cs ps);
          bytes = by_places (cs ++ ps) (bytes-append cs ps (column_bytes six t bytes) (parity_bytes t lt));
          parities = λ e l.
              ap (λ n. get_or (cs ++ ps) (n + e) 0) (sym six_long) ∙ get_or-append-add cs ps e 0 ∙ parity_byte e t l lt
              ∙ ap (parity e) (sym (take_at cs ps 6 six_long));
        }

    pub encoded : AreCodeWords size (six ++ parity_slots size six)
    encoded =
        record {
          nine = omega (arith, length-append six (parity_slots size six), length-parity_slots);
          sizes = All-append (λ slot. length slot ≡ size) six (parity_slots size six) sizes parity_sizes;
          words = λ t lt. subst IsCodeWord (sym (column-append six (parity_slots size six) t)) (word t lt);
        }

-- ---- slots in one list

module _ (count size : ℕ) (bytes : List ℕ) (long : length bytes ≡ count * size) where
  part_at : (k : ℕ) (d : List ℕ) → k < length (slots_of count size bytes) → get_or (slots_of count size bytes) k d ≡ take size (drop (k * size) bytes)
  unfolding slots_of
  part_at k d l =
      get_or-map-range_with_len (λ j. take size (drop (j * size) bytes)) 0 count k k d
      (omega (arith, length-slots_of count size bytes)) (zero-add k)

  pub slots_of_sizes : All (λ slot. length slot ≡ size) (slots_of count size bytes)
  slots_of_sizes k d l =
      let inside : k < count = omega (arith, length-slots_of count size bytes) in
      ap length (part_at k d l)
      ∙ omega (arith, length-take size (drop (k * size) bytes), length-drop (k * size) bytes, row_fits k size count size inside (le_refl size), long)

  pub slots_of_bytes : ((i : ℕ) → get_or bytes i 0 < 256) → All (λ slot. All (λ byte. byte < 256) slot) (slots_of count size bytes)
  slots_of_bytes fits k d l t e lt =
      let part = take size (drop (k * size) bytes) in
      let wide : length part ≤ size = omega (arith, length-take size (drop (k * size) bytes)) in
      let inside : t < length part = omega (arith, ap length (part_at k d l)) in
      let read : get_or (get_or (slots_of count size bytes) k d) t e ≡ get_or bytes (k * size + t) 0 =
      ap (λ s. get_or s t e) (part_at k d l) ∙ get_or_default part t e 0 inside
      ∙ get_or-take size (drop (k * size) bytes) t 0 (omega arith) ∙ get_or-drop (k * size) bytes t 0 in
      omega (arith, read, fits (k * size + t))

pub three_slots : (size : ℕ) (a b c : List ℕ) → length a ≡ size → length b ≡ size → length c ≡ size → slots_of 3 size (a ++ (b ++ c)) ≡ a ∷ b ∷ c ∷ []
unfolding slots_of
three_slots size a b c la lb lc =
    let first : take size (drop (0 * size) (a ++ (b ++ c))) ≡ a =
    ap (λ n. take size (drop n (a ++ (b ++ c)))) (zero-mul size) ∙ take_at a (b ++ c) size la in
    let second : take size (drop (1 * size) (a ++ (b ++ c))) ≡ b =
    ap (take size) (drop_at a (b ++ c) (1 * size) (omega arith)) ∙ take_at b c size lb in
    let third : take size (drop (2 * size) (a ++ (b ++ c))) ≡ c =
    ap (λ xs. take size (drop (2 * size) xs)) (sym (append_assoc a b c))
    ∙ ap (take size) (drop_at (a ++ b) c (2 * size) (omega (arith, length-append a b)))
    ∙ ap (take size) (sym (append-nil c)) ∙ take_at c [] size lc in
    λ i. first i ∷ second i ∷ third i ∷ []

-- a slot whose bytes are parity bytes is that parity slot
pub parity_slot-by_bytes : (e size : ℕ) (six : List (List ℕ)) (out : List ℕ) → length six ≡ 6 → length out ≡ size
    → ((t : ℕ) → t < length out → get_or out t 0 ≡ parity e (column six t)) → out ≡ parity_slot e size six
unfolding parity_slot
parity_slot-by_bytes e size six out long wide bytes =
    weighed_by_bytes out (parity_row e) size six wide
    (λ t l. bytes t (omega arith) ∙ parity_by_row e (column six t) (length-column six t ∙ long))

pub length-parity_slot : (e size : ℕ) (six : List (List ℕ)) → length (parity_slot e size six) ≡ size
unfolding parity_slot
length-parity_slot e size six = length-weighed (parity_row e) size six

-- three lists that are the parity slots, one after another
pub three_parity_slots : (size : ℕ) (six : List (List ℕ)) (a b c : List ℕ) → a ≡ parity_slot 0 size six → b ≡ parity_slot 1 size six → c ≡ parity_slot 2 size six
    → slots_of 3 size (a ++ (b ++ c)) ≡ parity_slots size six
unfolding parity_slots
three_parity_slots size six a b c ea eb ec =
    three_slots size a b c (ap length ea ∙ length-parity_slot 0 size six) (ap length eb ∙ length-parity_slot 1 size six) (ap length ec ∙ length-parity_slot 2 size six)
    ∙ (λ i. ea i ∷ eb i ∷ ec i ∷ [])
