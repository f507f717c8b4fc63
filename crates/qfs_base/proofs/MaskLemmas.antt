-- What the bits of a mask say of its rising list, each computed for all 512 masks.
use Rattle.std.proofs.Common.{◌≡◌, ℕ, ◌+◌, ◌*◌, ◌%◌, ◌/◌, ◌^◌, ◌<◌, ◌≤◌, Bool, true, false, cond, ◌&&◌, ◌||◌, eqb, ltb, leb, ◌==◌, List, [], ◌∷◌, length, find, Option, Some, None, bit_and, bit_or, refl, subst, ap, ap₂, ◌∙◌, arith, eqb-true, ltb-true, ne_eqb}
use Rattle.std.specs.List.{list_all}
use Rattle.std.specs.Int.RustNames.{count_ones}
use Rattle.std.proofs.lemmas.Bool.{agree_below, agree_below_at, and_parts}
use Rattle.qfs_base.specs.Mask.{slots_that, has_slot, IsMask, insert_slot, slots_of_bits}

-- whether two lists of slots are one
same : List ℕ → List ℕ → Bool
same [] [] = true
same [] (y ∷ ys) = false
same (x ∷ xs) [] = false
same (x ∷ xs) (y ∷ ys) = eqb x y && same xs ys

same-true : (xs ys : List ℕ) → same xs ys ≡ true → xs ≡ ys
unfolding same
same-true [] [] h = refl
same-true [] (y ∷ ys) h = cc
same-true (x ∷ xs) [] h = cc
same-true (x ∷ xs) (y ∷ ys) h =
    let parts = and_parts (eqb x y) (same xs ys) h in
    ap₂ (λ z zs. z ∷ zs) (eqb-true x y parts.0) (same-true xs ys parts.1)

same_found : Option ℕ → Option ℕ → Bool
same_found None None = true
same_found None (Some y) = false
same_found (Some x) None = false
same_found (Some x) (Some y) = eqb x y

same_found-true : (o p : Option ℕ) → same_found o p ≡ true → o ≡ p
unfolding same_found
same_found-true None None h = refl
same_found-true None (Some y) h = cc
same_found-true (Some x) None h = cc
same_found-true (Some x) (Some y) h = ap Some (eqb-true x y h)

-- ---- tests of each mask, and of each mask and slot

holds_of_masks : (ℕ → Bool) → Bool
holds_of_masks test = agree_below test (λ _. true) 512

of_mask : (test : ℕ → Bool) → holds_of_masks test ≡ true → (bits : ℕ) → bits < 512 → test bits ≡ true
unfolding holds_of_masks
of_mask test h bits l = agree_below_at test (λ _. true) 512 bits h l

module _ (test : ℕ → ℕ → Bool) where
  at_slots : ℕ → Bool
  at_slots bits = agree_below (test bits) (λ _. true) 9

  of_slot : holds_of_masks at_slots ≡ true → (bits s : ℕ) → bits < 512 → s < 9 → test bits s ≡ true
  unfolding at_slots
  of_slot h bits s lb ls = agree_below_at (test bits) (λ _. true) 9 s (of_mask at_slots h bits lb) ls

-- ---- what they compute

rises : ℕ → Bool
rises bits = same (slots_that (has_slot (slots_of_bits bits))) (slots_of_bits bits)

all_rise : holds_of_masks rises ≡ true
unfolding holds_of_masks rises same slots_of_bits slots_that has_slot
all_rise = refl

pub IsMask-slots_of_bits : (bits : ℕ) → bits < 512 → IsMask (slots_of_bits bits)
unfolding rises
IsMask-slots_of_bits bits l = record { rising = same-true (slots_that (has_slot (slots_of_bits bits))) (slots_of_bits bits) (of_mask rises all_rise bits l) }

counted : ℕ → Bool
counted bits = eqb (length (slots_of_bits bits)) (count_ones bits)

all_counted : holds_of_masks counted ≡ true
unfolding holds_of_masks counted slots_of_bits slots_that count_ones
all_counted = refl

pub length-slots_of_bits : (bits : ℕ) → bits < 512 → length (slots_of_bits bits) ≡ count_ones bits
unfolding counted
length-slots_of_bits bits l = eqb-true (length (slots_of_bits bits)) (count_ones bits) (of_mask counted all_counted bits l)

told : ℕ → Bool
told bits = agree_below (λ s. bit_and (bits / 2 ^ s) 1 == 1) (has_slot (slots_of_bits bits)) 9

all_told : holds_of_masks told ≡ true
unfolding holds_of_masks told has_slot slots_of_bits slots_that
all_told = refl

pub bit-has_slot : (bits s : ℕ) → bits < 512 → s < 9 → (bit_and (bits / 2 ^ s) 1 == 1) ≡ has_slot (slots_of_bits bits) s
unfolding told
bit-has_slot bits s lb ls =
    agree_below_at (λ s. bit_and (bits / 2 ^ s) 1 == 1) (has_slot (slots_of_bits bits)) 9 s (of_mask told all_told bits lb) ls

fits : ℕ → Bool
fits bits = list_all (λ s. ltb s 9) (slots_of_bits bits)

all_fit : holds_of_masks fits ≡ true
unfolding holds_of_masks fits slots_of_bits slots_that
all_fit = refl

has_slot-past : (slots : List ℕ) (s : ℕ) → list_all (λ t. ltb t 9) slots ≡ true → 9 ≤ s → has_slot slots s ≡ false
unfolding has_slot
has_slot-past [] s _ _ = refl
has_slot-past (t ∷ ts) s below past =
    let parts = and_parts (ltb t 9) (list_all (λ u. ltb u 9) ts) below in
    let other : t ≡ s → ⊥ = λ same. omega (arith, ltb-true t 9 parts.0) in
    ap₂ (λ x y. x || y) (ne_eqb t s other) (has_slot-past ts s parts.1 past)

pub has_slot_past : (bits s : ℕ) → bits < 512 → 9 ≤ s → has_slot (slots_of_bits bits) s ≡ false
unfolding fits
has_slot_past bits s l past = has_slot-past (slots_of_bits bits) s (of_mask fits all_fit bits l) past

put_in : ℕ → ℕ → Bool
put_in bits s =
    let more = bit_or bits (1 * 2 ^ s % 2 ^ 16) in
    ltb more 512 && same (slots_of_bits more) (insert_slot s (slots_of_bits bits))

all_put_in : holds_of_masks (at_slots put_in) ≡ true
unfolding holds_of_masks at_slots put_in same slots_of_bits slots_that insert_slot
all_put_in = refl

pub bits_with : (bits s : ℕ) → bits < 512 → s < 9
    → (bit_or bits (1 * 2 ^ s % 2 ^ 16) < 512) × (slots_of_bits (bit_or bits (1 * 2 ^ s % 2 ^ 16)) ≡ insert_slot s (slots_of_bits bits))
unfolding put_in
bits_with bits s lb ls =
    let more = bit_or bits (1 * 2 ^ s % 2 ^ 16) in
    let parts = and_parts (ltb more 512) (same (slots_of_bits more) (insert_slot s (slots_of_bits bits))) (of_slot put_in all_put_in bits s lb ls) in
    (ltb-true more 512 parts.0, same-true (slots_of_bits more) (insert_slot s (slots_of_bits bits)) parts.1)

next : ℕ → ℕ → Bool
next bits s =
    same_found (find (λ t. leb s t) (slots_of_bits bits))
    (cond (has_slot (slots_of_bits bits) s) (Some s) (find (λ t. leb (s + 1) t) (slots_of_bits bits)))

all_next : holds_of_masks (at_slots next) ≡ true
unfolding holds_of_masks at_slots next same_found has_slot slots_of_bits slots_that
all_next = refl

find-next : (bits s : ℕ) → bits < 512 → s < 9 → find (λ t. leb s t) (slots_of_bits bits)
    ≡ cond (has_slot (slots_of_bits bits) s) (Some s) (find (λ t. leb (s + 1) t) (slots_of_bits bits))
unfolding next
find-next bits s lb ls = same_found-true _ _ (of_slot next all_next bits s lb ls)

-- the search of a mask's list from a slot on, by whether the mask has the slot
module _ (bits s : ℕ) (slots : List ℕ) (is : slots_of_bits bits ≡ slots) (lb : bits < 512) (ls : s < 9) where
  next_of : find (λ t. leb s t) slots ≡ cond (has_slot slots s) (Some s) (find (λ t. leb (s + 1) t) slots)
  next_of =
      let P : List ℕ → Type 0 = λ xs. find (λ t. leb s t) xs ≡ cond (has_slot xs s) (Some s) (find (λ t. leb (s + 1) t) xs) in
      subst P is (find-next bits s lb ls)

  pub find_here : has_slot slots s ≡ true → find (λ t. leb s t) slots ≡ Some s
  find_here h = next_of ∙ ap (λ b. cond b (Some s) (find (λ t. leb (s + 1) t) slots)) h

  pub find_later : has_slot slots s ≡ false → find (λ t. leb s t) slots ≡ find (λ t. leb (s + 1) t) slots
  find_later h = next_of ∙ ap (λ b. cond b (Some s) (find (λ t. leb (s + 1) t) slots)) h

ends : ℕ → Bool
ends bits = same_found (find (λ t. leb 9 t) (slots_of_bits bits)) None

all_end : holds_of_masks ends ≡ true
unfolding holds_of_masks ends same_found slots_of_bits slots_that
all_end = refl

pub find_past : (bits : ℕ) (slots : List ℕ) → slots_of_bits bits ≡ slots → bits < 512 → find (λ t. leb 9 t) slots ≡ None
unfolding ends
find_past bits slots is l =
    let P : List ℕ → Type 0 = λ xs. find (λ t. leb 9 t) xs ≡ None in
    subst P is (same_found-true _ _ (of_mask ends all_end bits l))
