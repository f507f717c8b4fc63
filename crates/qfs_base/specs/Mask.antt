-- Sets of the slots 0 to 8, as rising lists.
use Rattle.std.specs.Prelude.{◌≡◌, ℕ, ◌^◌, ◌<◌, Bool, true, cond, ltb, ◌==◌, List, [], ◌∷◌, filter, sum_by, refl}
use Rattle.std.specs.Int.{bit_at}
use Rattle.std.specs.List.{range_with_len, list_any}
use Rattle.std.proofs.lemmas.Bool.{agree_below, agree_below_at, eqb-true}

-- the slots of a block
abbrev pub all_slots : List ℕ
all_slots = range_with_len 0 9

-- those that pass a test, rising
unfoldable pub slots_that : (ℕ → Bool) → List ℕ
slots_that test = filter test all_slots

-- whether a slot is among these
unfoldable pub has_slot : List ℕ → ℕ → Bool
has_slot slots s = list_any (λ t. t == s) slots

-- a set of slots, as a rising list: the slots that it has, picked in order from all, are the list
pub record IsMask (slots : List ℕ) : Type 0 where
  pub rising : slots_that (has_slot slots) ≡ slots

-- a rising list with one slot put in
unfoldable pub insert_slot : ℕ → List ℕ → List ℕ
insert_slot s [] = s ∷ []
insert_slot s (t ∷ ts) = cond (ltb s t) (s ∷ t ∷ ts) (cond (s == t) (t ∷ ts) (t ∷ insert_slot s ts))

-- the set whose slot s is told by bit s of a number
unfoldable pub slots_of_bits : ℕ → List ℕ
slots_of_bits bits = slots_that (λ s. bit_at bits s == 1)

unfoldable pub bits_of_slots : List ℕ → ℕ
bits_of_slots slots = sum_by (λ s. 2 ^ s) slots

return : ℕ → Bool
return bits = bits_of_slots (slots_of_bits bits) == bits

all_return : agree_below return (λ _. true) 512 ≡ true
unfolding return slots_of_bits slots_that bits_of_slots
all_return = refl

pub bits_of_slots-slots_of_bits : (bits : ℕ) → bits < 512 → bits_of_slots (slots_of_bits bits) ≡ bits
unfolding return
bits_of_slots-slots_of_bits bits within =
    eqb-true (bits_of_slots (slots_of_bits bits)) bits (agree_below_at return (λ _. true) 512 bits all_return within)
