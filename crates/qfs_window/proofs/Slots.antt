-- The parts of the slots of a window, and what is restored from them.
use Rattle.std.proofs.Common.{◌≡◌, ◌≢◌, ◌∙◌, refl, ap, sym, arith, inl, inr, ℕ, ◌+◌, ◌*◌, ◌<◌, ◌≤◌, ◌==◌, Bool, true, false, ltb, List, [], ◌∷◌, ◌++◌, length, take, drop, Option, Some, None, length-drop}
use Rattle.std.proofs.Math.Nat.{mul-le-mul_right}
use Rattle.std.proofs.lemmas.Bool.{cases_lt, cases_Bool, eqb-true}
use Rattle.std.proofs.lemmas.Bool.Decides.{nat_tests}
use Rattle.std.proofs.lemmas.List.{drop-take, length-take-le}
use Rattle.std.proofs.lemmas.List.FromFn.{get_or-map-range_with_len}
use Rattle.std.proofs.lemmas.Slice.{take-put_mid_below, drop-put_mid}
use borrow.Rule.Slice.PartMut.{put_mid}
use Rattle.qfs_base.specs.Mask.{has_slot, insert_slot}
use Rattle.qfs_code.specs.Code.{slots_of}
use Rattle.qfs_model_slot.specs.CodeWord.{slot_at}
use Rattle.qfs_model_slot.specs.Restored.{restored}
use Rattle.qfs_model_actor.specs.Pieces.{Piece, piece_of, bytes_in, slots_in, len_of, nine_of, restored_slot}
use Rattle.qfs_window.specs.Parts.{part_at, piece_at, pieces_of, AreBelow}

-- where another part begins
part_before : (size j slot : ℕ) → j < slot → j * size + size ≤ slot * size
part_before size j slot less = let le : (j + 1) * size ≤ slot * size = mul-le-mul_right size (omega arith) in omega (arith, le)

-- the other parts stay where one is written
pub part_at-put_mid : (size slot k : ℕ) (nine bytes : List ℕ) → k ≡ size → slot < 9 → length nine ≡ 9 * size → length bytes ≡ size
    → (j : ℕ) → j ≢ slot → part_at size (put_mid (slot * size) k nine bytes) j ≡ part_at size nine j
part_at-put_mid size slot k nine bytes whole within long filled j other =
    let inside : slot * size ≤ length nine = let b = part_before size slot 9 within in omega (arith, b, long) in
    elim (cases_lt j slot) [
      | inl less ↦
          let end : j * size + size ≤ slot * size = part_before size j slot less in
          sym (drop-take (j * size) size (put_mid (slot * size) k nine bytes))
          ∙ ap (drop (j * size)) (take-put_mid_below (slot * size) k nine bytes (j * size + size) end inside)
          ∙ drop-take (j * size) size nine
      | inr more ↦
          let start : slot * size + k ≤ j * size = let b = part_before size slot j (omega (arith, more, other)) in omega (arith, b, whole) in
          ap (take size) (drop-put_mid (slot * size) k nine bytes (j * size) start inside (omega (arith, filled, whole)))
    ]

length-part_at : (size : ℕ) (nine : List ℕ) (j : ℕ) → j < 9 → length nine ≡ 9 * size → length (part_at size nine j) ≡ size
length-part_at size nine j within long =
    let b = part_before size j 9 within in
    let left = length-drop (j * size) nine in
    length-take-le size (drop (j * size) nine) (omega (arith, b, left, long))

pub slot_at-part : (size : ℕ) (nine : List ℕ) (j : ℕ) → j < 9 → slot_at (slots_of 9 size nine) j ≡ part_at size nine j
unfolding slots_of
slot_at-part size nine j within = get_or-map-range_with_len (part_at size nine) 0 9 j j [] within (omega arith)

-- ---- the pieces of slots

choose_piece : ℕ → List ℕ → ℕ → Bool → Option Piece
choose_piece size nine j true = Some (piece_at size nine j)
choose_piece size nine j false = None

piece_of-pieces : (size : ℕ) (nine have : List ℕ) (j : ℕ) → piece_of (pieces_of size nine have) j ≡ choose_piece size nine j (has_slot have j)
unfolding piece_of pieces_of has_slot choose_piece
piece_of-pieces size nine [] j = refl
piece_of-pieces size nine (t ∷ have) j =
    elim (cases_Bool (t == j)) [
      | inl same ↦ rw same (ap (λ slot. Some (piece_at size nine slot)) (eqb-true t j same))
      | inr other ↦ rw other (piece_of-pieces size nine have j)
    ]

slots_in-pieces : (size : ℕ) (nine have : List ℕ) → slots_in (pieces_of size nine have) ≡ have
unfolding pieces_of
slots_in-pieces size nine [] = refl
slots_in-pieces size nine (t ∷ have) = ap (λ more. t ∷ more) (slots_in-pieces size nine have)

len_of-pieces : (size : ℕ) (nine have : List ℕ) → length nine ≡ 9 * size → AreBelow 9 have → 0 < length have → len_of (pieces_of size nine have) ≡ size
unfolding pieces_of
len_of-pieces size nine [] long below some = absurd (omega (arith, some))
len_of-pieces size nine (t ∷ have) long below some = length-part_at size nine t below.0 long

below-member : (limit : ℕ) (have : List ℕ) (j : ℕ) → AreBelow limit have → has_slot have j ≡ true → j < limit
unfolding has_slot
below-member limit [] j below member = absurd (cc)
below-member limit (t ∷ have) j below member =
    elim (cases_Bool (t == j)) [
      | inl same ↦ rw (← eqb-true t j same) below.0
      | inr other ↦ below-member limit have j below.1 (sym (rw other refl) ∙ member)
    ]

-- what stands in the parts that aren't at hand has no influence on what is restored
abbrev pub NoInfluence : Type 0
NoInfluence =
    (have : List ℕ) (size : ℕ) (nine others : List (List ℕ)) (want : ℕ) → length nine ≡ length others
    → ((j : ℕ) → has_slot have j ≡ true → slot_at nine j ≡ slot_at others j)
    → restored have size nine want ≡ restored have size others want

nine_of-pieces : (size : ℕ) (nine have : List ℕ) (j : ℕ) → j < 9 → has_slot have j ≡ true → slot_at (nine_of (pieces_of size nine have)) j ≡ part_at size nine j
unfolding choose_piece
nine_of-pieces size nine have j within member =
    let found : piece_of (pieces_of size nine have) j ≡ Some (piece_at size nine j) = piece_of-pieces size nine have j ∙ ap (choose_piece size nine j) member in
    get_or-map-range_with_len (λ slot. bytes_in (piece_of (pieces_of size nine have) slot)) 0 9 j j [] within (omega arith)
    ∙ ap bytes_in found

-- a slot that is made anew from six
pub restored_slot-pieces : NoInfluence → (size : ℕ) (nine have : List ℕ) (j : ℕ) → length nine ≡ 9 * size → AreBelow 9 have → 0 < length have
    → restored_slot (pieces_of size nine have) j ≡ restored have size (slots_of 9 size nine) j
unfolding restored_slot slots_of
restored_slot-pieces law size nine have j long below some =
    rw (slots_in-pieces size nine have, len_of-pieces size nine have long below some)
    (law have size (nine_of (pieces_of size nine have)) (slots_of 9 size nine) j refl
    (λ i member.
    let within : i < 9 = below-member 9 have i below member in
    nine_of-pieces size nine have i within member ∙ sym (slot_at-part size nine i within)))

-- ---- one slot more

pub insert_slot-last : (slot : ℕ) (have : List ℕ) → AreBelow slot have → insert_slot slot have ≡ have ++ slot ∷ []
unfolding insert_slot
insert_slot-last slot [] below = refl
insert_slot-last slot (t ∷ have) below =
    let past : ltb slot t ≡ false = grind (arith, nat_tests, below.0) in
    let other : (slot == t) ≡ false = grind (arith, nat_tests, below.0) in
    rw (past, other) (ap (λ more. t ∷ more) (insert_slot-last slot have below.1))

pub AreBelow-push : (slot : ℕ) (have : List ℕ) → AreBelow slot have → AreBelow (slot + 1) (have ++ slot ∷ [])
AreBelow-push slot [] below = (omega arith, tt)
AreBelow-push slot (t ∷ have) below = (omega (arith, below.0), AreBelow-push slot have below.1)

pub AreBelow-more : (slot limit : ℕ) (have : List ℕ) → slot ≤ limit → AreBelow slot have → AreBelow limit have
AreBelow-more slot limit [] le below = tt
AreBelow-more slot limit (t ∷ have) le below = (omega (arith, below.0, le), AreBelow-more slot limit have le below.1)
