-- Parts of code words, and what six of a block's slots give. The laws `parts_are_code_words` and
-- `six_slots_give_each`.
use Rattle.std.proofs.Common.{◌≡◌, ℕ, zero, suc, ◌+◌, ◌<◌, ◌≤◌, true, List, [], ◌∷◌, length, get_or, map, drop, refl, sym, ◌∙◌, subst, arith, ⊎_elim, length-take, length-drop, get_or-take, get_or-drop, All}
use Rattle.std.proofs.lemmas.Bool.{cases_lt}
use Rattle.std.proofs.lemmas.List.{length-map, get_or_past}
use Rattle.qfs_base.specs.Mask.{IsMask, has_slot}
use Rattle.qfs_base.specs.Shape.{Shape}
use Rattle.qfs_code.proofs.Restoring.{restored_is_slot}
use Rattle.qfs_model_slot.specs.CodeWord.{IsCodeWord, AreCodeWords, column, slot_at}
use Rattle.qfs_model_slot.specs.Restored.{restored}
use Rattle.qfs_model_slot.specs.Slot.{chunk_len}
use Rattle.qfs_laws_code.specs.Parts.{part, part_of_slot, slots_of_block}
use Rattle.qfs_laws_code.proofs.Blocks.{block_words}

part_at : (at count t : ℕ) (slot : List ℕ) → t < count → get_or (part at count slot) t 0 ≡ get_or slot (at + t) 0
part_at at count t slot inside = get_or-take count (drop at slot) t 0 inside ∙ get_or-drop at slot t 0

column-parts : (at count t : ℕ) → t < count → (slots : List (List ℕ)) → column (map (part at count) slots) t ≡ column slots (at + t)
unfolding column
column-parts at count t inside [] = refl
column-parts at count t inside (slot ∷ slots) = λ i. part_at at count t slot inside i ∷ column-parts at count t inside slots i

length-part : (size at count : ℕ) (slot : List ℕ) → at + count ≤ size → length slot ≡ size → length (part at count slot) ≡ count
length-part size at count slot within long = omega (arith, length-take count (drop at slot), length-drop at slot, long, within)

sizes : (size at count : ℕ) → at + count ≤ size → (slots : List (List ℕ)) → All (λ slot. length slot ≡ size) slots
    → All (λ slot. length slot ≡ count) (map (part at count) slots)
sizes size at count within [] each k d inside = absurd (omega arith)
sizes size at count within (slot ∷ slots) each zero d inside = length-part size at count slot within (each 0 [] (omega arith))
sizes size at count within (slot ∷ slots) each (suc k) d inside =
    sizes size at count within slots (λ i e below. each (suc i) e (omega arith)) k d (omega arith)

pub part_words : (size at count : ℕ) (slots : List (List ℕ)) → at + count ≤ size → AreCodeWords size slots
    → AreCodeWords count (map (part at count) slots)
part_words size at count slots within code = record {
  nine = length-map slots (part at count) ∙ code.nine;
  sizes = sizes size at count within slots code.sizes;
  words = λ t inside. subst IsCodeWord (sym (column-parts at count t inside slots)) (code.words (at + t) (omega arith));
}

module _ (layout : Shape) (bytes : List ℕ) (k at count : ℕ) where
  nine_parts : List (List ℕ)
  nine_parts = map (part at count) (slots_of_block layout bytes k)

  -- slot j of the nine parts is the part of slot j
  slot_at-parts : (j : ℕ) → j < 9 → slot_at nine_parts j ≡ part_of_slot layout bytes k at count j
  unfolding nine_parts
  slot_at-parts zero low = refl
  slot_at-parts (suc zero) low = refl
  slot_at-parts (suc (suc zero)) low = refl
  slot_at-parts (suc (suc (suc zero))) low = refl
  slot_at-parts (suc (suc (suc (suc zero)))) low = refl
  slot_at-parts (suc (suc (suc (suc (suc zero))))) low = refl
  slot_at-parts (suc (suc (suc (suc (suc (suc zero)))))) low = refl
  slot_at-parts (suc (suc (suc (suc (suc (suc (suc zero))))))) low = refl
  slot_at-parts (suc (suc (suc (suc (suc (suc (suc (suc zero)))))))) low = refl
  slot_at-parts (suc (suc (suc (suc (suc (suc (suc (suc (suc j))))))))) low = absurd (omega arith)

  agree : (have : List ℕ) (nine : List (List ℕ)) → length nine ≡ 9
      → ((j : ℕ) → j < 9 → has_slot have j ≡ true → slot_at nine j ≡ part_of_slot layout bytes k at count j)
      → (j : ℕ) → has_slot have j ≡ true → slot_at nine j ≡ slot_at nine_parts j
  unfolding nine_parts
  agree have nine long read j here =
      ⊎_elim
      (λ (low : j < 9). read j low here ∙ sym (slot_at-parts j low))
      (λ (past : 9 ≤ j). get_or_past nine j [] (omega (arith, long)) ∙ sym (get_or_past nine_parts j [] past))
      (cases_lt j 9)

  pub six_give : (have : List ℕ) (nine : List (List ℕ)) (want : ℕ)
      → All (λ byte. byte < 256) bytes → at + count ≤ chunk_len layout (length bytes) k
      → IsMask have → 6 ≤ length have → want < 9 → length nine ≡ 9
      → ((j : ℕ) → j < 9 → has_slot have j ≡ true → slot_at nine j ≡ part_of_slot layout bytes k at count j)
      → restored have count nine want ≡ part_of_slot layout bytes k at count want
  unfolding nine_parts
  six_give have nine want each within mask enough low long read =
      restored_is_slot have want count nine nine_parts mask enough low long
      (part_words (chunk_len layout (length bytes) k) at count (slots_of_block layout bytes k) within (block_words layout bytes k each))
      (agree have nine long read)
      ∙ slot_at-parts want low
