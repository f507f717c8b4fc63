-- The slots of a block are code words. The law `slots_of_blocks_are_code_words`.
use Rattle.std.proofs.Common.{◌≡◌, ℕ, zero, suc, ◌+◌, ◌<◌, List, [], ◌∷◌, length, get_or, map, take, refl, sym, subst, arith, zero-add, All}
use Rattle.std.proofs.lemmas.List.FromFn.{length-map-range_with_len, get_or-map-range_with_len}
use Rattle.qfs_base.specs.Mask.{all_slots}
use Rattle.qfs_base.specs.Shape.{Shape}
use Rattle.qfs_model_slot.specs.CodeWord.{IsCodeWord, AreCodeWords, column, parity}
use Rattle.qfs_model_slot.specs.Slot.{data_bytes, byte_of_kind, slot_byte, slot_of, chunk_len}
use Rattle.qfs_laws_code.specs.Parts.{slots_of_block}
use Rattle.qfs_laws_code.proofs.BlockBytes.{slot_byte_lt}

all_mapped : (f : ℕ → ℕ) → ((j : ℕ) → f j < 256) → (js : List ℕ) → All (λ byte. byte < 256) (map f js)
all_mapped f fits [] k d inside = absurd (omega arith)
all_mapped f fits (j ∷ js) zero d inside = fits j
all_mapped f fits (j ∷ js) (suc k) d inside = all_mapped f fits js k d (omega arith)

all_sized : {X : Type 0} (f : ℕ → List X) (size : ℕ) → ((j : ℕ) → length (f j) ≡ size) → (js : List ℕ) → All (λ slot. length slot ≡ size) (map f js)
all_sized f size sized [] k d inside = absurd (omega arith)
all_sized f size sized (j ∷ js) zero d inside = sized j
all_sized f size sized (j ∷ js) (suc k) d inside = all_sized f size sized js k d (omega arith)

module _ (layout : Shape) (bytes : List ℕ) (k : ℕ) where
  pub length-slot_of : (j : ℕ) → length (slot_of layout bytes k j) ≡ chunk_len layout (length bytes) k
  unfolding slot_of
  length-slot_of j = length-map-range_with_len (slot_byte layout bytes k j) 0 (chunk_len layout (length bytes) k)

  slot_of-at : (t j : ℕ) → t < chunk_len layout (length bytes) k → get_or (slot_of layout bytes k j) t 0 ≡ slot_byte layout bytes k j t
  unfolding slot_of
  slot_of-at t j inside =
      get_or-map-range_with_len (slot_byte layout bytes k j) 0 (chunk_len layout (length bytes) k) t t 0 inside (zero-add t)

  -- the bytes at one offset of some slots
  column-slots : (t : ℕ) → t < chunk_len layout (length bytes) k → (js : List ℕ)
      → column (map (slot_of layout bytes k) js) t ≡ map (λ j. slot_byte layout bytes k j t) js
  unfolding column
  column-slots t inside [] = refl
  column-slots t inside (j ∷ js) = λ i. slot_of-at t j inside i ∷ column-slots t inside js i

  parities : (t e : ℕ) → e < 3
      → get_or (map (λ j. slot_byte layout bytes k j t) all_slots) (6 + e) 0 ≡ parity e (take 6 (map (λ j. slot_byte layout bytes k j t) all_slots))
  unfolding slot_byte byte_of_kind data_bytes
  parities t zero low = refl
  parities t (suc zero) low = refl
  parities t (suc (suc zero)) low = refl
  parities t (suc (suc (suc e))) low = absurd (omega arith)

  word : All (λ byte. byte < 256) bytes → (t : ℕ) → IsCodeWord (map (λ j. slot_byte layout bytes k j t) all_slots)
  word each t = record {
    nine = refl;
    bytes = all_mapped (λ j. slot_byte layout bytes k j t) (slot_byte_lt layout bytes k t each) all_slots;
    parities = λ e low. parities t e low;
  }

  pub block_words : All (λ byte. byte < 256) bytes → AreCodeWords (chunk_len layout (length bytes) k) (slots_of_block layout bytes k)
  block_words each = record {
    nine = refl;
    sizes = all_sized (slot_of layout bytes k) (chunk_len layout (length bytes) k) length-slot_of all_slots;
    words = λ t inside. subst IsCodeWord (sym (column-slots t inside all_slots)) (word each t);
  }
