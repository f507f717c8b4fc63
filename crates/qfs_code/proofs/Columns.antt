-- The bytes of slots at one offset, and the sum of weighed slots by its bytes.
use Rattle.std.proofs.Common.{◌≡◌, ℕ, zero, suc, ◌*◌, ◌<◌, List, [], ◌∷◌, length, get_or, take, drop, refl, arith, ap, ◌∙◌, ◌+◌, get_or-take, get_or-drop}
use Rattle.std.proofs.lemmas.List.{length-map}
use Rattle.std.proofs.lemmas.List.FromFn.{length-map-range_with_len, get_or-map-range_with_len, fill_by_all}
use Rattle.qfs_model_slot.specs.CodeWord.{column, slot_at}
use Rattle.qfs_model_slot.specs.Restored.{dot, weighed}
use Rattle.qfs_code.specs.Code.{slots_of}

pub length-column : (slots : List (List ℕ)) (t : ℕ) → length (column slots t) ≡ length slots
unfolding column
length-column slots t = length-map slots (λ slot. get_or slot t 0)

pub get_or-column : (slots : List (List ℕ)) (t j : ℕ) → get_or (column slots t) j 0 ≡ get_or (slot_at slots j) t 0
unfolding column
get_or-column [] t j = refl
get_or-column (x ∷ xs) t zero = refl
get_or-column (x ∷ xs) t (suc j) = get_or-column xs t j

pub length-slots_of : (count size : ℕ) (bytes : List ℕ) → length (slots_of count size bytes) ≡ count
unfolding slots_of
length-slots_of count size bytes = length-map-range_with_len (λ j. take size (drop (j * size) bytes)) 0 count

pub slot_at-slots_of : (count size : ℕ) (bytes : List ℕ) (j : ℕ) → j < count → slot_at (slots_of count size bytes) j ≡ take size (drop (j * size) bytes)
unfolding slots_of
slot_at-slots_of count size bytes j l = get_or-map-range_with_len (λ j. take size (drop (j * size) bytes)) 0 count j j [] l (omega arith)

pub length-weighed : (weights : List ℕ) (size : ℕ) (slots : List (List ℕ)) → length (weighed weights size slots) ≡ size
unfolding weighed
length-weighed weights size slots = length-map-range_with_len (λ t. dot weights (column slots t)) 0 size

pub get_or-weighed : (weights : List ℕ) (size : ℕ) (slots : List (List ℕ)) (t : ℕ) → t < size → get_or (weighed weights size slots) t 0 ≡ dot weights (column slots t)
unfolding weighed
get_or-weighed weights size slots t l = get_or-map-range_with_len (λ t. dot weights (column slots t)) 0 size t t 0 l (omega arith)

-- a list with those bytes is that sum
pub weighed_by_bytes : (out weights : List ℕ) (size : ℕ) (slots : List (List ℕ)) → length out ≡ size
    → ((t : ℕ) → t < size → get_or out t 0 ≡ dot weights (column slots t)) → out ≡ weighed weights size slots
unfolding weighed
weighed_by_bytes out weights size slots long bytes = fill_by_all (λ t. dot weights (column slots t)) out size 0 long bytes

-- the byte of a slot at an offset, in the list of all
pub byte_of_slots : (count size : ℕ) (bytes : List ℕ) (j t : ℕ) → j < count → t < size → get_or (column (slots_of count size bytes) t) j 0 ≡ get_or bytes (j * size + t) 0
byte_of_slots count size bytes j t slot inside =
    get_or-column (slots_of count size bytes) t j ∙ ap (λ (s : List ℕ). get_or s t 0) (slot_at-slots_of count size bytes j slot)
    ∙ get_or-take size (drop (j * size) bytes) t 0 inside ∙ get_or-drop (j * size) bytes t 0
