-- Slots that stand one after another in one list, and the parity slots beside six data slots.
use Rattle.std.specs.Prelude.{ℕ, ◌*◌, List, take, drop, map}
use Rattle.std.specs.List.{range_with_len}
use Rattle.qfs_galois.specs.Field.{power}
use Rattle.qfs_model_slot.specs.Restored.{weighed}

-- what the data slots count in parity slot 6 + e: slot i counts 2 ^ (e * i)
unfoldable pub parity_row : ℕ → List ℕ
parity_row e = map (λ i. power 2 (e * i)) (range_with_len 0 6)

-- the slots that stand one after another in one list, each `size` bytes long: `count` of them
unfoldable pub slots_of : ℕ → ℕ → List ℕ → List (List ℕ)
slots_of count size bytes = map (λ j. take size (drop (j * size) bytes)) (range_with_len 0 count)

-- parity slot 6 + e beside six data slots of `size` bytes
unfoldable pub parity_slot : ℕ → ℕ → List (List ℕ) → List ℕ
parity_slot e size six = weighed (parity_row e) size six

-- the three parity slots beside six data slots of `size` bytes
unfoldable pub parity_slots : ℕ → List (List ℕ) → List (List ℕ)
parity_slots size six = map (λ e. parity_slot e size six) (range_with_len 0 3)
