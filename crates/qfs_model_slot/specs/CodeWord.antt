-- The code of a block: nine slots, of which six hold the file's own bytes and three hold parity. At each offset the nine
-- bytes of the slots are a code word. Sums and products are those of the field of 256 elements.
use Rattle.std.specs.Prelude.{◌≡◌, ℕ, ◌+◌, ◌*◌, ◌<◌, List, [], ◌∷◌, length, take, map, bit_xor, slice_index, slice_index_or, All}
use Rattle.std.specs.List.{range_with_len}
use Rattle.qfs_galois.specs.Field.{product, power}
pub use Rattle.qfs_base.specs.Sizes.{SLOTS, DATA_SLOTS}

-- the slots of the file's own bytes, in order
abbrev pub data_slots : List ℕ
data_slots = range_with_len 0 DATA_SLOTS

-- the sum in the field of 2^(e*i) * d, where i counts the bytes d from here on
unfoldable pub weighted_sum : ℕ → ℕ → List ℕ → ℕ
weighted_sum e i [] = 0
weighted_sum e i (d ∷ ds) = bit_xor (product (power 2 (e * i)) d) (weighted_sum e (i + 1) ds)

-- parity byte e, from 0, of the data bytes of slots 0, 1, 2 and on: the sum over i of 2^(e*i) * d_i
unfoldable pub parity : ℕ → List ℕ → ℕ
parity e data_bytes = weighted_sum e 0 data_bytes

-- nine bytes, of which the last three are the parity of the first six
pub record IsCodeWord (word : List ℕ) : Type 0 where
  pub nine : length word ≡ SLOTS
  pub bytes : All (λ byte. byte < 256) word
  pub parities : (e : ℕ) → e < 3 → slice_index word (DATA_SLOTS + e) ≡ parity e (take DATA_SLOTS word)

-- ---- slots: lists of bytes

-- a slot by its number
abbrev pub slot_at : List (List ℕ) → ℕ → List ℕ
slot_at slots j = slice_index_or slots j []

-- the bytes of the slots at one offset
unfoldable pub column : List (List ℕ) → ℕ → List ℕ
column slots t = map (λ slot. slice_index slot t) slots

-- nine slots of `size` bytes that are a code word at each offset
pub record AreCodeWords (size : ℕ) (slots : List (List ℕ)) : Type 0 where
  pub nine : length slots ≡ SLOTS
  pub sizes : All (λ slot. length slot ≡ size) slots
  pub words : (t : ℕ) → t < size → IsCodeWord (column slots t)
