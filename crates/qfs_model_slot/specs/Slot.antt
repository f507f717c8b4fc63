-- The chunks of a file: what each of the nine slots of each block holds.
use Rattle.std.specs.Prelude.{ℕ, ◌-◌, ◌*◌, Bool, true, false, List, map, length, slice_index, nat_lt}
use Rattle.std.specs.List.{range_with_len}
use Rattle.qfs_base.specs.Shape.{Shape}
use Rattle.qfs_base.specs.Layout.{rows_of, offset_of}
use Rattle.qfs_base.specs.Sizes.{DATA_SLOTS}
use Rattle.qfs_model_slot.specs.CodeWord.{data_slots, parity}

-- byte a of data slot j of block k: the file's byte that stands there, or 0 past the file's end
unfoldable pub data_byte : Shape → List ℕ → ℕ → ℕ → ℕ → ℕ
data_byte layout bytes k j a = slice_index bytes (offset_of layout.s layout.r k j a)

-- byte a of each of the six data slots of block k
unfoldable pub data_bytes : Shape → List ℕ → ℕ → ℕ → List ℕ
data_bytes layout bytes k a = map (λ j. data_byte layout bytes k j a) data_slots

-- byte a of slot j of block k, where the flag says whether it is a data slot: a parity slot completes the code word
unfoldable pub byte_of_kind : Shape → List ℕ → ℕ → ℕ → ℕ → Bool → ℕ
byte_of_kind layout bytes k j a true = data_byte layout bytes k j a
byte_of_kind layout bytes k j a false = parity (j - DATA_SLOTS) (data_bytes layout bytes k a)

-- byte a of slot j of block k
unfoldable pub slot_byte : Shape → List ℕ → ℕ → ℕ → ℕ → ℕ
slot_byte layout bytes k j a = byte_of_kind layout bytes k j a (nat_lt j DATA_SLOTS)

-- how long the chunks of block k of a file of len bytes are
abbrev pub chunk_len : Shape → ℕ → ℕ → ℕ
chunk_len layout len k = rows_of layout.s layout.r len k * layout.s

-- the bytes of slot j of block k
unfoldable pub slot_of : Shape → List ℕ → ℕ → ℕ → List ℕ
slot_of layout bytes k j = map (slot_byte layout bytes k j) (range_with_len 0 (chunk_len layout (length bytes) k))
