-- What six of the nine slots of a block give in a window of rows.
use Rattle.std.specs.Prelude.{ℕ, ◌*◌, ◌==◌, List, [], ◌∷◌, Option, Some, None, map, find, flat_map, take, drop, length}
use Rattle.std.specs.List.{range_with_len}
use Rattle.qfs_base.specs.Mask.{all_slots}
use Rattle.qfs_model_slot.specs.CodeWord.{data_slots}
use Rattle.qfs_model_slot.specs.Restored.{restored}

-- a slot with the bytes that it gave in a window
pub record Piece : Type 0 where
  pub slot : ℕ
  pub bytes : List ℕ

-- the piece of a slot, if it gave one
unfoldable pub piece_of : List Piece → ℕ → Option Piece
piece_of pieces slot = find (λ piece. piece.slot == slot) pieces

abbrev pub bytes_in : Option Piece → List ℕ
bytes_in None = []
bytes_in (Some piece) = piece.bytes

-- the slots that gave their bytes, how long these are, and the bytes of all nine slots
abbrev pub slots_in : List Piece → List ℕ
slots_in pieces = map (λ (piece : Piece). piece.slot) pieces

abbrev pub len_of : List Piece → ℕ
len_of [] = 0
len_of (piece ∷ pieces) = length piece.bytes

abbrev pub nine_of : List Piece → List (List ℕ)
nine_of pieces = map (λ slot. bytes_in (piece_of pieces slot)) all_slots

-- the bytes of a slot, made anew from those of six
unfoldable pub restored_slot : List Piece → ℕ → List ℕ
restored_slot pieces slot = restored (slots_in pieces) (len_of pieces) (nine_of pieces) slot

-- the bytes of a slot: those that it gave, or else made anew
unfoldable pub given_or_restored : List Piece → ℕ → Option Piece → List ℕ
given_or_restored pieces slot (Some piece) = piece.bytes
given_or_restored pieces slot None = restored_slot pieces slot

-- the bytes of each data slot
unfoldable pub data_of : List Piece → List (List ℕ)
data_of pieces = map (λ slot. given_or_restored pieces slot (piece_of pieces slot)) data_slots

-- a row of the file: a stripe of s bytes from each data slot
unfoldable pub row_of : ℕ → List (List ℕ) → ℕ → List ℕ
row_of s data_chunks row = flat_map (λ chunk. take s (drop (row * s) chunk)) data_chunks

-- so many rows of the file, one after another
unfoldable pub rows_of_file : ℕ → ℕ → List (List ℕ) → List ℕ
rows_of_file s rows data_chunks = flat_map (row_of s data_chunks) (range_with_len 0 rows)
