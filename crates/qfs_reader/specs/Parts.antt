-- The bytes that the slots of a block gave in a window, one slot after another in one list.
use Rattle.std.specs.Prelude.{◌≡◌, ◌≢◌, ℕ, ◌*◌, ◌<◌, List, [], ◌∷◌, ◌++◌, take, drop, map, true, ⊤}
use Rattle.std.specs.List.{range_with_len}
use Rattle.qfs_base.specs.Mask.{has_slot}
use Rattle.qfs_base.specs.Sizes.{DATA_SLOTS, SLOTS}
use Rattle.qfs_code.specs.Code.{slots_of}
use Rattle.qfs_model_slot.specs.Restored.{restored}
use Rattle.qfs_model_actor.specs.Pieces.{Piece, data_of, row_of, rows_of_file}
use Rattle.qfs_model_actor.specs.Windows.{cut_to_range}

-- the part of slot j, where each part has `size` bytes
abbrev pub part_at : ℕ → List ℕ → ℕ → List ℕ
part_at size nine j = take size (drop (j * size) nine)

-- the parts of the data slots
abbrev pub data_parts : ℕ → List ℕ → List (List ℕ)
data_parts size nine = map (part_at size nine) (range_with_len 0 DATA_SLOTS)

-- what slot j gave
abbrev pub piece_at : ℕ → List ℕ → ℕ → Piece
piece_at size nine j = record { slot = j; bytes = part_at size nine j }

-- what these slots gave
unfoldable pub pieces_of : ℕ → List ℕ → List ℕ → List Piece
pieces_of size nine have = map (piece_at size nine) have

-- these pieces and one more
abbrev pub with_piece : List Piece → ℕ → List ℕ → List Piece
with_piece pieces slot bytes = pieces ++ record { slot = slot; bytes = bytes } ∷ []

-- the part of a slot as those at hand give it
abbrev pub restored_part : ℕ → List ℕ → List ℕ → ℕ → List ℕ
restored_part size nine have want = restored have size (slots_of SLOTS size nine) want

-- no part but this slot's has changed, and none of a slot at hand has
abbrev pub IsSameBut : ℕ → ℕ → List ℕ → List ℕ → Type 0
IsSameBut size slot old new = (j : ℕ) → j ≢ slot → part_at size new j ≡ part_at size old j

abbrev pub IsSameAtHand : ℕ → List ℕ → List ℕ → List ℕ → Type 0
IsSameAtHand size have old new =
    (j : ℕ) → has_slot have j ≡ true → part_at size new j ≡ part_at size old j

-- all of these lie below one
abbrev pub AreBelow : ℕ → List ℕ → Type 0
AreBelow slot [] = ⊤
AreBelow slot (s ∷ more) = (s < slot) × AreBelow slot more

-- the bytes of the file in a row of the parts, and in the first rows
abbrev pub row_of_parts : ℕ → ℕ → List ℕ → ℕ → List ℕ
row_of_parts stripe size nine row = row_of stripe (data_parts size nine) row

abbrev pub rows_of_parts : ℕ → ℕ → ℕ → List ℕ → List ℕ
rows_of_parts stripe size rows nine = rows_of_file stripe rows (data_parts size nine)

-- the bytes of the file in the rows of a window, of which these slots gave theirs
abbrev pub rows_given : ℕ → ℕ → List ℕ → List ℕ → List ℕ
rows_given stripe rows nine have =
    rows_of_file stripe rows (data_of (pieces_of (rows * stripe) nine have))

-- of bytes that begin at byte `start` of the file, those from `from` up to `to` were added
abbrev pub AddsCut : ℕ → ℕ → ℕ → List ℕ → List ℕ → List ℕ → Type 0
AddsCut from to start bytes before after = after ≡ before ++ cut_to_range from to start bytes
