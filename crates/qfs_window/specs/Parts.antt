-- The bytes that the slots of a block gave in a window, one slot after another in one list.
use Rattle.std.specs.Prelude.{◌≡◌, ◌≢◌, ℕ, ◌*◌, ◌<◌, List, [], ◌∷◌, ◌++◌, take, drop, map, ⊤}
use Rattle.qfs_model_actor.specs.Pieces.{Piece}

-- the part of slot j, where each part has `size` bytes
abbrev pub part_at : ℕ → List ℕ → ℕ → List ℕ
part_at size nine j = take size (drop (j * size) nine)

-- what slot j gave
abbrev pub piece_at : ℕ → List ℕ → ℕ → Piece
piece_at size nine j = record { slot = j; bytes = part_at size nine j }

-- what these slots gave
unfoldable pub pieces_of : ℕ → List ℕ → List ℕ → List Piece
pieces_of size nine have = map (piece_at size nine) have

-- these pieces and one more
abbrev pub with_piece : List Piece → ℕ → List ℕ → List Piece
with_piece pieces slot bytes = pieces ++ record { slot = slot; bytes = bytes } ∷ []

-- no part but this slot's has changed
abbrev pub IsSameBut : ℕ → ℕ → List ℕ → List ℕ → Type 0
IsSameBut size slot old new = (j : ℕ) → j ≢ slot → part_at size new j ≡ part_at size old j

-- all of these lie below one
abbrev pub AreBelow : ℕ → List ℕ → Type 0
AreBelow slot [] = ⊤
AreBelow slot (s ∷ more) = (s < slot) × AreBelow slot more
