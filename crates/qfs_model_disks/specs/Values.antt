-- The small values that log records and images are made of.
use Rattle.std.specs.Prelude.{ℕ, ◌&&◌, ◌==◌, not, nat_le, Bool, if◌then◌else◌, List, [], ◌∷◌, length, codes, Option, Some, None}
use Rattle.std.specs.List.{list_all}
use Rattle.std.specs.Option.{option_and_then, option_map}
use Rattle.std.specs.Int.{w16, w32}
use Rattle.std.specs.Str.{bytes_eq}
use Rattle.qfs_base.specs.NameTree.{PathNames}
use Rattle.qfs_base.specs.Path.{IsPath, path_text, slash, split_names}
use Rattle.qfs_base.specs.Sizes.{MOST_FILE_BYTES}
use Rattle.qfs_base.specs.declared.chunk.Copy.{Copy}
use Rattle.qfs_base.specs.declared.request.SlotId.{SlotId}
use Rattle.qfs_record.specs.ChunkRecord.{block, slot}
use Rattle.qfs_record.specs.Part.{Part, counted, number, pair, shaped, such}

-- ---- numbers

-- the number of a server or of an actor: from 1 on
abbrev pub from_one : Part ℕ
from_one = such (nat_le 1) (number w16)

-- how many bytes a file has
abbrev pub file_length : Part ℕ
file_length = such (λ len. nat_le len MOST_FILE_BYTES) (number w32)

-- ---- paths

-- whether a byte may stand in a name, and whether bytes may be one
unfoldable pub is_name_byte : ℕ → Bool
is_name_byte byte = nat_le 33 byte && nat_le byte 126 && not (byte == slash)

unfoldable pub is_name : List ℕ → Bool
is_name name =
    nat_le 1 (length name) && nat_le (length name) 255 && list_all is_name_byte name
    && not (bytes_eq name (codes ".")) && not (bytes_eq name (codes ".."))

-- the path of these names, if they are those of a path
unfoldable pub path_of_names : List (List ℕ) → Option PathNames
path_of_names names = if nat_le (length names) 32 && list_all is_name names then Some names else None

-- the path that a text spells, if it spells one: a slash alone, or a slash before each name
unfoldable pub path_below : List ℕ → Option PathNames
path_below [] = Some []
path_below (byte ∷ bytes) = path_of_names (split_names (byte ∷ bytes))

unfoldable pub path_of_text : List ℕ → Option PathNames
path_of_text [] = None
path_of_text (byte ∷ below) = if byte == slash then path_below below else None

-- a path, as its text with a count before it
unfoldable pub path_at : List ℕ → Option (PathNames × List ℕ)
path_at bytes =
    option_and_then (λ text. option_map (λ path. (path, text.1)) (path_of_text text.0)) ((counted w16).read bytes)

abbrev pub path : Part PathNames
path = record { Fits = IsPath; text = λ names. (counted w16).text (path_text names); read = path_at }

-- ---- slots and copies

-- a slot of a block
abbrev pub slot_id : Part SlotId
slot_id = shaped (λ v. record { block = v.0; slot = v.1 }) (λ id. (id.block, id.slot)) (pair block slot)

-- a server, in a life of it, with a version
abbrev pub copy : Part Copy
copy =
    shaped (λ v. record { server = v.0; life = v.1.0; version = v.1.1 }) (λ c. (c.server, (c.life, c.version)))
    (pair from_one (pair (number w32) (number w32)))
