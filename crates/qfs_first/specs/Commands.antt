-- The lines of an actor's commands: puts of bytes that are written out, and gets.
use Rattle.std.specs.Prelude.{ℕ, ◌==◌, ◌&&◌, nat_le, not, if◌then◌else◌, Bool, List, [], ◌∷◌, length, codes, Option, Some, None}
use Rattle.std.specs.List.{list_all}
use Rattle.std.specs.Option.{option_and_then}
use Rattle.std.specs.Result.{result_ok}
use Rattle.std.specs.Str.{bytes_eq}
use Rattle.hex.specs.Hex.{decode_of}
use Rattle.qfs_base.specs.Path.{slash}
use Rattle.qfs_base.specs.declared.command.Command.{Command}
use Rattle.qfs_base.specs.declared.command.Command.TheVariants as Does
use Rattle.qfs_base.specs.declared.command.FileCommand.TheVariants as File
use Rattle.qfs_base.specs.declared.recipe.Form.TheVariants as Told
use Rattle.qfs_first.specs.Lines.{words_of}

-- a byte of a name is visible in ASCII, and no slash
abbrev pub is_name_byte : ℕ → Bool
is_name_byte byte = nat_le 33 byte && nat_le byte 126 && not (byte == slash)

-- a name has 1 to 255 bytes, and is neither `.` nor `..`
abbrev pub is_name : List ℕ → Bool
is_name name = nat_le 1 (length name) && nat_le (length name) 255 && list_all is_name_byte name
    && not (bytes_eq name (codes ".")) && not (bytes_eq name (codes ".."))

-- the path of exactly one name that a word spells: a slash, and the name
unfoldable pub one_name_path : List ℕ → Option (List (List ℕ))
one_name_path [] = None
one_name_path (byte ∷ name) = if byte == slash && is_name name then Some (name ∷ []) else None

abbrev pub few_bytes : List ℕ → Option (List ℕ)
few_bytes bytes = if nat_le 1 (length bytes) && nat_le (length bytes) 32 then Some bytes else None

-- the 1 to 32 bytes that a word tells by hexadecimal digits of either case
unfoldable pub hex_bytes : List ℕ → Option (List ℕ)
hex_bytes digits = option_and_then few_bytes (result_ok (decode_of digits))

abbrev pub put_of : Option (List (List ℕ)) → Option (List ℕ) → Option Command
put_of (Some path) (Some bytes) = Some (Does.File (File.Put path (Told.Hex bytes)))
put_of (Some path) None = None
put_of None bytes = None

abbrev pub get_of : Option (List (List ℕ)) → Option Command
get_of (Some path) = Some (Does.File (File.Get path None))
get_of None = None

-- behind the word `put`: `P hex H`
abbrev pub put_words : List (List ℕ) → Option Command
put_words (path ∷ kind ∷ digits ∷ []) =
    if bytes_eq kind (codes "hex") then put_of (one_name_path path) (hex_bytes digits) else None
put_words _ = None

-- behind the word `get`: `P`
abbrev pub get_words : List (List ℕ) → Option Command
get_words (path ∷ []) = get_of (one_name_path path)
get_words _ = None

-- a command: its first word says which
abbrev pub command_words : List (List ℕ) → Option Command
command_words [] = None
command_words (word ∷ words) =
    if bytes_eq word (codes "put") then put_words words
    else if bytes_eq word (codes "get") then get_words words
    else None

unfoldable pub command_form : List ℕ → Option Command
command_form line = command_words (words_of line)
