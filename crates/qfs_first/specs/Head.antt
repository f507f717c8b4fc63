-- The lines before the commands.
use Rattle.std.specs.Prelude.{ℕ, ◌&&◌, nat_le, if◌then◌else◌, Bool, List, [], ◌∷◌, codes, Option, Some, None}
use Rattle.std.specs.Int.{is_power_of_two}
use Rattle.std.specs.Option.{option_and_then}
use Rattle.std.specs.Str.{bytes_eq}
use Rattle.qfs_base.specs.Shape.{Shape}
use Rattle.qfs_first.specs.Lines.{words_of}
use Rattle.qfs_first.specs.Numbers.{number_below}

-- a line that is always the same
abbrev pub fixed_form : List ℕ → List ℕ → Option (Unit {0})
fixed_form fixed line = if bytes_eq line fixed then Some tt else None

-- a stripe is a power of two from 16 to 65,536 bytes, and a chunk has at most 1 to 1,024 rows
abbrev pub is_shape : ℕ → ℕ → Bool
is_shape s r = is_power_of_two s && nat_le 16 s && nat_le s 65536 && nat_le 1 r && nat_le r 1024

abbrev pub shape_of : ℕ → ℕ → Option Shape
shape_of s r = if is_shape s r then Some (record { s = s; r = r }) else None

-- the layout that two words write
abbrev pub shape_in : List ℕ → List ℕ → Option Shape
shape_in s r = option_and_then (λ stripe. option_and_then (shape_of stripe) (number_below 1025 r)) (number_below 65537 s)

-- `layout S R`
abbrev pub layout_words : List (List ℕ) → Option Shape
layout_words (word ∷ s ∷ r ∷ []) = if bytes_eq word (codes "layout") then shape_in s r else None
layout_words _ = None

unfoldable pub layout_form : List ℕ → Option Shape
layout_form line = layout_words (words_of line)

-- 9 to 64 servers
abbrev pub enough_servers : ℕ → Option ℕ
enough_servers count = if nat_le 9 count then Some count else None

-- `servers N`
abbrev pub servers_words : List (List ℕ) → Option ℕ
servers_words (word ∷ count ∷ []) =
    if bytes_eq word (codes "servers") then option_and_then enough_servers (number_below 65 count) else None
servers_words _ = None

unfoldable pub servers_form : List ℕ → Option ℕ
servers_form line = servers_words (words_of line)
