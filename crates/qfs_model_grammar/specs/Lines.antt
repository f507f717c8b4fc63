-- A text is lines, and a line is words.
use Rattle.std.specs.Prelude.{ℕ, ◌==◌, ◌&&◌, nat_le, not, if◌then◌else◌, Bool, false, List, [], ◌∷◌, length, filter}
use Rattle.std.specs.List.{slice_split, list_all}
use Rattle.qfs_model_text.specs.Line.{Words}

abbrev pub is_line_end : ℕ → Bool
is_line_end byte = byte == 10

abbrev pub is_blank : ℕ → Bool
is_blank byte = byte == 32

-- the pieces without an empty last one
unfoldable pub without_empty_end : List (List ℕ) → List (List ℕ)
without_empty_end [] = []
without_empty_end (piece ∷ []) = if length piece == 0 then [] else piece ∷ []
without_empty_end (piece ∷ next ∷ pieces) = piece ∷ without_empty_end (next ∷ pieces)

-- the lines of a text: the pieces between its line ends, of which an empty last one is no line
unfoldable pub text_lines : List ℕ → List (List ℕ)
text_lines text = without_empty_end (slice_split is_line_end text)

-- whether a line has no byte but blanks and what is visible in ASCII
abbrev pub is_text_byte : ℕ → Bool
is_text_byte byte = nat_le 32 byte && nat_le byte 126

unfoldable pub is_text : List ℕ → Bool
is_text line = list_all is_text_byte line

-- the words of a line: what stands between blanks, at least one of which is between two words
abbrev pub is_word : List ℕ → Bool
is_word piece = not (length piece == 0)

unfoldable pub line_words : List ℕ → Words
line_words line = filter is_word (slice_split is_blank line)

-- a line whose first word begins so is a remark
abbrev pub remark_sign : ℕ
remark_sign = 35

unfoldable pub begins_remark : List ℕ → Bool
begins_remark [] = false
begins_remark (byte ∷ bytes) = byte == remark_sign
