-- A text is lines, and a line is words.
use Rattle.std.specs.Prelude.{ℕ, ◌==◌, if◌then◌else◌, Bool, List, [], ◌∷◌, length, Option, Some, None}
use Rattle.std.specs.Borrow.{Bor}
use Rattle.std.specs.List.{slice_split}

abbrev pub is_line_end : ℕ → Bool
is_line_end byte = byte == 10

abbrev pub is_blank : ℕ → Bool
is_blank byte = byte == 32

-- the pieces without an empty last one
abbrev pub without_empty_end : List (List ℕ) → List (List ℕ)
without_empty_end [] = []
without_empty_end (piece ∷ []) = if length piece == 0 then [] else piece ∷ []
without_empty_end (piece ∷ next ∷ pieces) = piece ∷ without_empty_end (next ∷ pieces)

-- the lines of a text: the pieces between its line ends, of which an empty last one is no line
unfoldable pub text_lines : List ℕ → List (List ℕ)
text_lines text = without_empty_end (slice_split is_line_end text)

-- the words of a line, where one blank stands between two
unfoldable pub words_of : List ℕ → List (List ℕ)
words_of line = slice_split is_blank line

-- the words that are left of a line: none, where nothing of it is left
abbrev pub words_left : Option (Bor (List ℕ)) → List (List ℕ)
words_left None = []
words_left (Some line) = words_of line.now
