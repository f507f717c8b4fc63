-- The pieces that are left of a line that is cut at its blanks.
use Rattle.std.specs.Prelude.{◌≡◌, ◌≢◌, ◌≤◌, ℕ, Bool, not, List, [], ◌∷◌, length, filter, Option, Some, None, MatchOption}
use Rattle.std.specs.Borrow.{Bor}
use Rattle.std.specs.List.{slice_split}
use Rattle.qfs_model_text.specs.Line.{Words}
use Rattle.qfs_model_grammar.specs.Kinds.{is_digit, is_times}
use Rattle.qfs_model_grammar.specs.Lines.{is_blank, is_word}

unfoldable pub pieces_of : List ℕ → Words
pieces_of line = slice_split is_blank line

-- none, where nothing of the line is left
abbrev pub pieces_left : Option (Bor (List ℕ)) → Words
pieces_left None = []
pieces_left (Some line) = pieces_of line.now

-- the words among them
unfoldable pub words_among : Words → Words
words_among pieces = filter is_word pieces

-- the texts before and behind the only `x` of a text, or none where it has no `x` or several
abbrev pub IsAroundTimes : List ℕ → Option (Bor (List ℕ) × Bor (List ℕ)) → Type 0
IsAroundTimes text parts =
    MatchOption parts (length (slice_split is_times text) ≢ 2)
    (λ around. slice_split is_times text ≡ around.0.now ∷ around.1.now ∷ [])

-- a byte that is no digit
abbrev pub is_other : ℕ → Bool
is_other byte = not (is_digit byte)

-- a blank, or what is visible in ASCII
abbrev pub IsTextByte : ℕ → Type 0
IsTextByte byte = (32 ≤ byte) × (byte ≤ 126)
