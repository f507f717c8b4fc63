-- What a text says as a script, or the first bad line and what is wrong with it.
--
-- A line is tried for these causes, in this order: a byte that is no text; a first word that may not stand
-- there, or an unknown word for the recipe of a put; too few or too many words; from the left the first word
-- that isn't of its kind or out of its range; a limit that this line is the first to pass. Lines count from 1,
-- with empty ones and remarks.
use Rattle.std.specs.Prelude.{ℕ, ◌+◌, ◌&&◌, nat_le, Bool, if◌then◌else◌, not, List, [], ◌∷◌, length, is_none, Result, Ok, Err, ok_or}
use Rattle.qfs_base.specs.declared.script.Script.{Script}
use Rattle.qfs_base.specs.declared.script.ScriptCause.{ScriptCause}
use Rattle.qfs_base.specs.declared.script.ScriptCause.TheVariants as Cause
use Rattle.qfs_model_script.specs.Limits.{MOST_TEXT_BYTES, MOST_LINES}
use Rattle.qfs_model_text.specs.Line.{Words}
use Rattle.qfs_model_grammar.specs.FirstWord.{FirstWord}
use Rattle.qfs_model_grammar.specs.FirstWords.{first_word, may_stand, may_be_last}
use Rattle.qfs_model_grammar.specs.Lines.{text_lines, is_text, line_words, begins_remark}
use Rattle.qfs_model_grammar.specs.LinePlace.{LinePlace}
use Rattle.qfs_model_grammar.specs.Said.{Said, ◌>>=◌, if_kept}
use Rattle.qfs_model_grammar.specs.SoFar.{SoFar, nothing_yet, take_line}

-- ---- one line

-- the first word of a line that may stand at a place
unfoldable pub first_in : LinePlace → List ℕ → Said FirstWord
first_in place word = do
  first ← ok_or (first_word word) Cause.Word
  if_kept (may_stand place first) Cause.Word first

-- what is read with a line of these words; one without words, or whose first word begins a remark, says nothing
unfoldable pub first_and_more : SoFar → List ℕ → Words → Said SoFar
first_and_more so_far word words = do
  first ← first_in so_far.place word
  take_line so_far first words

unfoldable pub read_words : SoFar → Words → Said SoFar
read_words so_far [] = Ok so_far
read_words so_far (word ∷ words) = if begins_remark word then Ok so_far else first_and_more so_far word words

-- what is read with this line of this number
unfoldable pub read_line : SoFar → ℕ → List ℕ → Said SoFar
read_line so_far number line = do
  text ← if_kept (is_text line) Cause.NotText line
  next ← read_words so_far (line_words text)
  if_kept (nat_le number MOST_LINES) Cause.Limit next

-- ---- all lines

-- the number of a bad line and its cause
abbrev pub BadLine : Type 0
BadLine = ℕ × ScriptCause

abbrev pub at_line : {A : Type 0} → ℕ → Said A → Result A BadLine
at_line number (Ok value) = Ok value
at_line number (Err cause) = Err (number, cause)

-- what is read with these lines, the first of which has this number: the first bad one decides
unfoldable pub read_lines : SoFar → ℕ → List (List ℕ) → Result SoFar BadLine
read_lines so_far number [] = Ok so_far
read_lines so_far number (line ∷ lines) = do
  next ← at_line number (read_line so_far number line)
  read_lines next (number + 1) lines

-- the script of a text that ends here; an order is missing where it is to be replayed
unfoldable pub whole_script : Bool → SoFar → Said Script
whole_script replays so_far = do
  ended ← if_kept (may_be_last so_far.place) Cause.Word so_far.script
  if_kept (not (replays && is_none ended.order)) Cause.NoOrder ended

-- the script that lines say: behind the last of them stands what is missing
unfoldable pub script_of_lines : Bool → List (List ℕ) → Result Script BadLine
script_of_lines replays lines = do
  so_far ← read_lines nothing_yet 1 lines
  at_line (length lines + 1) (whole_script replays so_far)

-- the script that a text says, which has an order if it is to be replayed
unfoldable pub read_script : Bool → List ℕ → Result Script BadLine
read_script replays text = do
  small ← at_line 0 (if_kept (nat_le (length text) MOST_TEXT_BYTES) Cause.TooBig text)
  script_of_lines replays (text_lines small)
