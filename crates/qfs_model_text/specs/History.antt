-- The history lines: each change of the name tree at its place.
use Rattle.std.specs.Prelude.{ℕ, ◌+◌, List, [], ◌∷◌, ◌++◌, codes, decimal}
use Rattle.qfs_base.specs.declared.history.Entry.{Entry}
use Rattle.qfs_base.specs.declared.history.Entry.TheVariants as Change
use Rattle.qfs_base.specs.Path.{path_text}
use Rattle.qfs_model_text.specs.Line.{Words, line}

-- the words of a change
unfoldable pub entry_words : Entry → Words
entry_words (Change.Mkdir path) = codes "mkdir" ∷ path_text path ∷ []
entry_words (Change.Rmdir path) = codes "rmdir" ∷ path_text path ∷ []
entry_words (Change.Created file path) = codes "created" ∷ decimal file ∷ path_text path ∷ []
entry_words (Change.Closed file actor command) =
    codes "closed" ∷ decimal file ∷ codes "by" ∷ decimal actor ∷ decimal command ∷ []
entry_words (Change.Aborted file) = codes "aborted" ∷ decimal file ∷ []
entry_words (Change.Removed path) = codes "removed" ∷ path_text path ∷ []
entry_words (Change.Renamed from to) = codes "renamed" ∷ path_text from ∷ path_text to ∷ []

-- the lines of these changes, the first of which is at this place
unfoldable pub history_lines_from : ℕ → List Entry → List ℕ
history_lines_from place [] = []
history_lines_from place (entry ∷ entries) =
    line (codes "history") (decimal place ∷ entry_words entry) ++ history_lines_from (place + 1) entries

-- the lines of a history
abbrev pub history_lines : List Entry → List ℕ
history_lines entries = history_lines_from 0 entries
