-- What a text of given lines says.
use Rattle.std.specs.Prelude.{◌≡◌, ℕ, false, List, [], ◌∷◌, ◌++◌, flat_map, Ok, Err}
use Rattle.qfs_base.specs.declared.script.Script.{Script}
use Rattle.qfs_base.specs.declared.script.ScriptCause.{ScriptCause}
use Rattle.qfs_model_grammar.specs.ReadScript.{read_script}

-- these lines, each with its end
abbrev pub text_of_lines : List (List ℕ) → List ℕ
text_of_lines lines = flat_map (λ line. line ++ 10 ∷ []) lines

-- the text of these lines is refused at this line for this cause
abbrev pub IsRefused : ℕ → ScriptCause → List (List ℕ) → Type 0
IsRefused number cause lines = read_script false (text_of_lines lines) ≡ Err (number, cause)

-- the text of these lines says this script
abbrev pub Says : List (List ℕ) → Script → Type 0
Says lines script = read_script false (text_of_lines lines) ≡ Ok script
