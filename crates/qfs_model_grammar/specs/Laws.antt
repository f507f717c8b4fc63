-- What holds of every text that is read.
use Rattle.std.specs.Prelude.{◌≡◌, ◌⊎◌, ℕ, ◌+◌, ◌<◌, ◌≤◌, Bool, true, List, ◌∷◌, ◌++◌, length, IsSome, Ok, Err}
use Rattle.qfs_base.specs.declared.script.Script.{Script}
use Rattle.qfs_base.specs.declared.script.ScriptCause.{ScriptCause}
use Rattle.qfs_base.specs.declared.script.ScriptCause.TheVariants as Cause
use Rattle.qfs_model_script.specs.InScript.{IsScript}
use Rattle.qfs_model_script.specs.Limits.{MOST_TEXT_BYTES, MOST_LINES}
use Rattle.qfs_model_script.specs.ScriptText.{script_lines, script_text}
use Rattle.qfs_model_grammar.specs.ReadScript.{read_line, read_lines, script_of_lines, read_script}
use Rattle.qfs_model_grammar.specs.SoFar.{SoFar, nothing_yet}

-- ---- the first bad line decides

-- of these lines this one is refused for this cause, and all before it are good
pub record IsFirstBad (lines : List (List ℕ)) (number : ℕ) (cause : ScriptCause) : Type 0 where
  pub before : List (List ℕ)
  pub line : List ℕ
  pub behind : List (List ℕ)
  pub so_far : SoFar
  pub cut : lines ≡ before ++ line ∷ behind
  pub numbered : number ≡ 1 + length before
  pub good : read_lines nothing_yet 1 before ≡ Ok so_far
  pub refused : read_line so_far number line ≡ Err cause

-- the first bad line is told with its cause, whatever stands behind it; and what is told is the first bad
-- line, or that something is missing behind the last
pub record FirstBadDecides : Type 0 where
  pub told : (replays : Bool) (lines : List (List ℕ)) (number : ℕ) (cause : ScriptCause)
      → IsFirstBad lines number cause → script_of_lines replays lines ≡ Err (number, cause)
  pub is_bad : (replays : Bool) (lines : List (List ℕ)) (number : ℕ) (cause : ScriptCause)
      → script_of_lines replays lines ≡ Err (number, cause) → IsFirstBad lines number cause ⊎ (number ≡ length lines + 1)

-- a text of too many bytes isn't looked into
abbrev pub LongTextIsRefused : Type 0
LongTextIsRefused =
    (replays : Bool) (text : List ℕ) → MOST_TEXT_BYTES < length text → read_script replays text ≡ Err (0, Cause.TooBig)

-- ---- what is read is a script

-- it keeps all ranges and limits, and has an order if it is to be replayed
pub record IsRead (replays : Bool) (script : Script) : Type 0 where
  pub is_script : IsScript script
  pub order : replays ≡ true → IsSome script.order

abbrev pub GivesScripts : Type 0
GivesScripts = (replays : Bool) (text : List ℕ) (script : Script) → read_script replays text ≡ Ok script → IsRead replays script

-- ---- what is printed is read back

-- the text of a script is no longer than a text may be
pub record HasRoom (script : Script) : Type 0 where
  pub bytes : length (script_text script) ≤ MOST_TEXT_BYTES
  pub lines : length (script_lines script) ≤ MOST_LINES

abbrev pub ReadsBack : Type 0
ReadsBack =
    (replays : Bool) (script : Script) → IsRead replays script → HasRoom script → read_script replays (script_text script) ≡ Ok script
