-- How a line goes on what was read before it.
use Rattle.std.specs.Prelude.{◌≡◌, ⊤, ℕ, MatchResult, List, Result, Ok, Err}
use Rattle.qfs_base.specs.Order.{steps_of_runs}
use Rattle.qfs_base.specs.Shape.{Shape}
use Rattle.qfs_base.specs.declared.history.Step.{Step}
use Rattle.qfs_base.specs.declared.script.ScriptCause.{ScriptCause}
use Rattle.qfs_lexer.specs.declared.refusal.Refusal.{Refusal}
use Rattle.qfs_lexer.specs.declared.refusal.Refusal.TheVariants as Refusal
use Rattle.qfs_lexer.specs.Tells.{TellsCause}
use Rattle.qfs_model_text.specs.Line.{Words}
use Rattle.qfs_model_grammar.specs.Kinds.{run_in}
use Rattle.qfs_model_grammar.specs.Said.{Said, ◌>>=◌, read_each}
use Rattle.qfs_model_grammar.specs.ReadScript.{BadLine}
use Rattle.qfs_model_grammar.specs.SoFar.{SoFar}
use Rattle.qfs_script.specs.declared.error.ScriptError.{ScriptError}
use Rattle.qfs_script.specs.declared.error.ScriptError.TheVariants.{NoMemory, Bad}

-- what was said is how it stands now, or the refusal tells its cause
abbrev pub Goes : Said SoFar → SoFar → Result (Unit {0}) Refusal → Type 0
Goes said now result = MatchResult result (λ none. said ≡ Ok now) (λ refusal. TellsCause said refusal)

-- the error is want of memory, or it tells the bad line and its cause
abbrev pub TellsBadLine : {A : Type 0} → Result A BadLine → ScriptError → Type 0
TellsBadLine said NoMemory = ⊤
TellsBadLine said (Bad line cause) = said ≡ Err (line, cause)

-- the order that runs say
abbrev pub order_said : Words → Said (List Step)
order_said words = read_each run_in words >>= (λ runs. Ok (steps_of_runs runs))

-- the error is what is told of the line of this number
abbrev pub IsTold : ℕ → Refusal → ScriptError → Type 0
IsTold number Refusal.NoMemory error = error ≡ NoMemory
IsTold number (Refusal.Bad cause) error = error ≡ Bad number cause
