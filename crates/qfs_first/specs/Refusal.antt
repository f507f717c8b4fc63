-- What an error tells of a script.
use Rattle.std.specs.Prelude.{◌≡◌, ℕ, ⊤, Result, Err}
use Rattle.qfs_base.specs.declared.script.ScriptCause.TheVariants.{NotYet}
use Rattle.qfs_first.specs.declared.error.ScriptError.{ScriptError}
use Rattle.qfs_first.specs.declared.error.ScriptError.TheVariants.{NoMemory, Bad}

-- the error is want of memory, or it tells the number of the line that is of none of the forms
abbrev pub TellsBadLine : {A : Type 0} → Result A ℕ → ScriptError → Type 0
TellsBadLine said NoMemory = ⊤
TellsBadLine said (Bad line cause) = (said ≡ Err line) × (cause ≡ NotYet)
