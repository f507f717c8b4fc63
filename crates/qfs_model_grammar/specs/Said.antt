-- What a line or a word says, or why it is refused.
use Rattle.std.specs.Prelude.{Bool, true, false, List, [], ◌∷◌, Result, Ok, Err}
use Rattle.qfs_base.specs.declared.script.ScriptCause.{ScriptCause}

abbrev pub Said : Type 0 → Type 0
Said A = Result A ScriptCause

-- the second step, if the first gave a value
infixl 10 ◌>>=◌
abbrev pub ◌>>=◌ : {A B E : Type 0} → Result A E → (A → Result B E) → Result B E
Ok value >>= next = next value
Err error >>= next = Err error

-- a value that keeps a range or a limit, or else this cause
unfoldable pub if_kept : {A : Type 0} → Bool → ScriptCause → A → Said A
if_kept true cause value = Ok value
if_kept false cause value = Err cause

-- each of these items, read from left to right; the first that is refused decides
unfoldable pub read_each : {A B : Type 0} → (A → Said B) → List A → Said (List B)
read_each read [] = Ok []
read_each read (item ∷ items) = do
  value ← read item
  values ← read_each read items
  Ok (value ∷ values)
