-- What a call on the tree answers: the refusal that is due, or else it is done. Want of memory may
-- stand in place of either.
use Rattle.std.specs.Prelude.{◌≡◌, Option, Some, None, Result, Ok, Err}
use Rattle.qfs_base.specs.declared.reply.TreeRefusal.{TreeRefusal}
use Rattle.qfs_names.specs.declared.error.TreeError.{TreeError}
use Rattle.qfs_names.specs.declared.error.TreeError.TheVariants.{Refused, NoMemory}

abbrev pub IsRefusal : Option TreeRefusal → TreeError → Type 0
IsRefusal refusal (Refused why) = refusal ≡ Some why
IsRefusal refusal NoMemory = Unit {0}

-- so where memory isn't wanted
abbrev pub IsJust : Option TreeRefusal → TreeError → Type 0
IsJust refusal (Refused why) = refusal ≡ Some why
IsJust refusal NoMemory = ⊥

abbrev pub Answers : {T : Type 0} → Option TreeRefusal → Result T TreeError → Type 0
Answers refusal (Ok done) = refusal ≡ None
Answers refusal (Err error) = IsRefusal refusal error

abbrev pub AnswersOnly : {T : Type 0} → Option TreeRefusal → Result T TreeError → Type 0
AnswersOnly refusal (Ok done) = refusal ≡ None
AnswersOnly refusal (Err error) = IsJust refusal error
