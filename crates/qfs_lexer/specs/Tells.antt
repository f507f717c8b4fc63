-- What a call tells of what a word or a line says.
use Rattle.std.specs.Prelude.{◌≡◌, ⊤, MatchResult, Result, Ok, Err}
use Rattle.qfs_lexer.specs.declared.refusal.Refusal.{Refusal}
use Rattle.qfs_lexer.specs.declared.refusal.Refusal.TheVariants.{NoMemory, Bad}
use Rattle.qfs_model_grammar.specs.Said.{Said}

-- the refusal is want of memory, or it gives the cause
abbrev pub TellsCause : {A : Type 0} → Said A → Refusal → Type 0
TellsCause said NoMemory = ⊤
TellsCause said (Bad cause) = said ≡ Err cause

-- the result is what was said, or want of memory
abbrev pub Tells : {A : Type 0} → Said A → Result A Refusal → Type 0
Tells said result = MatchResult result (λ value. said ≡ Ok value) (λ refusal. TellsCause said refusal)
