-- The words of a get with a range.
use Rattle.std.proofs.Common.{◌≡◌, ◌∙◌, sym, ap, refl, subst, ℕ, List, [], ◌∷◌, Result, Ok, Err}
use Rattle.qfs_base.specs.declared.command.Command.{Command}
use Rattle.qfs_base.specs.declared.script.ScriptCause.{ScriptCause}
use Rattle.qfs_base.specs.declared.script.ScriptCause.TheVariants as Cause
use Rattle.qfs_model_text.specs.Line.{Words}
use Rattle.qfs_model_grammar.specs.CommandLines.{get_range, get_command}
use Rattle.qfs_model_grammar.specs.Counts.{one_word}
use Rattle.qfs_model_grammar.specs.Said.{Said}
use Rattle.qfs_lexer.specs.Tells.{Tells}
use Rattle.qfs_lexer.specs.declared.refusal.Refusal.{Refusal}

ok-is : {A : Type 0} (a b : A) (read : Said A) → read ≡ Ok a → read ≡ Ok b → a ≡ b
ok-is a b read first second = cc

ranged : (path from count : List ℕ) (more : Words) → one_word more ≡ Ok count → get_command (path ∷ from ∷ more) ≡ get_range path from count
unfolding get_command one_word
ranged path from count [] is = cc is
ranged path from count (word ∷ []) is = ap (get_range path from) (ok-is word count (Ok word) refl is)
ranged path from count (word ∷ next ∷ more) is = cc is

pub of_range : (words rest more : Words) (path from count : List ℕ) (result : Result Command Refusal) → words ≡ path ∷ rest → rest ≡ from ∷ more
    → one_word more ≡ Ok count → Tells (get_range path from count) result → Tells (get_command words) result
of_range words rest more path from count result first second third tells =
    let same : get_command words ≡ get_range path from count = ap get_command (first ∙ ap (λ (w : Words). path ∷ w) second) ∙ ranged path from count more third in
    subst (λ (said : Said Command). Tells said result) (sym same) tells

-- what is no single word is a bad count
is_cause : (cause : ScriptCause) → ◌≡◌ {A = Said (List ℕ)} (Err Cause.Count) (Err cause) → ◌≡◌ {A = Said Command} (Err Cause.Count) (Err cause)
is_cause cause is = let same : Cause.Count ≡ cause = cc is in ap (λ (c : ScriptCause). Err c) same

unranged : (path from : List ℕ) (more : Words) (cause : ScriptCause) → one_word more ≡ Err cause → get_command (path ∷ from ∷ more) ≡ Err cause
unfolding get_command one_word
unranged path from [] cause is = is_cause cause is
unranged path from (word ∷ []) cause is = cc is
unranged path from (word ∷ next ∷ more) cause is = is_cause cause is

pub of_no_range : (words rest more : Words) (path from : List ℕ) (cause : ScriptCause) → words ≡ path ∷ rest → rest ≡ from ∷ more
    → one_word more ≡ Err cause → get_command words ≡ Err cause
of_no_range words rest more path from cause first second third =
    ap get_command (first ∙ ap (λ (w : Words). path ∷ w) second) ∙ unranged path from more cause third
