-- The lines of a script, one after another.
use Rattle.std.proofs.Common.{◌≡◌, ◌∙◌, sym, ap, refl, subst, ℕ, ◌+◌, List, [], ◌∷◌, Result, Ok, Err}
use Rattle.qfs_base.specs.declared.script.ScriptCause.{ScriptCause}
use Rattle.qfs_lexer.specs.Tells.{TellsCause}
use Rattle.qfs_lexer.specs.declared.refusal.Refusal as Refused
use Rattle.qfs_lexer.specs.declared.refusal.Refusal.TheVariants as Refusal
use Rattle.qfs_model_grammar.specs.Said.{Said, ◌>>=◌}
use Rattle.qfs_model_grammar.specs.ReadScript.{BadLine, at_line, read_line, read_lines}
use Rattle.qfs_model_grammar.specs.SoFar.{SoFar}
use Rattle.qfs_script.specs.Goes.{TellsBadLine, IsTold}
use Rattle.qfs_script.specs.declared.error.ScriptError.{ScriptError}

pub good_line : (so_far next : SoFar) (number : ℕ) (line : List ℕ) (lines : List (List ℕ)) → read_line so_far number line ≡ Ok next
    → read_lines so_far number (line ∷ lines) ≡ read_lines next (number + 1) lines
unfolding read_lines
good_line so_far next number line lines is =
    ap (λ (read : Said SoFar). at_line number read >>= (λ next. read_lines next (number + 1) lines)) is

pub bad_line : (so_far : SoFar) (number : ℕ) (line : List ℕ) (lines : List (List ℕ)) (cause : ScriptCause) → read_line so_far number line ≡ Err cause
    → read_lines so_far number (line ∷ lines) ≡ Err (number, cause)
unfolding read_lines
bad_line so_far number line lines cause is =
    ap (λ (read : Said SoFar). at_line number read >>= (λ next. read_lines next (number + 1) lines)) is

pub no_line : (so_far : SoFar) (number : ℕ) → read_lines so_far number [] ≡ Ok so_far
unfolding read_lines
no_line so_far number = refl

pub bad_told : (so_far : SoFar) (number : ℕ) (line : List ℕ) (lines : List (List ℕ)) (all : Result SoFar BadLine) (refusal : Refused.Refusal) (error : ScriptError)
    → all ≡ read_lines so_far number (line ∷ lines) → TellsCause (read_line so_far number line) refusal → IsTold number refusal error
    → TellsBadLine all error
bad_told so_far number line lines all Refusal.NoMemory error is tells told = subst (TellsBadLine all) (sym told) tt
bad_told so_far number line lines all (Refusal.Bad cause) error is tells told =
    subst (TellsBadLine all) (sym told) (is ∙ bad_line so_far number line lines cause tells)
