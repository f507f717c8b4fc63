-- The commands of lines, one line after another.
use Rattle.std.proofs.Common.{◌≡◌, ◌∙◌, sym, ap, refl, subst, ℕ, ◌+◌, List, [], ◌∷◌, ◌++◌, append_assoc, append-nil, Result, Ok, Err}
use Rattle.std.specs.Prelude.{IfErr}
use Rattle.std.specs.Result.{IsErrAnd}
use Rattle.qfs_base.specs.declared.command.Command.{Command}
use Rattle.qfs_first.specs.declared.error.ScriptError.{ScriptError}
use Rattle.qfs_first.specs.declared.error.ScriptError.TheVariants.{NoMemory, Bad}
use Rattle.qfs_first.specs.Refusal.{TellsBadLine}
use Rattle.qfs_first.specs.Script.{◌>>=◌, or_number, command_at, read_commands}

-- the commands that were read, and what the lines that are left say
abbrev pub after : List Command → Result (List Command) ℕ → Result (List Command) ℕ
after done (Ok more) = Ok (done ++ more)
after done (Err number) = Err number

pub after-nil : (said : Result (List Command) ℕ) → said ≡ after [] said
after-nil (Ok more) = refl
after-nil (Err number) = refl

after-cons : (done : List Command) (command : Command) (said : Result (List Command) ℕ) → after done (said >>= (λ more. Ok (command ∷ more))) ≡ after (done ++ command ∷ []) said
after-cons done command (Ok more) = ap (λ (all : List Command). Ok all) (sym (append_assoc done (command ∷ []) more))
after-cons done command (Err number) = refl

-- the first line that is left says a command
pub one_more : (done : List Command) (number : ℕ) (line : List ℕ) (lines : List (List ℕ)) (command : Command) → or_number number (command_at number line) ≡ Ok command → after done (read_commands number (line ∷ lines)) ≡ after (done ++ command ∷ []) (read_commands (number + 1) lines)
unfolding read_commands
one_more done number line lines command says =
    ap (λ (said : Result Command ℕ). after done (said >>= (λ first. read_commands (number + 1) lines >>= (λ more. Ok (first ∷ more))))) says
    ∙ after-cons done command (read_commands (number + 1) lines)

-- the first line that is left is bad
pub bad_line : (done : List Command) (number : ℕ) (line : List ℕ) (lines : List (List ℕ)) (error : ScriptError) → TellsBadLine (or_number number (command_at number line)) error → TellsBadLine (after done (read_commands number (line ∷ lines))) error
unfolding read_commands
bad_line done number line lines NoMemory tells = tt
bad_line done number line lines (Bad bad cause) tells =
    (ap (λ (said : Result Command ℕ). after done (said >>= (λ first. read_commands (number + 1) lines >>= (λ more. Ok (first ∷ more))))) tells.0, tells.1)

-- no line is left
pub all_read : (done : List Command) (number : ℕ) → after done (read_commands number []) ≡ Ok done
unfolding read_commands
all_read done number = ap (λ (all : List Command). Ok all) (append-nil done)

-- an error that is passed on
pub passed_on : {A : Type 0} (said : Result (List Command) ℕ) (error : ScriptError) (result : Result A ScriptError) → IsErrAnd result (λ passed. passed ≡ error) → TellsBadLine said error → IfErr result (TellsBadLine said)
passed_on said error (Ok value) is tells = tt
passed_on said error (Err passed) is tells = subst (TellsBadLine said) (sym is) tells
