-- The runs of an order, one after another.
use Rattle.std.proofs.Common.{◌≡◌, ◌∙◌, sym, ap, refl, ℕ, List, [], ◌∷◌, ◌++◌, append_assoc, append-nil, Result, Ok, Err}
use Rattle.std.specs.Prelude.{replicate}
use Rattle.qfs_base.specs.Order.{steps_of_runs, run_steps}
use Rattle.qfs_base.specs.declared.history.Step.{Step}
use Rattle.qfs_base.specs.declared.order.StepRun.{StepRun}
use Rattle.qfs_base.specs.declared.script.ScriptCause.{ScriptCause}
use Rattle.qfs_model_text.specs.Line.{Words}
use Rattle.qfs_model_grammar.specs.Kinds.{run_in}
use Rattle.qfs_model_grammar.specs.Said.{Said, ◌>>=◌, read_each}
use Rattle.qfs_script.specs.Goes.{order_said}

-- the steps that were read, and what the words that are left say
abbrev pub after : List Step → Said (List StepRun) → Said (List Step)
after done said = said >>= (λ runs. Ok (done ++ steps_of_runs runs))

pub none_yet : (words : Words) → order_said words ≡ after [] (read_each run_in words)
none_yet words = refl

cons_after : (done : List Step) (run : StepRun) (said : Said (List StepRun)) → after done (said >>= (λ runs. Ok (run ∷ runs))) ≡ after (done ++ run_steps run) said
unfolding steps_of_runs
cons_after done run (Ok runs) = ap (λ (all : List Step). Ok all) (sym (append_assoc done (run_steps run) (steps_of_runs runs)))
cons_after done run (Err cause) = refl

pub one_more : (done : List Step) (word : List ℕ) (words : Words) (run : StepRun) → run_in word ≡ Ok run
    → after done (read_each run_in (word ∷ words)) ≡ after (done ++ run_steps run) (read_each run_in words)
unfolding read_each
one_more done word words run says =
    ap (λ (said : Said StepRun). after done (said >>= (λ first. read_each run_in words >>= (λ more. Ok (first ∷ more))))) says
    ∙ cons_after done run (read_each run_in words)

pub bad_run : (done : List Step) (word : List ℕ) (words : Words) (cause : ScriptCause) → run_in word ≡ Err cause
    → after done (read_each run_in (word ∷ words)) ≡ Err cause
unfolding read_each
bad_run done word words cause says =
    ap (λ (said : Said StepRun). after done (said >>= (λ first. read_each run_in words >>= (λ more. Ok (first ∷ more))))) says

pub all_read : (done : List Step) → after done (read_each run_in []) ≡ Ok done
unfolding read_each steps_of_runs
all_read done = ap (λ (all : List Step). Ok all) (append-nil done)
