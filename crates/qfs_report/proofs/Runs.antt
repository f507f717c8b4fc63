-- What the words of an order are where several equal steps come next.
use Rattle.std.proofs.Common.{◌≡◌, ◌≢◌, ℕ, zero, suc, ◌+◌, ◌-◌, ◌<◌, ◌≤◌, ◌==◌, ◌&&◌, nat_lt, Bool, true, false, List, length, drop, get_or, Option, option_to_list, ◌∷◌, ◌++◌, replicate, refl, sym, ap, arith, ◌∙◌}
use Rattle.std.specs.Prelude.{Result, Ok, Err, OnOk}
use Rattle.std.proofs.lemmas.Bool.Decides.{nat_tests}
use Rattle.std.proofs.lemmas.List.{replicate-append-replicate, append_assoc, at_drop_all, at_drop_more}
use borrow.Author.Tests.{eqb-true}
use Rattle.qfs_base.specs.Order.{all_steps, run_steps, steps_of_runs}
use Rattle.qfs_base.specs.Sizes.{LONGEST_RUN}
use Rattle.qfs_base.specs.declared.history.Outcome.{Outcome}
use Rattle.qfs_base.specs.declared.history.Outcome.TheVariants as Ended
use Rattle.qfs_base.specs.declared.history.Step.{Step}
use Rattle.qfs_base.specs.declared.order.StepRun.{StepRun}
use Rattle.qfs_model_text.proofs.OrderText.{alike}
use Rattle.qfs_model_text.specs.Order.{same_outcome, goes_on_run, run_word, runs_after, runs}

same_as_itself : (outcome : Outcome) → same_outcome outcome outcome ≡ true
unfolding same_outcome
same_as_itself Ended.Done = refl
same_as_itself Ended.Failed = refl
same_as_itself Ended.NoMemory = refl

goes_on_same : (step : Step) (count : ℕ) → count < LONGEST_RUN → goes_on_run step count step ≡ true
goes_on_same step count room = grind (arith, nat_tests, same_as_itself step.outcome)

full_ends : (step : Step) → goes_on_run step LONGEST_RUN step ≡ false
full_ends step = grind (arith, nat_tests, same_as_itself step.outcome)

neither : (a b c : Bool) → (a ≡ true → b ≡ true → ⊥) → (a && b && c) ≡ false
neither true true c not_both = absurd (not_both refl refl)
neither true false c not_both = refl
neither false b c not_both = refl

same_step : (first step : Step) → step.actor ≡ first.actor → step.outcome ≡ first.outcome → first
    ≡ step
same_step first step actor outcome =
    ap (λ a. record { actor = a; outcome = first.outcome }) (sym actor)
    ∙ ap (λ o. record { actor = step.actor; outcome = o }) (sym outcome)

other_ends : (first step : Step) (count : ℕ) → (first ≢ step) → goes_on_run first count step ≡ false
other_ends first step count differ =
    neither (step.actor == first.actor) (same_outcome step.outcome first.outcome)
    (nat_lt count LONGEST_RUN)
    (λ actor outcome. differ (same_step first step (eqb-true step.actor first.actor actor)
    (alike step.outcome first.outcome outcome)))

-- equal steps that have room in the run
pub runs_longer : (step : Step) (count n : ℕ) (steps : List Step) → count + n ≤ LONGEST_RUN
    → runs_after step count (replicate n step ++ steps) ≡ runs_after step (count + n) steps
unfolding runs_after
runs_longer step count zero steps room = ap (λ c. runs_after step c steps) (omega arith)
runs_longer step count (suc n) steps room =
    rw (goes_on_same step count (omega arith))
    (runs_longer step (count + 1) n steps (omega (arith, room))
    ∙ ap (λ c. runs_after step c steps) (omega arith))

-- equal steps, the first of which begins a run
runs_anew : (first step : Step) (count n : ℕ) (steps : List Step) → goes_on_run first count step
    ≡ false → 1 ≤ n → n ≤ LONGEST_RUN
    → runs_after first count (replicate n step ++ steps)
    ≡ run_word first count ∷ runs_after step n steps
unfolding runs_after
runs_anew first step count zero steps ends some few = absurd (omega arith)
runs_anew first step count (suc n) steps ends some few =
    rw ends
    (ap (λ words. run_word first count ∷ words) (runs_longer step 1 n steps (omega (arith, few))
    ∙ ap (λ c. runs_after step c steps) (omega arith)))

-- more equal steps than have room in the run
pub runs_full : (step : Step) (count n : ℕ) (steps : List Step) → count ≤ LONGEST_RUN
    → n ≤ LONGEST_RUN → LONGEST_RUN - count < n
    → runs_after step count (replicate n step ++ steps)
    ≡ run_word step LONGEST_RUN ∷ runs_after step (n - (LONGEST_RUN - count)) steps
runs_full step count n steps fits few over =
    let room : ℕ = LONGEST_RUN - count in
    let left : ℕ = n - room in
    ap (λ k. runs_after step count (replicate k step ++ steps)) (omega arith)
    ∙ ap (λ front. runs_after step count (front ++ steps))
    (sym (replicate-append-replicate room left step))
    ∙ ap (runs_after step count) (append_assoc (replicate room step) (replicate left step) steps)
    ∙ runs_longer step count room (replicate left step ++ steps) (omega arith)
    ∙ ap (λ c. runs_after step c (replicate left step ++ steps)) (omega arith)
    ∙ runs_anew step step LONGEST_RUN left steps (full_ends step) (omega arith) (omega arith)

-- other steps end the run
pub runs_other : (first step : Step) (count n : ℕ) (steps : List Step) → (first ≢ step) → 1 ≤ n
    → n ≤ LONGEST_RUN
    → runs_after first count (replicate n step ++ steps)
    ≡ run_word first count ∷ runs_after step n steps
runs_other first step count n steps differ some few = runs_anew first step count n steps
    (other_ends first step count differ) some few

-- equal steps at the start
pub runs_first : (step : Step) (n : ℕ) (steps : List Step) → 1 ≤ n → n ≤ LONGEST_RUN
    → runs (replicate n step ++ steps) ≡ runs_after step n steps
unfolding runs
runs_first step zero steps some few = absurd (omega arith)
runs_first step (suc n) steps some few =
    runs_longer step 1 n steps (omega (arith, few))
    ∙ ap (λ c. runs_after step c steps) (omega arith)

-- the steps of the run at an index, and those of the runs behind it
pub runs_left : (all : List StepRun) (i : ℕ) (default : StepRun) (last : Option Step)
    → i < length all
    → run_steps (get_or all i default) ++ all_steps (drop (i + 1) all) last
    ≡ all_steps (drop i all) last
unfolding steps_of_runs
runs_left all i default last inside =
    sym (append_assoc (run_steps (get_or all i default)) (steps_of_runs (drop (i + 1) all))
    (option_to_list last))
    ∙ sym (at_drop_more (λ left. all_steps left last) all i default inside)

-- behind all runs the last step is left
pub last_left : (all : List StepRun) (i : ℕ) (last : Option Step) → length all ≤ i
    → option_to_list last ≡ all_steps (drop i all) last
unfolding steps_of_runs
last_left all i last past = sym (at_drop_all (λ left. all_steps left last) all i past)

pub on_ok : {A E : Type 0} {P Q : Type 0} (result : Result A E) → (P → Q) → OnOk result P
    → OnOk result Q
on_ok (Ok value) then told = then told
on_ok (Err error) then told = tt
