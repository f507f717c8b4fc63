-- The runs of an order as they are printed: the words are plain, and they are read back. For the
-- law `printed_scripts_are_read_back`.
use Rattle.std.proofs.Common.{◌≡◌, ◌∙◌, sym, ap, refl, subst, arith, ℕ, suc, ◌+◌, ◌<◌, ◌≤◌, ◌^◌, Bool, true, false, cond, List, [], ◌∷◌, ◌++◌, length, take, drop, replicate, Option, Some, Ok, append_assoc, length-append}
use Rattle.std.specs.Prelude.{All, decimal, codes, ok_or, take_while, if◌then◌else◌}
use Rattle.std.specs.List.{slice_split, prefix_len}
use Rattle.std.proofs.lemmas.Bool.{and_parts, and_from, ltb-true, le-leb, ne_eqb}
use Rattle.std.proofs.lemmas.List.{replicate-append-replicate}
use Rattle.std.proofs.lemmas.List.Splits.{slice_split_at, slice_split_none}
use borrow.Author.Tests.{eqb-true}
use Rattle.qfs_base.specs.EachLaws.{each_append, each_weaker, each_all}
use Rattle.qfs_base.specs.Order.{steps_of_runs}
use Rattle.qfs_base.specs.Sizes.{LONGEST_RUN}
use Rattle.qfs_base.specs.Table.{Each}
use Rattle.qfs_base.specs.declared.history.Outcome.{Outcome}
use Rattle.qfs_base.specs.declared.history.Outcome.TheVariants as Ended
use Rattle.qfs_base.specs.declared.history.Step.{Step}
use Rattle.qfs_base.specs.declared.order.StepRun.{StepRun}
use Rattle.qfs_base.specs.declared.script.ScriptCause.TheVariants as Cause
use Rattle.qfs_model_text.specs.Line.{Words}
use Rattle.qfs_model_text.specs.Order.{goes_on_run, outcome_mark, run_word, ends_run, runs_after, runs}
use Rattle.qfs_model_text.proofs.OrderText.{alike}
use Rattle.qfs_model_text.proofs.WordsApart.{IsDigit, digits_of}
use Rattle.qfs_model_script.specs.InScript.{IsActorNumber}
use Rattle.qfs_model_script.specs.Limits.{MOST_ACTORS}
use Rattle.qfs_model_grammar.specs.Kinds.{number_in, is_digit, is_times, outcome_of_mark, run_of, run_in}
use Rattle.qfs_model_grammar.specs.Said.{◌>>=◌, read_each}
use Rattle.qfs_laws_grammar.proofs.PlainWords.{IsVisible, IsPlain}
use Rattle.qfs_laws_grammar.proofs.PrintedCommands.{on}
use Rattle.qfs_laws_grammar.proofs.PrintedWords.{plain_number, number_back}
use Rattle.qfs_laws_grammar.proofs.WordRanges.{OfActor}

-- ---- the word of one run

-- behind the actor's digits
abbrev behind : Outcome → ℕ → List ℕ
behind outcome count = outcome_mark outcome ++ 120 ∷ decimal count

word_is : (step : Step) (count : ℕ)
    → run_word step count ≡ decimal step.actor ++ behind step.outcome count
word_is step count =
    append_assoc (decimal step.actor ++ outcome_mark step.outcome) (codes "x") (decimal count)
    ∙ append_assoc (decimal step.actor) (outcome_mark step.outcome) (120 ∷ decimal count)

-- digits before what begins with none are told apart from it
record Apart (front rest : List ℕ) : Type 0 where
  digits : take_while is_digit (front ++ rest) ≡ front
  rest_is : drop (length front) (front ++ rest) ≡ rest

no_digit : (rest : List ℕ) → take_while is_digit rest ≡ [] → Apart [] rest
no_digit rest none = record { digits = none; rest_is = refl }

digit_first : (byte : ℕ) (front rest : List ℕ) → is_digit byte ≡ true → Apart front rest
    → Apart (byte ∷ front) rest
digit_first byte front rest is apart = record {
  digits = first (is_digit byte) is ∙ ap (λ more. byte ∷ more) apart.digits;
  rest_is = apart.rest_is;
}
  where
    first : (test : Bool) → test ≡ true
        → take (cond test (1 + prefix_len is_digit (front ++ rest)) 0) (byte ∷ front ++ rest)
        ≡ byte ∷ take_while is_digit (front ++ rest)
    first true passes = ap (λ n. take n (byte ∷ front ++ rest))
        (next (prefix_len is_digit (front ++ rest)))
      where
        next : (n : ℕ) → 1 + n ≡ suc n
        next n = omega arith
    first false passes = cc

digits_apart : (front rest : List ℕ) → Each IsDigit front → take_while is_digit rest ≡ []
    → Apart front rest
digits_apart [] rest each none = no_digit rest none
digits_apart (byte ∷ front) rest each none =
    digit_first byte front rest (and_from _ _ (le-leb _ _ each.0.0) (le-leb _ _ each.0.1))
    (digits_apart front rest each.1 none)

mark_first : (outcome : Outcome) (count : ℕ) → take_while is_digit (behind outcome count) ≡ []
unfolding outcome_mark
mark_first Ended.Done count = refl
mark_first Ended.Failed count = refl
mark_first Ended.NoMemory count = refl

no_times : (count : ℕ) → count < 2 ^ 64 → All (λ byte. is_times byte ≡ false) (decimal count)
no_times count small =
    each_all (λ byte. is_times byte ≡ false) (decimal count)
    (each_weaker IsDigit (λ byte. is_times byte ≡ false)
    (λ byte digit. ne_eqb byte 120 (λ same. omega (arith, same, digit.1))) (decimal count)
    (digits_of count small))

no_times_in_mark : (outcome : Outcome) → All (λ byte. is_times byte ≡ false) (outcome_mark outcome)
unfolding outcome_mark
no_times_in_mark Ended.Done = each_all (λ byte. is_times byte ≡ false) [] tt
no_times_in_mark Ended.Failed = each_all (λ byte. is_times byte ≡ false) (codes "f") (refl, tt)
no_times_in_mark Ended.NoMemory = each_all (λ byte. is_times byte ≡ false) (codes "m") (refl, tt)

parts_are : (outcome : Outcome) (count : ℕ) → count < 2 ^ 64
    → slice_split is_times (behind outcome count) ≡ outcome_mark outcome ∷ decimal count ∷ []
parts_are outcome count small =
    slice_split_at is_times (outcome_mark outcome) 120 (decimal count) (no_times_in_mark outcome)
    refl
    ∙ ap (λ more. outcome_mark outcome ∷ more)
    (slice_split_none is_times (decimal count) (no_times count small))

mark_back : (outcome : Outcome) → outcome_of_mark (outcome_mark outcome) ≡ Some outcome
unfolding outcome_of_mark outcome_mark
mark_back Ended.Done = refl
mark_back Ended.Failed = refl
mark_back Ended.NoMemory = refl

-- a run of an actor's steps that can be written
pub record Fits (step : Step) (count : ℕ) : Type 0 where
  pub actor : IsActorNumber step.actor
  pub some : 1 ≤ count
  pub few : count ≤ LONGEST_RUN

abbrev made : ℕ → Outcome → ℕ → StepRun
made actor outcome count = record {
  step = record { actor = actor; outcome = outcome };
  count =
      count;
}

parts_say : (step : Step) (count : ℕ) → Fits step count
    → run_of (decimal step.actor) (outcome_mark step.outcome ∷ decimal count ∷ [])
    ≡ Ok (record { step = step; count = count })
unfolding run_of
parts_say step count fits =
    let said = λ (actor : ℕ). ok_or (outcome_of_mark (outcome_mark step.outcome)) Cause.Number
    >>= (λ outcome. number_in 1 LONGEST_RUN (decimal count) >>=
    (λ count. Ok (made actor outcome count))) in
    on (number_in 1 MOST_ACTORS (decimal step.actor)) step.actor said
    (number_back 1 MOST_ACTORS step.actor (omega (arith, fits.actor.1)) fits.actor.0
    fits.actor.1)
    ∙ on (ok_or (outcome_of_mark (outcome_mark step.outcome)) Cause.Number) step.outcome
    (λ outcome. number_in 1 LONGEST_RUN (decimal count) >>=
    (λ count. Ok (made step.actor outcome count)))
    (ap (λ (found : Option Outcome). ok_or found Cause.Number) (mark_back step.outcome))
    ∙ on (number_in 1 LONGEST_RUN (decimal count)) count
    (λ count. Ok (made step.actor step.outcome count))
    (number_back 1 LONGEST_RUN count (omega (arith, fits.few)) fits.some fits.few)

run_back : (step : Step) (count : ℕ) → Fits step count
    → run_in (run_word step count) ≡ Ok (record { step = step; count = count })
unfolding run_in
run_back step count fits =
    let front = decimal step.actor in
    let rest = behind step.outcome count in
    let apart = digits_apart front rest (digits_of step.actor (omega (arith, fits.actor.1)))
    (mark_first step.outcome count) in
    ap (λ word. run_of (take_while is_digit word)
    (slice_split is_times (drop (length (take_while is_digit word)) word))) (word_is step count)
    ∙ ap (λ digits. run_of digits (slice_split is_times (drop (length digits) (front ++ rest))))
    apart.digits
    ∙ ap (λ text. run_of front (slice_split is_times text)) apart.rest_is
    ∙ ap (run_of front) (parts_are step.outcome count (omega (arith, fits.few)))
    ∙ parts_say step count fits

visible_mark : (outcome : Outcome) → Each IsVisible (outcome_mark outcome)
unfolding outcome_mark
visible_mark Ended.Done = tt
visible_mark Ended.Failed = ((omega arith, omega arith), tt)
visible_mark Ended.NoMemory = ((omega arith, omega arith), tt)

plain_run : (step : Step) (count : ℕ) → Fits step count → IsPlain (run_word step count)
plain_run step count fits =
    let actor = plain_number step.actor (omega (arith, fits.actor.1)) in
    let counted = plain_number count (omega (arith, fits.few)) in
    subst IsPlain (sym (word_is step count)) (record {
      some = omega (
        arith,
        length-append (decimal step.actor) (behind step.outcome count),
        actor.some,
      );
      visible =
          each_append IsVisible (decimal step.actor) (behind step.outcome count) actor.visible
          (each_append IsVisible (outcome_mark step.outcome) (120 ∷ decimal count)
          (visible_mark step.outcome) ((omega arith, omega arith), counted.visible));
    })

-- ---- the runs of an order

-- words that are read to runs, which stand for these steps
pub record Tells (words : Words) (steps : List Step) : Type 0 where
  pub plain : Each IsPlain words
  pub found : List StepRun
  pub says : read_each run_in words ≡ Ok found
  pub stands : steps_of_runs found ≡ steps

one_run : (step : Step) (count : ℕ) → Fits step count → (words : Words) (steps : List Step)
    → Tells words steps
    → Tells (run_word step count ∷ words) (replicate count step ++ steps)
unfolding read_each steps_of_runs
one_run step count fits words steps tells = record {
  plain = (plain_run step count fits, tells.plain);
  found = record { step = step; count = count } ∷ tells.found;
  says =
      on (run_in (run_word step count)) (record { step = step; count = count })
      (λ run. read_each run_in words >>= (λ runs. Ok (run ∷ runs))) (run_back step count fits)
      ∙ on (read_each run_in words) tells.found
      (λ runs. Ok (record { step = step; count = count } ∷ runs)) tells.says;
  stands = ap (λ more. replicate count step ++ more) tells.stands;
}

no_runs : Tells [] []
unfolding read_each steps_of_runs
no_runs = record { plain = tt; found = []; says = refl; stands = refl }

-- what a step that goes on a run is
record GoesOn (of_run : Step) (count : ℕ) (step : Step) : Type 0 where
  same : step ≡ of_run
  room : count < LONGEST_RUN

abbrev made_step : ℕ → Outcome → Step
made_step actor outcome = record { actor = actor; outcome = outcome }

goes_on : (of_run : Step) (count : ℕ) (step : Step) → goes_on_run of_run count step ≡ true
    → GoesOn of_run count step
goes_on of_run count step is =
    let first = and_parts _ _ is in
    let second = and_parts _ _ first.0 in
    record {
      same =
          ap (λ n. made_step n step.outcome) (eqb-true step.actor of_run.actor second.0)
          ∙ ap (λ o. made_step of_run.actor o) (alike step.outcome of_run.outcome second.1);
      room = ltb-true _ _ first.1;
    }

-- the runs from here on, with a step that goes on the run and with one that doesn't
tells_next : (more : Bool) (of_run step : Step) (count : ℕ) (steps : List Step) (words : Words)
    → Fits of_run count
    → (more ≡ true → step ≡ of_run)
    → Tells words
    (replicate (if more then count + 1 else 1) (if more then of_run else step) ++ steps)
    → Tells (ends_run more (run_word of_run count) words) (replicate count of_run ++ step ∷ steps)
tells_next true of_run step count steps words fits same tells =
    subst (Tells words)
    (ap (λ front. front ++ steps) (sym (replicate-append-replicate count 1 of_run))
    ∙ append_assoc (replicate count of_run) (of_run ∷ []) steps
    ∙ ap (λ s. replicate count of_run ++ s ∷ steps) (sym (same refl)))
    tells
tells_next false of_run step count steps words fits same tells = one_run of_run count fits words
    (step ∷ steps) tells

fits_next : (more : Bool) (of_run step : Step) (count : ℕ) → (more ≡ true → count < LONGEST_RUN)
    → Fits of_run count → OfActor step
    → Fits (if more then of_run else step) (if more then count + 1 else 1)
fits_next true of_run step count room fits is = let below : count < LONGEST_RUN = room refl in
    record { actor = fits.actor; some = omega arith; few = omega arith }
fits_next false of_run step count room fits is =
    record { actor = is; some = omega arith; few = omega arith }

tells_after : (of_run : Step) (count : ℕ) (steps : List Step) → Fits of_run count
    → Each OfActor steps
    → Tells (runs_after of_run count steps) (replicate count of_run ++ steps)
unfolding runs_after
tells_after of_run count [] fits each = one_run of_run count fits [] [] no_runs
tells_after of_run count (step ∷ steps) fits each =
    let more = goes_on_run of_run count step in
    tells_next more of_run step count steps _ fits (λ is. (goes_on of_run count step is).same)
    (tells_after (if more then of_run else step) (if more then count + 1 else 1) steps
    (fits_next more of_run step count (λ is. (goes_on of_run count step is).room) fits each.0)
    each.1)

pub order_told : (steps : List Step) → Each OfActor steps → Tells (runs steps) steps
unfolding runs
order_told [] each = no_runs
order_told (step ∷ steps) each = tells_after step 1 steps
    (record { actor = each.0; some = omega arith; few = omega arith }) each.1
