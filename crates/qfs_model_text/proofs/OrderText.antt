-- An order line tells its order.
use Rattle.std.proofs.Common.{◌≡◌, ℕ, ◌+◌, ◌<◌, ◌≤◌, ◌^◌, Bool, true, false, List, [], ◌∷◌, ◌++◌, replicate, drop, map, codes, refl, sym, ap, subst, arith, ◌∙◌, append_assoc}
use Rattle.std.specs.Prelude.{decimal, if◌then◌else◌}
use Rattle.std.proofs.lemmas.Bool.{and_parts, ltb-true}
use Rattle.std.proofs.lemmas.Fmt.{decimal_injective}
use Rattle.std.proofs.lemmas.List.{replicate-append-replicate}
use Rattle.qfs_base.specs.EachLaws.{each_append}
use borrow.Author.Tests.{eqb-true}
use Rattle.qfs_base.specs.Order.{steps_of_runs}
use Rattle.qfs_base.specs.Sizes.{LONGEST_RUN}
use Rattle.qfs_base.specs.Table.{Each}
use Rattle.qfs_base.specs.declared.history.Outcome.{Outcome}
use Rattle.qfs_base.specs.declared.history.Outcome.TheVariants as Ended
use Rattle.qfs_base.specs.declared.history.Step.{Step}
use Rattle.qfs_base.specs.declared.order.StepRun.{StepRun}
use Rattle.qfs_model_text.specs.Line.{more_words}
use Rattle.qfs_model_text.specs.Order.{same_outcome, goes_on_run, outcome_mark, run_word, ends_run, runs_after, runs, HasActor, LinesTellOrders}
use Rattle.qfs_model_text.proofs.WordsApart.{Begins, same_cut, same_words, IsInWord, IsDigit, digits_of}

-- ---- a run's word

-- behind a number in a run's word stand a mark and an x, or nothing
abbrev EndsNumber : ℕ → Type 0
EndsNumber byte = 58 ≤ byte

apart : (byte : ℕ) → IsDigit byte → EndsNumber byte → ⊥
apart byte inside ends = absurd (omega (arith, inside.1, ends))

begins : (outcome : Outcome) (rest : List ℕ) → Begins EndsNumber (outcome_mark outcome ++ 120 ∷ rest)
unfolding outcome_mark
begins Ended.Done rest = record { byte = 120; rest = rest; ends = omega arith; is = refl }
begins Ended.Failed rest = record { byte = 102; rest = 120 ∷ rest; ends = omega arith; is = refl }
begins Ended.NoMemory rest = record { byte = 109; rest = 120 ∷ rest; ends = omega arith; is = refl }

heads : (x y : ℕ) (xs ys : List ℕ) → x ∷ xs ≡ y ∷ ys → x ≡ y
heads x y xs ys same = cc

tails : (x y : ℕ) (xs ys : List ℕ) → x ∷ xs ≡ y ∷ ys → xs ≡ ys
tails x y xs ys same = cc

unlike : {A : Type 0} (x y : ℕ) (xs ys : List ℕ) → (x ≡ y → ⊥) → x ∷ xs ≡ y ∷ ys → A
unlike x y xs ys differ same = absurd (differ (heads x y xs ys same))

record SameMark (first second : Outcome) (s t : List ℕ) : Type 0 where
  outcome : first ≡ second
  rest : s ≡ t

same_mark : (first second : Outcome) (s t : List ℕ) → outcome_mark first ++ 120 ∷ s ≡ outcome_mark second ++ 120 ∷ t
    → SameMark first second s t
unfolding outcome_mark
same_mark Ended.Done Ended.Done s t same = record { outcome = refl; rest = tails 120 120 s t same }
same_mark Ended.Done Ended.Failed s t same = unlike 120 102 s (120 ∷ t) (λ e. omega (arith, e)) same
same_mark Ended.Done Ended.NoMemory s t same = unlike 120 109 s (120 ∷ t) (λ e. omega (arith, e)) same
same_mark Ended.Failed Ended.Done s t same = unlike 102 120 (120 ∷ s) t (λ e. omega (arith, e)) same
same_mark Ended.Failed Ended.Failed s t same =
    record { outcome = refl; rest = tails 120 120 s t (tails 102 102 (120 ∷ s) (120 ∷ t) same) }
same_mark Ended.Failed Ended.NoMemory s t same = unlike 102 109 (120 ∷ s) (120 ∷ t) (λ e. omega (arith, e)) same
same_mark Ended.NoMemory Ended.Done s t same = unlike 109 120 (120 ∷ s) t (λ e. omega (arith, e)) same
same_mark Ended.NoMemory Ended.Failed s t same = unlike 109 102 (120 ∷ s) (120 ∷ t) (λ e. omega (arith, e)) same
same_mark Ended.NoMemory Ended.NoMemory s t same =
    record { outcome = refl; rest = tails 120 120 s t (tails 109 109 (120 ∷ s) (120 ∷ t) same) }

abbrev word_of : StepRun → List ℕ
word_of run = run_word run.step run.count

record Fits (run : StepRun) : Type 0 where
  actor : run.step.actor < 2 ^ 16
  count : run.count ≤ LONGEST_RUN

made_run : ℕ → Outcome → ℕ → StepRun
made_run actor outcome count = record { step = record { actor = actor; outcome = outcome }; count = count }

same_run : (a b : StepRun) → a.step.actor ≡ b.step.actor → a.step.outcome ≡ b.step.outcome → a.count ≡ b.count → a ≡ b
unfolding made_run
same_run a b actor outcome count =
    ap (λ n. made_run n a.step.outcome a.count) actor
    ∙ ap (λ o. made_run b.step.actor o a.count) outcome
    ∙ ap (λ n. made_run b.step.actor b.step.outcome n) count

-- such a word, from the right
word_is : (run : StepRun) → word_of run ≡ decimal run.step.actor ++ (outcome_mark run.step.outcome ++ 120 ∷ decimal run.count)
word_is run =
    append_assoc (decimal run.step.actor ++ outcome_mark run.step.outcome) (codes "x") (decimal run.count)
    ∙ append_assoc (decimal run.step.actor) (outcome_mark run.step.outcome) (120 ∷ decimal run.count)

run_told : (a b : StepRun) → Fits a → Fits b → word_of a ≡ word_of b → a ≡ b
run_told a b of_a of_b same =
    let cut =
    same_cut IsDigit EndsNumber apart (decimal a.step.actor) (decimal b.step.actor)
    (outcome_mark a.step.outcome ++ 120 ∷ decimal a.count) (outcome_mark b.step.outcome ++ 120 ∷ decimal b.count)
    (digits_of a.step.actor (omega (arith, of_a.actor))) (digits_of b.step.actor (omega (arith, of_b.actor)))
    (begins a.step.outcome (decimal a.count)) (begins b.step.outcome (decimal b.count)) (sym (word_is a) ∙ same ∙ word_is b) in
    let mark = same_mark a.step.outcome b.step.outcome (decimal a.count) (decimal b.count) cut.back in
    same_run a b
    (decimal_injective a.step.actor b.step.actor (omega (arith, of_a.actor)) (omega (arith, of_b.actor)) cut.front)
    mark.outcome
    (decimal_injective a.count b.count (omega (arith, of_a.count)) (omega (arith, of_b.count)) mark.rest)

runs_told : (a b : List StepRun) → Each Fits a → Each Fits b → map word_of a ≡ map word_of b → a ≡ b
runs_told [] [] of_a of_b same = refl
runs_told [] (run ∷ runs) of_a of_b same = absurd (cc)
runs_told (run ∷ runs) [] of_a of_b same = absurd (cc)
runs_told (first ∷ a) (second ∷ b) of_a of_b same =
    let head : word_of first ≡ word_of second = cc in
    let tail : map word_of a ≡ map word_of b = cc in
    let run = run_told first second of_a.0 of_b.0 head in
    let rest = runs_told a b of_a.1 of_b.1 tail in
    cc

-- no byte of such a word ends it
each_digit : (bytes : List ℕ) → Each IsDigit bytes → Each IsInWord bytes
each_digit [] each = tt
each_digit (byte ∷ bytes) each = (omega (arith, each.0.0), each_digit bytes each.1)

mark_inside : (outcome : Outcome) (rest : List ℕ) → Each IsInWord rest → Each IsInWord (outcome_mark outcome ++ 120 ∷ rest)
unfolding outcome_mark
mark_inside Ended.Done rest each = (omega arith, each)
mark_inside Ended.Failed rest each = (omega arith, (omega arith, each))
mark_inside Ended.NoMemory rest each = (omega arith, (omega arith, each))

word_inside : (run : StepRun) → Fits run → Each IsInWord (word_of run)
word_inside run fits =
    subst (Each IsInWord) (sym (word_is run))
    (each_append IsInWord (decimal run.step.actor) (outcome_mark run.step.outcome ++ 120 ∷ decimal run.count)
    (each_digit (decimal run.step.actor) (digits_of run.step.actor (omega (arith, fits.actor))))
    (mark_inside run.step.outcome (decimal run.count) (each_digit (decimal run.count) (digits_of run.count (omega (arith, fits.count))))))

words_inside : (all : List StepRun) → Each Fits all → Each (Each IsInWord) (map word_of all)
words_inside [] each = tt
words_inside (run ∷ all) each = (word_inside run each.0, words_inside all each.1)

-- ---- the runs of an order, as its line has them

put_run : Bool → StepRun → List StepRun → List StepRun
put_run true run more = more
put_run false run more = run ∷ more

told_after : Step → ℕ → List Step → List StepRun
told_after of_run count [] = record { step = of_run; count = count } ∷ []
told_after of_run count (step ∷ steps) =
    let more = goes_on_run of_run count step in
    put_run more (record { step = of_run; count = count }) (told_after (if more then of_run else step) (if more then count + 1 else 1) steps)

told : List Step → List StepRun
told [] = []
told (step ∷ steps) = told_after step 1 steps

put_words : (b : Bool) (run : StepRun) (more : List StepRun) → ends_run b (word_of run) (map word_of more) ≡ map word_of (put_run b run more)
unfolding put_run
put_words true run more = refl
put_words false run more = refl

words_after : (of_run : Step) (count : ℕ) (steps : List Step) → runs_after of_run count steps ≡ map word_of (told_after of_run count steps)
unfolding runs_after told_after
words_after of_run count [] = refl
words_after of_run count (step ∷ steps) =
    let more = goes_on_run of_run count step in
    ap (λ words. ends_run more (run_word of_run count) words) (words_after (if more then of_run else step) (if more then count + 1 else 1) steps)
    ∙ put_words more (record { step = of_run; count = count }) (told_after (if more then of_run else step) (if more then count + 1 else 1) steps)

words_told : (steps : List Step) → runs steps ≡ map word_of (told steps)
unfolding runs told
words_told [] = refl
words_told (step ∷ steps) = words_after step 1 steps

-- what a step that goes on a run is
pub alike : (first second : Outcome) → same_outcome first second ≡ true → first ≡ second
unfolding same_outcome
alike Ended.Done Ended.Done is = refl
alike Ended.Done Ended.Failed is = absurd (cc)
alike Ended.Done Ended.NoMemory is = absurd (cc)
alike Ended.Failed Ended.Done is = absurd (cc)
alike Ended.Failed Ended.Failed is = refl
alike Ended.Failed Ended.NoMemory is = absurd (cc)
alike Ended.NoMemory Ended.Done is = absurd (cc)
alike Ended.NoMemory Ended.Failed is = absurd (cc)
alike Ended.NoMemory Ended.NoMemory is = refl

record GoesOn (of_run : Step) (count : ℕ) (step : Step) : Type 0 where
  same : step ≡ of_run
  room : count < LONGEST_RUN

made_step : ℕ → Outcome → Step
made_step actor outcome = record { actor = actor; outcome = outcome }

goes_on : (of_run : Step) (count : ℕ) (step : Step) → goes_on_run of_run count step ≡ true → GoesOn of_run count step
unfolding made_step
goes_on of_run count step is =
    let first = and_parts _ _ is in
    let second = and_parts _ _ first.0 in
    record {
      same =
          ap (λ n. made_step n step.outcome) (eqb-true step.actor of_run.actor second.0)
          ∙ ap (λ o. made_step of_run.actor o) (alike step.outcome of_run.outcome second.1);
      room = ltb-true _ _ first.1;
    }

-- they stand for the steps of the order, and fit
record Tells (of_run : Step) (count : ℕ) (steps : List Step) (all : List StepRun) : Type 0 where
  is : steps_of_runs all ≡ replicate count of_run ++ steps
  fit : Each Fits all

put_tells : (b : Bool) (of_run step : Step) (count : ℕ) (steps : List Step) (all : List StepRun)
    → of_run.actor < 2 ^ 16 → count ≤ LONGEST_RUN
    → (b ≡ true → step ≡ of_run) → Tells (if b then of_run else step) (if b then count + 1 else 1) steps all
    → Tells of_run count (step ∷ steps) (put_run b (record { step = of_run; count = count }) all)
unfolding put_run steps_of_runs
put_tells true of_run step count steps all actor few on tells = record {
  is =
      tells.is
      ∙ ap (λ front. front ++ steps) (sym (replicate-append-replicate count 1 of_run))
      ∙ append_assoc (replicate count of_run) (of_run ∷ []) steps
      ∙ ap (λ s. replicate count of_run ++ s ∷ steps) (sym (on refl));
  fit = tells.fit;
}
put_tells false of_run step count steps all actor few on tells = record {
  is = ap (λ more. replicate count of_run ++ more) tells.is;
  fit = (record { actor = actor; count = few }, tells.fit);
}

room_after : (b : Bool) (count : ℕ) → (b ≡ true → count < LONGEST_RUN) → (if b then count + 1 else 1) ≤ LONGEST_RUN
room_after true count room = let below : count < LONGEST_RUN = room refl in omega arith
room_after false count room = omega arith

actor_after : (b : Bool) (of_run step : Step) → of_run.actor < 2 ^ 16 → step.actor < 2 ^ 16 → (if b then of_run else step).actor < 2 ^ 16
actor_after true of_run step first second = first
actor_after false of_run step first second = second

tells_after : (of_run : Step) (count : ℕ) (steps : List Step) → of_run.actor < 2 ^ 16 → count ≤ LONGEST_RUN → Each HasActor steps
    → Tells of_run count steps (told_after of_run count steps)
unfolding told_after steps_of_runs
tells_after of_run count [] actor few each = record { is = refl; fit = (record { actor = actor; count = few }, tt) }
tells_after of_run count (step ∷ steps) actor few each =
    let more = goes_on_run of_run count step in
    put_tells more of_run step count steps (told_after (if more then of_run else step) (if more then count + 1 else 1) steps) actor few
    (λ is. (goes_on of_run count step is).same)
    (tells_after (if more then of_run else step) (if more then count + 1 else 1) steps
    (actor_after more of_run step actor each.0)
    (room_after more count (λ is. (goes_on of_run count step is).room))
    each.1)

record IsTold (steps : List Step) : Type 0 where
  is : steps_of_runs (told steps) ≡ steps
  fit : Each Fits (told steps)

is_told : (steps : List Step) → Each HasActor steps → IsTold steps
unfolding told steps_of_runs
is_told [] each = record { is = refl; fit = tt }
is_told (step ∷ steps) each =
    let tells = tells_after step 1 steps each.0 (omega arith) each.1 in
    record { is = tells.is; fit = tells.fit }

pub lines_tell : LinesTellOrders
lines_tell a b of_a of_b same =
    let left = is_told a of_a in
    let right = is_told b of_b in
    let words : more_words (runs a) ++ 10 ∷ [] ≡ more_words (runs b) ++ 10 ∷ [] = ap (drop 5) same in
    let told_words : more_words (map word_of (told a)) ++ 10 ∷ [] ≡ more_words (map word_of (told b)) ++ 10 ∷ [] =
    ap (λ ws. more_words ws ++ 10 ∷ []) (sym (words_told a)) ∙ words ∙ ap (λ ws. more_words ws ++ 10 ∷ []) (words_told b) in
    let all : map word_of (told a) ≡ map word_of (told b) =
    same_words (map word_of (told a)) (map word_of (told b)) (words_inside (told a) left.fit) (words_inside (told b) right.fit) told_words in
    sym left.is ∙ ap steps_of_runs (runs_told (told a) (told b) left.fit right.fit all) ∙ right.is
