-- What a step more makes of the runs of an order.
use Rattle.std.proofs.Common.{IsTrue, Bool, true, false, not, true≢false, ◌≡◌, ◌-◌, ◌<◌, ◌≤◌, ◌+◌, ◌^◌, [], ◌∷◌, ◌++◌, List, length, take, replicate, flat_map, slice_get, get_or, subst, Option, Some, None, MatchOption, refl, sym, ap, arith, ◌∙◌, ℕ}
use Rattle.std.specs.Option.{is_some}
use Rattle.std.proofs.lemmas.Grind.{flat_map-append}
use Rattle.std.proofs.lemmas.List.{replicate-append-replicate, take_more, take_all, append_assoc, take-append-le, append-nil, length-append}
use Rattle.std.proofs.lemmas.Option.{slice_get-get_or, slice_get_within, get_or_from_slice_get}
use Rattle.qfs_base.specs.declared.history.Step.{Step}
use Rattle.qfs_base.specs.declared.order.StepRun.{StepRun}
use Rattle.qfs_base.specs.Sizes.{LONGEST_RUN}
use Rattle.qfs_base.specs.Order.{AreRuns, EndsApart, IsApart, LengthensLast, all_steps, run_steps, steps_of_runs}

-- a list up to its last item, and that one, are the list
pub to_last : {X : Type 0} (xs : List X) (x : X) → slice_get xs (length xs - 1) ≡ Some x → take (length xs - 1) xs ++ x ∷ [] ≡ xs
to_last xs x is =
    let within : length xs - 1 < length xs = slice_get_within xs (length xs - 1) x is in
    let up_to : length xs ≤ length xs - 1 + 1 = omega arith in
    ap (λ y. take (length xs - 1) xs ++ y ∷ []) (sym (get_or_from_slice_get xs (length xs - 1) x x is))
    ∙ sym (take_more xs (length xs - 1) x within)
    ∙ take_all _ _ up_to

-- a list but for its last item
pub but_last : {X : Type 0} (xs : List X) (x : X) → take (length (xs ++ x ∷ []) - 1) (xs ++ x ∷ []) ≡ xs
but_last xs x =
    let short : length (xs ++ x ∷ []) - 1 ≡ length xs = grind (arith, length-append) in
    ap (λ n. take n (xs ++ x ∷ [])) short ∙ take-append-le (length xs) xs (x ∷ []) (omega arith) ∙ take_all _ _ (omega arith)

-- runs, and one behind them
pub one_run_more : (runs : List StepRun) (run : StepRun) → steps_of_runs (runs ++ run ∷ []) ≡ steps_of_runs runs ++ replicate run.count run.step
unfolding steps_of_runs
one_run_more runs run = flat_map-append run_steps runs (run ∷ []) ∙ ap (λ steps. flat_map run_steps runs ++ steps) (append-nil (replicate run.count run.step))

-- the last run is longer by some steps
pub goes_on : (runs : List StepRun) (more : StepRun) (count : ℕ) → LengthensLast runs more count
    → steps_of_runs (take (length runs - 1) runs ++ record { step = more.step; count = count } ∷ [])
    ≡ steps_of_runs runs ++ run_steps more
goes_on runs more count l =
    let front : List StepRun = take (length runs - 1) runs in
    one_run_more front (record { step = more.step; count = count })
    ∙ ap (λ n. steps_of_runs front ++ replicate n more.step) l.longer
    ∙ ap (λ steps. steps_of_runs front ++ steps) (sym (replicate-append-replicate l.run.count more.count more.step))
    ∙ sym (append_assoc (steps_of_runs front) (replicate l.run.count more.step) (run_steps more))
    ∙ ap (λ (s : Step). steps_of_runs front ++ replicate l.run.count s ++ run_steps more) (sym l.alike)
    ∙ ap (λ steps. steps ++ run_steps more) (sym (one_run_more front l.run) ∙ ap steps_of_runs (to_last runs l.run l.last))

-- a run but for its last step, and that step behind it
pub but_one_behind : (steps : List Step) (step : Step) (count : ℕ) → 1 ≤ count
    → (steps ++ replicate (count - 1) step) ++ step ∷ [] ≡ steps ++ replicate count step
but_one_behind steps step count some =
    let back : count - 1 + 1 ≡ count = omega arith in
    append_assoc steps (replicate (count - 1) step) (step ∷ [])
    ∙ ap (λ more. steps ++ more) (replicate-append-replicate (count - 1) 1 step ∙ ap (λ n. replicate n step) back)

-- runs stay runs where the last one gets longer
last_longer : (front : List StepRun) (run longer : StepRun) → AreRuns (front ++ run ∷ []) → run.step ≡ longer.step
    → run.count ≤ longer.count → AreRuns (front ++ longer ∷ [])
unfolding AreRuns
last_longer [] run longer few alike more = (omega (arith, few.0, more), (tt, tt))
last_longer (first ∷ []) run longer few alike more = (
  few.0,
  (
    λ same. let apart : LONGEST_RUN < first.count + run.count = few.1.0 (same ∙ sym alike) in omega (arith, apart, more),
    last_longer [] run longer few.1.1 alike more,
  ),
)
last_longer (first ∷ next ∷ front) run longer few alike more =
    (few.0, (few.1.0, last_longer (next ∷ front) run longer few.1.1 alike more))

-- and where one comes behind them that doesn't go on the last
one_behind_last : (front : List StepRun) (last more : StepRun) → AreRuns (front ++ last ∷ []) → IsApart last (more ∷ [])
    → 1 ≤ more.count → AreRuns ((front ++ last ∷ []) ++ more ∷ [])
unfolding AreRuns
one_behind_last [] last more few apart some = (few.0, (apart, (some, (tt, tt))))
one_behind_last (first ∷ []) last more few apart some = (few.0, (few.1.0, one_behind_last [] last more few.1.1 apart some))
one_behind_last (first ∷ next ∷ front) last more few apart some =
    (few.0, (few.1.0, one_behind_last (next ∷ front) last more few.1.1 apart some))

-- runs whose last one goes on are runs
pub still_runs : (runs : List StepRun) (more : StepRun) (count : ℕ) → AreRuns runs → LengthensLast runs more count
    → AreRuns (take (length runs - 1) runs ++ record { step = more.step; count = count } ∷ [])
still_runs runs more count few l =
    let longer : l.run.count ≤ count = omega (arith, l.longer) in
    last_longer (take (length runs - 1) runs) l.run (record { step = more.step; count = count })
    (subst AreRuns (sym (to_last runs l.run l.last)) few) l.alike longer

-- runs with a further one behind them are runs
pub further_run : (runs : List StepRun) (more : StepRun) → AreRuns runs → EndsApart runs more → 1 ≤ more.count
    → AreRuns (runs ++ more ∷ [])
unfolding AreRuns EndsApart
further_run [] more few ends some = (some, (tt, tt))
further_run (first ∷ rest) more few ends some =
    let runs : List StepRun = first ∷ rest in
    let within : length runs - 1 < length runs = omega arith in
    let last : StepRun = get_or runs (length runs - 1) first in
    let is : slice_get runs (length runs - 1) ≡ Some last = slice_get-get_or runs (length runs - 1) first within in
    let whole : take (length runs - 1) runs ++ last ∷ [] ≡ runs = to_last runs last is in
    subst (λ all. AreRuns (all ++ more ∷ [])) whole
    (one_behind_last (take (length runs - 1) runs) last more (subst AreRuns (sym whole) few) (ends last is) some)

-- steps don't go on a last run of another step
pub another_step : (runs : List StepRun) (more run : StepRun) → slice_get runs (length runs - 1) ≡ Some run
    → (run.step ≡ more.step → ⊥) → EndsApart runs more
unfolding EndsApart
another_step runs more run is other last at same =
    let one : run ≡ last = cc in
    absurd (other (ap (λ (r : StepRun). r.step) one ∙ same))

-- nor on none
pub no_last : (runs : List StepRun) (more : StepRun) → slice_get runs (length runs - 1) ≡ None → EndsApart runs more
unfolding EndsApart
no_last runs more is last at same = absurd cc

-- they go on a last run of the same step where both together are a run
pub by_sum : (sum : Option ℕ) (runs : List StepRun) (more run : StepRun) → slice_get runs (length runs - 1) ≡ Some run
    → run.step ≡ more.step → MatchOption sum (2 ^ 32 ≤ run.count + more.count) (λ count. count ≡ run.count + more.count)
    → MatchOption sum (EndsApart runs more) (LengthensLast runs more)
unfolding EndsApart
by_sum (Some count) runs more run is alike longer = record { run = run; last = is; alike = alike; longer = longer }
by_sum None runs more run is alike long = λ last at same.
    let one : run ≡ last = cc in
    subst (λ (r : StepRun). LONGEST_RUN < r.count + more.count) one (omega (arith, long))

-- an order with a last step isn't empty
one_behind : (steps : List Step) (step : Step) → steps ++ step ∷ [] ≡ [] → ⊥
one_behind [] step e = absurd (omega (arith, ap length e))
one_behind (first ∷ steps) step e = absurd (omega (arith, ap length e))

-- an order is empty exactly where it has no last step
pub empty_exactly : (runs : List StepRun) (last : Option Step) (none : Bool) → (last ≡ None → runs ≡ []) → is_some last ≡ not none
    → (IsTrue none → all_steps runs last ≡ []) × (all_steps runs last ≡ [] → IsTrue none)
unfolding steps_of_runs
empty_exactly runs None true empty is = (λ t. ap (λ r. all_steps r None) (empty refl), λ e. refl)
empty_exactly runs None false empty is = absurd (true≢false (sym is))
empty_exactly runs (Some step) true empty is = absurd (true≢false is)
empty_exactly runs (Some step) false empty is = (λ f. absurd (true≢false (sym f)), λ e. absurd (one_behind (steps_of_runs runs) step e))

-- another last step in place of the one that an order has
pub another_last : (runs : List StepRun) (last : Option Step) (steps : List Step) (step : Step) → (last ≡ None → runs ≡ []) → all_steps runs last ≡ steps → 0 < length steps
    → steps_of_runs runs ++ step ∷ [] ≡ take (length steps - 1) steps ++ step ∷ []
unfolding steps_of_runs
another_last runs None steps step empty is some =
    let none : steps ≡ [] = sym is ∙ ap (λ r. all_steps r None) (empty refl) in
    absurd (omega (arith, some, ap length none))
another_last runs (Some last) steps step empty is some =
    ap (λ s. s ++ step ∷ []) (sym (but_last (steps_of_runs runs) last) ∙ ap (λ s. take (length s - 1) s) is)
