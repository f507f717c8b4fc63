-- The order line: the steps as runs of equal ones.
use Rattle.std.specs.Prelude.{◌≡◌, ℕ, ◌+◌, ◌^◌, ◌<◌, ◌==◌, ◌&&◌, nat_lt, Bool, true, false, if◌then◌else◌, List, [], ◌∷◌, ◌++◌, codes, decimal}
use Rattle.qfs_base.specs.declared.history.Step.{Step}
use Rattle.qfs_base.specs.declared.history.Outcome.{Outcome}
use Rattle.qfs_base.specs.declared.history.Outcome.TheVariants as Ended
use Rattle.qfs_base.specs.Sizes.{LONGEST_RUN}
use Rattle.qfs_base.specs.Table.{Each}
use Rattle.qfs_model_text.specs.Line.{Words, line}

-- whether two steps ended alike
unfoldable pub same_outcome : Outcome → Outcome → Bool
same_outcome Ended.Done Ended.Done = true
same_outcome Ended.Done Ended.Failed = false
same_outcome Ended.Done Ended.NoMemory = false
same_outcome Ended.Failed Ended.Done = false
same_outcome Ended.Failed Ended.Failed = true
same_outcome Ended.Failed Ended.NoMemory = false
same_outcome Ended.NoMemory Ended.Done = false
same_outcome Ended.NoMemory Ended.Failed = false
same_outcome Ended.NoMemory Ended.NoMemory = true

-- whether a step goes on a run of so many like this one
abbrev pub goes_on_run : Step → ℕ → Step → Bool
goes_on_run of_run count step =
    step.actor == of_run.actor && same_outcome step.outcome of_run.outcome && nat_lt count LONGEST_RUN

-- how a step that didn't come out done is marked: f where a device failed, m where memory was wanting
unfoldable pub outcome_mark : Outcome → List ℕ
outcome_mark Ended.Done = []
outcome_mark Ended.Failed = codes "f"
outcome_mark Ended.NoMemory = codes "m"

-- a run: the actor, the mark, and how many steps
abbrev pub run_word : Step → ℕ → List ℕ
run_word step count = decimal step.actor ++ outcome_mark step.outcome ++ codes "x" ++ decimal count

-- the words, with one more before them where a run ends here
abbrev pub ends_run : Bool → List ℕ → Words → Words
ends_run b word words = if b then words else (word ∷ words)

-- the runs from here on, after so many steps like this one: each is as long as can be
unfoldable pub runs_after : Step → ℕ → List Step → Words
runs_after of_run count [] = run_word of_run count ∷ []
runs_after of_run count (step ∷ steps) =
    let more = goes_on_run of_run count step in
    ends_run more (run_word of_run count)
    (runs_after (if more then of_run else step) (if more then count + 1 else 1) steps)

-- the runs of an order
unfoldable pub runs : List Step → Words
runs [] = []
runs (step ∷ steps) = runs_after step 1 steps

-- the order line
abbrev pub order_line : List Step → List ℕ
order_line order = line (codes "order") (runs order)

-- a step of an actor with a number of 16 bits
abbrev pub HasActor : Step → Type 0
HasActor step = step.actor < 2 ^ 16

-- an order line tells its order: two orders with one line are the same
abbrev pub LinesTellOrders : Type 0
LinesTellOrders = (a b : List Step) → Each HasActor a → Each HasActor b → order_line a ≡ order_line b → a ≡ b
