-- An order of steps, as the list that its runs of equal steps stand for.
use Rattle.std.specs.Prelude.{◌≡◌, ◌⊎◌, ℕ, ◌+◌, ◌-◌, ◌<◌, ◌≤◌, List, [], ◌∷◌, ◌++◌, length, replicate, flat_map, slice_get, Option, Some, option_to_list}
use Rattle.qfs_base.specs.declared.history.Step.{Step}
use Rattle.qfs_base.specs.declared.order.StepRun.{StepRun}
use Rattle.qfs_base.specs.Sizes.{LONGEST_RUN}

-- the steps of a run
abbrev pub run_steps : StepRun → List Step
run_steps run = replicate run.count run.step

-- those of some runs, one after another
unfoldable pub steps_of_runs : List StepRun → List Step
steps_of_runs runs = flat_map run_steps runs

-- and a last one behind them
abbrev pub all_steps : List StepRun → Option Step → List Step
all_steps runs last = steps_of_runs runs ++ option_to_list last

-- at most one step came behind the others
abbrev pub IsFront : List Step → Step → List Step → Type 0
IsFront steps step now = (now ≡ steps) ⊎ (now ≡ steps ++ step ∷ [])

-- a run doesn't go on the one before it: that is of another step, or both together were too long
abbrev pub IsApart : StepRun → List StepRun → Type 0
IsApart run [] = Unit
IsApart run (next ∷ more) = run.step ≡ next.step → LONGEST_RUN < run.count + next.count

-- no run is empty, and none goes on the one before it
unfoldable pub AreRuns : List StepRun → Type 0
AreRuns [] = Unit
AreRuns (run ∷ more) = (1 ≤ run.count) × (IsApart run more × AreRuns more)

-- a run can't go on the last of these
unfoldable pub EndsApart : List StepRun → StepRun → Type 0
EndsApart runs next =
    (last : StepRun) → slice_get runs (length runs - 1) ≡ Some last → IsApart last (next ∷ [])

-- so many steps more go on the last of these runs, which is so long with them
pub record LengthensLast (runs : List StepRun) (more : StepRun) (count : ℕ) : Type 0 where
  pub run : StepRun
  pub last : slice_get runs (length runs - 1) ≡ Some run
  pub alike : run.step ≡ more.step
  pub longer : count ≡ run.count + more.count
