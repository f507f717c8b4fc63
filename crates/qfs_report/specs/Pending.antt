-- An order that is told run by run: the last run isn't told before another step comes.
use Rattle.std.specs.Prelude.{◌≤◌, List, Option, Some, None, IfSome}
use Rattle.qfs_base.specs.Sizes.{LONGEST_RUN}
use Rattle.qfs_base.specs.declared.history.Step.{Step}
use Rattle.qfs_base.specs.declared.order.StepRun.{StepRun}
use Rattle.qfs_model_text.specs.Line.{Words}
use Rattle.qfs_model_text.specs.Order.{runs, runs_after}

-- a run that isn't told yet has a step
abbrev pub IsPending : Option StepRun → Type 0
IsPending pending = IfSome pending (λ run. (1 ≤ run.count) × (run.count ≤ LONGEST_RUN))

-- the words that are still to come, where these steps are behind that run
abbrev pub words_to_come : Option StepRun → List Step → Words
words_to_come None steps = runs steps
words_to_come (Some run) steps = runs_after run.step run.count steps
