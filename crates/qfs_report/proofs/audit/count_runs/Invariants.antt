-- The steps of the runs so far with those of the runs that are left are those of all runs.
use Rattle.std.proofs.Common.{◌≡◌, ◌≤◌, ◌+◌, ◌*◌, ◌^◌, length, drop}
use Rattle.qfs_base.specs.Order.{steps_of_runs}
use Rattle.qfs_report.proofs.audit.count_runs.Given as goal

abbrev pub invariant-loop-run : goal.invariant-loop-run
invariant-loop-run l = record {
  steps : l.steps + length (steps_of_runs (drop l.run-index l.runs))
      ≡ length (steps_of_runs l.runs);
  few : l.steps ≤ l.run-index * 2 ^ 32;
}
