use Rattle.std.proofs.Common.{arith}
use Rattle.qfs_report.proofs.AuditSteps.{counted_more, none_left}
use Rattle.qfs_report.proofs.audit.count_runs.Goals as goal

pub loop-run-preserved : goal.loop-run-preserved
loop-run-preserved c = record {
  steps = grind (arith, counted_more);
  few = omega arith;
}

pub returns-clause-count : goal.returns-clause-count
returns-clause-count c =
    omega (
      arith,
      none_left c.args.runs.now c.loop-run.run-index (omega arith),
      c.loop-run.invariant.steps,
    )
