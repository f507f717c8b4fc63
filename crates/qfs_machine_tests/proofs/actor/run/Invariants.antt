use Rattle.std.proofs.Common.{◌≡◌}
use Rattle.qfs_machine.specs.declared.machine.Readiness.TheVariants.{Unready}
use Rattle.qfs_machine_tests.proofs.actor.run.Given as goal

abbrev pub invariant-loop-count : goal.invariant-loop-count
invariant-loop-count l = l.actor.readiness ≡ Unready
