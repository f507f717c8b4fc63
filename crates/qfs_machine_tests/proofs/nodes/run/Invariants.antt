use Rattle.std.proofs.Common.{◌≡◌}
use Rattle.qfs_machine.specs.declared.machine.Readiness.TheVariants.{Unready}
use Rattle.qfs_machine_tests.proofs.nodes.run.Given as goal

abbrev pub invariant-loop-turn : goal.invariant-loop-turn
invariant-loop-turn g l = g.M.Machine.readiness l.machine ≡ Unready
