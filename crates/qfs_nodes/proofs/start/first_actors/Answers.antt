-- One phase more.
use Rattle.std.proofs.Common.{◌<◌, List, length}
use Rattle.std.specs.Prelude.{All, flat_map, ◌^◌}
use Rattle.qfs_base.specs.declared.command.Command.{Command}
use Rattle.qfs_nodes.specs.Scripts.{AreBuilt}
use Rattle.qfs_nodes.proofs.Starts.{phase-fits, phase_step, all-in_phase}
use Rattle.qfs_nodes.proofs.Tries.{some-try}
use Rattle.qfs_nodes.proofs.start.first_actors.Goals as goal

pub add_phase-requires-clause-tries : goal.add_phase-requires-clause-tries
add_phase-requires-clause-tries c = rw c.rules_of-rules.ensures (some-try c.args.script.now)

pub add_phase-requires-clause-few : goal.add_phase-requires-clause-few
add_phase-requires-clause-few c =
    let few : length (flat_map (λ (p : List (List Command)). p) c.as_slice-phases.result.now) < 2 ^ 16 =
    rw c.as_slice-phases.ensures c.requires.actors in
    rw c.as_slice.ensures (phase-fits c.rules_of-rules.result c.as_slice-phases.result.now c.loop-phase.phase-index c.phase-item.result
    c.loop-phase.actors.items c.loop-phase-test.true c.phase-item.is c.loop-phase.invariant few)

pub add_phase-requires-clause-built : goal.add_phase-requires-clause-built
add_phase-requires-clause-built c =
    let all : All AreBuilt (flat_map (λ (p : List (List Command)). p) c.as_slice-phases.result.now) =
    rw c.as_slice-phases.ensures c.requires.commands in
    rw c.as_slice.ensures (all-in_phase AreBuilt c.as_slice-phases.result.now c.loop-phase.phase-index c.phase-item.result
    c.loop-phase-test.true c.phase-item.is all)

pub loop-phase-preserved : goal.loop-phase-preserved
loop-phase-preserved c =
    phase_step c.rules_of-rules.result c.as_slice-phases.result.now c.loop-phase.phase-index c.phase-item.result c.loop-phase.actors.items
    c.loop-phase-test.true c.phase-item.is c.loop-phase.invariant _ (rw c.as_slice.ensures at c.in_ok-add_phase.ensures)
