-- One phase more.
use Rattle.qfs_nodes.proofs.Starts.{sizes_step}
use Rattle.qfs_nodes.proofs.start.phase_sizes.Goals as goal

pub loop-phase-preserved : goal.loop-phase-preserved
loop-phase-preserved c =
    sizes_step c.as_slice-phases.result.now c.loop-phase.phase-index c.phase-item.result c.loop-phase.sizes.items _ c.loop-phase.invariant
    c.loop-phase-test.true c.phase-item.is c.in_ok-push_size.ensures
