-- The sizes so far are those of the phases so far.
use Rattle.std.proofs.Common.{◌≡◌, take}
use Rattle.qfs_nodes.specs.Actors.{sizes_of}
use Rattle.qfs_nodes.proofs.start.phase_sizes.Given as goal

abbrev pub invariant-loop-phase : goal.invariant-loop-phase
invariant-loop-phase l = l.sizes.items ≡ sizes_of (take l.phase-index l.phases)
