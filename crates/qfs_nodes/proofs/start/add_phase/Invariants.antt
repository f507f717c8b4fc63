-- The actors so far are those that were there and those of the phase so far.
use Rattle.std.proofs.Common.{◌≡◌, ◌+◌, ◌++◌, take, length}
use Rattle.qfs_nodes.specs.Actors.{starts_from}
use Rattle.qfs_nodes.proofs.start.add_phase.Given as goal

abbrev pub invariant-loop-commands : goal.invariant-loop-commands
invariant-loop-commands l =
    l.actors.items ≡ l.initial.actors.items ++ starts_from l.rules (length l.initial.actors.items + 1) (take l.commands-index l.phase)
