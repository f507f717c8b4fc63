-- The copy has the commands so far.
use Rattle.std.proofs.Common.{◌≡◌, take}
use Rattle.qfs_nodes.proofs.start.copy_commands.Given as goal

abbrev pub invariant-loop-command : goal.invariant-loop-command
invariant-loop-command l = l.copy ≡ take l.command-index l.commands
