use Rattle.std.proofs.Common.{◌≡◌, ◌+◌, ◌≤◌, length}
use Rattle.qfs_first.specs.Script.{read_commands, first_command, most_commands}
use Rattle.qfs_first.proofs.CommandLines.{after}
use Rattle.qfs_first.proofs.commands.read_commands.Given as goal

abbrev pub invariant-loop-line : goal.invariant-loop-line
invariant-loop-line l = record {
  said : read_commands first_command l.initial.lines ≡ after l.commands (read_commands l.number l.lines);
  room : l.number ≤ first_command + most_commands;
}

abbrev pub decreases-loop-line : goal.decreases-loop-line
decreases-loop-line l = length l.lines
