use Rattle.std.proofs.Common.{◌≡◌, ◌++◌, drop}
use Rattle.qfs_print.specs.Texts.{commands_text}
use Rattle.qfs_print.proofs.commands.push_commands.Given as goal

-- with the commands that are left, the text is that of all commands
abbrev pub invariant-loop-command : goal.invariant-loop-command
invariant-loop-command l =
    l.out.items ++ commands_text (drop l.command-index l.commands)
    ≡ l.initial.out.items ++ commands_text l.commands
