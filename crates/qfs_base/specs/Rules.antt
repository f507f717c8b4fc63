-- The rules that a script fixes for all of its nodes and actors.
use Rattle.std.specs.Prelude.{ℕ, ◌+◌, Bool, true, false, List, flat_map, count_by}
use Rattle.qfs_base.specs.declared.command.Command.{Command}
use Rattle.qfs_base.specs.declared.command.Command.TheVariants as Does
use Rattle.qfs_base.specs.declared.rules.Rules.{Rules}
use Rattle.qfs_base.specs.declared.script.Script.{Script}

-- the commands of all actors of a script
unfoldable pub all_commands : Script → List Command
all_commands script = flat_map (λ commands. commands) (flat_map (λ phase. phase) script.phases)

-- whether a command may take a copy away from those who read: only behind one of these can a get that
-- opens its file anew find more than before
unfoldable pub may_take_away : Command → Bool
may_take_away (Does.Stop server) = true
may_take_away (Does.Hibernate server ticks) = true
may_take_away (Does.Wipe server) = true
may_take_away Does.Tick = true
may_take_away command = false

-- how often a get of a script may open its file: once, and once more for each such command
unfoldable pub tries_of : Script → ℕ
tries_of script = 1 + count_by may_take_away (all_commands script)

-- the rules of a script
unfoldable pub rules_of : Script → Rules
rules_of script = record { layout = script.layout; term = script.term; tries = tries_of script }
