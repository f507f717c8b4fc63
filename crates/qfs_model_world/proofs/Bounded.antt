-- The actors of a script start with a bounded number of steps.
use Rattle.std.proofs.Common.{ℕ, ◌+◌, ◌<◌, ◌≤◌, ◌^◌, List, [], ◌∷◌, length, arith, All}
use Rattle.std.specs.Prelude.{flat_map}
use Rattle.std.proofs.lemmas.List.Concat.{length-flat_map}
use Rattle.std.proofs.lemmas.List.Sums.{count_by-le-length, sum_by-le}
use Rattle.qfs_base.specs.EachLaws.{each_all}
use Rattle.qfs_base.specs.Rules.{all_commands, may_take_away, tries_of, rules_of}
use Rattle.qfs_base.specs.Shape.{IsStripe, IsRowCount}
use Rattle.qfs_base.specs.Table.{Each}
use Rattle.qfs_base.specs.declared.command.Command.{Command}
use Rattle.qfs_base.specs.declared.command.Command.TheVariants as Does
use Rattle.qfs_base.specs.declared.command.FileCommand.{FileCommand}
use Rattle.qfs_base.specs.declared.command.FileCommand.TheVariants as File
use Rattle.qfs_base.specs.declared.rules.Rules.{Rules}
use Rattle.qfs_base.specs.declared.script.Script.{Script}
use Rattle.qfs_model_actor.specs.Actor.{Actor}
use Rattle.qfs_model_actor.specs.Steps.{IsFileInRange, IsInRange, left}
use Rattle.qfs_model_actor.proofs.Left.{left-starting}
use Rattle.qfs_model_script.specs.InScript.{IsFileCommand, IsCommand, IsScript, actors_of}
use Rattle.qfs_model_world.specs.World.{numbered_actors, start}

-- a command of a script keeps to what bounds its steps
file_in_range : (command : FileCommand) → IsFileCommand command → IsFileInRange command
file_in_range (File.Put path recipe) is = is.1
file_in_range (File.Mkdir path) is = tt
file_in_range (File.Rmdir path) is = tt
file_in_range (File.Remove path) is = tt
file_in_range (File.Rename from to) is = tt
file_in_range (File.List path) is = tt
file_in_range (File.Get path range) is = tt

in_range : (servers : ℕ) (command : Command) → IsCommand servers command → IsInRange command
in_range servers (Does.File command) is = file_in_range command is
in_range servers (Does.Recover path index slot) is = tt
in_range servers (Does.Move path index slot server) is = tt
in_range servers (Does.Heal budget) is = is.1
in_range servers (Does.Rebalance budget) is = is.1
in_range servers (Does.Evacuate server budget) is = is.1.1
in_range servers (Does.Sweep budget) is = is.1
in_range servers (Does.Stop server) is = tt
in_range servers (Does.Start server) is = tt
in_range servers (Does.Wipe server) is = tt
in_range servers (Does.Hibernate server ticks) is = tt
in_range servers (Does.Upgrade server) is = tt
in_range servers Does.Tick is = tt
in_range servers (Does.Drop actor) is = tt
in_range servers Does.Checkpoint is = tt
in_range servers Does.Restart is = tt

all_in_range : (servers : ℕ) (commands : List Command) → Each (IsCommand servers) commands → All IsInRange commands
all_in_range servers commands each k d inside = in_range servers _ (each_all (IsCommand servers) commands each k d inside)

-- an actor has fewer than 2 ^ 56 steps left
abbrev pub IsBounded : Actor → Type 0
IsBounded actor = left actor < 2 ^ 56

-- a get of a script has few attempts, since a script has few commands
few_tries : (script : Script) → IsScript script → tries_of script < 2 ^ 19
unfolding tries_of all_commands
few_tries script is =
    let actors : List (List Command) = actors_of script in
    omega (
      arith,
      count_by-le-length may_take_away (flat_map (λ commands. commands) actors),
      length-flat_map (λ (commands : List Command). commands) actors,
      sum_by-le (λ (commands : List Command). length commands) 4096 actors (each_all _ actors is.few_commands),
      is.few_actors,
    )

actors_bounded : (rules : Rules) (servers number : ℕ) (actors : List (List Command))
    → IsStripe rules.layout.s → IsRowCount rules.layout.r → rules.tries < 2 ^ 19
    → Each (λ commands. length commands ≤ 4096) actors → Each (Each (IsCommand servers)) actors
    → Each IsBounded (numbered_actors rules number actors)
unfolding numbered_actors
actors_bounded rules servers number [] stripe rows few short each = tt
actors_bounded rules servers number (commands ∷ more) stripe rows few short each = (
  left-starting rules number commands stripe rows few short.0 (all_in_range servers commands each.0),
  actors_bounded rules servers (number + 1) more stripe rows few short.1 each.1,
)

pub start_bounded : (script : Script) → IsScript script → Each IsBounded (start script).actors
unfolding start rules_of
start_bounded script is =
    actors_bounded (rules_of script) script.servers 1 (actors_of script)
    is.stripe is.rows (few_tries script is) is.few_commands is.commands
