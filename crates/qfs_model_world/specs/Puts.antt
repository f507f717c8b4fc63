-- The commands of a script's actors, and what their puts write.
use Rattle.std.specs.Prelude.{ℕ, List, [], flat_map, Option, Some, None, unwrap_or}
use Rattle.std.specs.Option.{option_map, option_and_then}
use Rattle.qfs_base.specs.Files.{Puts}
use Rattle.qfs_base.specs.NameTree.{PathNames}
use Rattle.qfs_base.specs.Recipe.{bytes_of}
use Rattle.qfs_base.specs.declared.command.Command.{Command}
use Rattle.qfs_base.specs.declared.command.Command.TheVariants as Does
use Rattle.qfs_base.specs.declared.command.FileCommand.TheVariants as File
use Rattle.qfs_base.specs.declared.script.Script.{Script}
use Rattle.qfs_model_world.specs.World.{numbered}

-- the command of an actor and a number, both from 1; actors are numbered through all phases
unfoldable pub command_of : Script → ℕ → ℕ → Option Command
command_of script actor number =
    option_and_then (λ commands. numbered commands number) (numbered (flat_map (λ phase. phase) script.phases) actor)

-- what a put writes, and where
pub record PutCommand : Type 0 where
  pub path : PathNames
  pub bytes : List ℕ

unfoldable pub put_in : Command → Option PutCommand
put_in (Does.File (File.Put path recipe)) = Some (record { path = path; bytes = bytes_of recipe })
put_in command = None

-- the put that is a command of an actor, if it is one
unfoldable pub put_of : Script → ℕ → ℕ → Option PutCommand
put_of script actor number = option_and_then put_in (command_of script actor number)

-- the path and the bytes of that put
unfoldable pub put_path : Script → ℕ → ℕ → Option PathNames
put_path script actor number = option_map (λ (put : PutCommand). put.path) (put_of script actor number)

unfoldable pub puts_of : Script → Puts
puts_of script actor number =
    unwrap_or (option_map (λ (put : PutCommand). put.bytes) (put_of script actor number)) []
