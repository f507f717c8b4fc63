-- The scripts that a world can be made of.
use Rattle.std.specs.Prelude.{◌<◌, ◌≤◌, ◌^◌, List, length, flat_map, All}
use Rattle.qfs_actor.specs.Forms.{IsBuilt}
use Rattle.qfs_base.specs.Sizes.{MOST_SERVERS}
use Rattle.qfs_base.specs.declared.command.Command.{Command}
use Rattle.qfs_base.specs.declared.image.MetaImage.{MetaImage}
use Rattle.qfs_base.specs.declared.script.Script.{Script}
use Rattle.qfs_meta.specs.Metaserver.{Metaserver}

-- the commands of each actor, by number
abbrev pub commands_by_actor : Script → List (List Command)
commands_by_actor script = flat_map (λ phase. phase) script.phases

-- an actor's commands are built, and each has a number
pub record AreBuilt (commands : List Command) : Type 0 where
  pub few : length commands < 2 ^ 16
  pub built : All IsBuilt commands

-- a script that a world can be made of
pub record IsRunnable (script : Script) : Type 0 where
  pub some_server : 1 ≤ script.servers
  pub servers : script.servers ≤ MOST_SERVERS
  pub actors : length (commands_by_actor script) < 2 ^ 16
  pub commands : All AreBuilt (commands_by_actor script)

-- the metaserver of a script in this state
abbrev pub meta_of : Script → MetaImage → Metaserver
meta_of script image = record { layout = script.layout; term = script.term; image = image }
