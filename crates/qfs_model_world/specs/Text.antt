-- What a script and an order print.
use Rattle.std.specs.Prelude.{ℕ, List, flat_map}
use Rattle.qfs_base.specs.declared.command.ReplyLine.{ReplyLine}
use Rattle.qfs_base.specs.declared.history.Step.{Step}
use Rattle.qfs_base.specs.declared.script.Script.{Script}
use Rattle.qfs_model_actor.specs.Actor.{Actor}
use Rattle.qfs_model_actor.specs.Shown.{lines_from}
use Rattle.qfs_model_text.specs.Output.{output}
use Rattle.qfs_model_world.specs.Audit.{audit_if}
use Rattle.qfs_model_world.specs.World.{World, after}

-- the reply lines of an actor
unfoldable pub lines_of_actor : Actor → List ReplyLine
lines_of_actor actor = lines_from actor.number 1 actor.ended

-- the reply lines of a world, by actor and command
unfoldable pub lines_of_world : World → List ReplyLine
lines_of_world world = flat_map lines_of_actor world.actors

-- what a world prints that stands after this order of a script
unfoldable pub printed : Script → List Step → World → List ℕ
printed script order world =
    output (lines_of_world world) world.meta.history (audit_if script order world script.audit) order

-- the text of a script and an order
unfoldable pub text : Script → List Step → List ℕ
text script order = printed script order (after script order)
