-- When the nodes and actors of a world at work are those of the definitions.
use Rattle.std.specs.Prelude.{ℕ, ◌≡◌, List, IsTrue}
use Rattle.qfs_base.specs.Rules.{rules_of}
use Rattle.qfs_base.specs.declared.history.Step.{Step}
use Rattle.qfs_base.specs.declared.image.MetaImage.{MetaImage}
use Rattle.qfs_base.specs.declared.script.Script.{Script}
use Rattle.qfs_model_actor.specs.Actor.{Actor}
use Rattle.qfs_model_server.specs.Server.{Server}
use Rattle.qfs_model_world.specs.Events.{events}
use Rattle.qfs_model_world.specs.Fits.{fits}
use Rattle.qfs_model_world.specs.World.{World, after}
use Rattle.qfs_store.specs.Stored.{Stored}
use Rattle.qfs_world.specs.Servers.{StandForAll}
use Rattle.qfs_world.specs.View.{WorldView, AllTell}

-- the world of a script with these nodes and actors
abbrev pub world_of : Script → MetaImage → List Server → List Actor → World
world_of script meta servers actors =
    record { rules = rules_of script; meta = meta; servers = servers; actors = actors }

-- the metaserver, the stores and the actors are those of the world after an order of a script, and
-- the order fits it
pub record FollowsOrder (script : Script) (counts : List ℕ) (order : List Step) (meta : MetaImage)
    (stores : List Stored) (actors : List Actor) : Type 0 where
  pub servers : List Server
  pub world : after script order ≡ world_of script meta servers actors
  pub stand : StandForAll script.layout.s counts (events script order) stores servers
  pub fits : IsTrue (fits script order)

-- a world at work is the world after its own order of its script
abbrev pub FollowsItself : {D L : Type 0} → WorldView D L → Type 0
FollowsItself world =
    FollowsOrder world.script world.counts world.order world.meta world.stores world.actors

-- so it is as far as the devices tell what they hold
abbrev pub IsAfter : {D L : Type 0} → WorldView D L → Type 0
IsAfter world = AllTell world.stores → FollowsItself world
