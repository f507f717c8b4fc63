-- The world of a script: one metaserver, the chunk servers and the actors by number, and how a step moves it.
use Rattle.std.specs.Prelude.{ℕ, zero, suc, ◌+◌, List, [], ◌∷◌, slice_get, slice_set, replicate, flat_map, fold, Option, Some, None}
use Rattle.qfs_base.specs.Rules.{rules_of}
use Rattle.qfs_base.specs.declared.command.Command.{Command}
use Rattle.qfs_base.specs.declared.history.Outcome.{Outcome}
use Rattle.qfs_base.specs.declared.history.Step.{Step}
use Rattle.qfs_base.specs.declared.image.MetaImage.{MetaImage}
use Rattle.qfs_base.specs.declared.reply.ChunkAnswer.TheVariants as Answer
use Rattle.qfs_base.specs.declared.reply.NodeReply.{NodeReply}
use Rattle.qfs_base.specs.declared.reply.NodeReply.TheVariants as From
use Rattle.qfs_base.specs.declared.request.ChunkRequest.{ChunkRequest}
use Rattle.qfs_base.specs.declared.request.NodeRequest.{NodeRequest}
use Rattle.qfs_base.specs.declared.request.NodeRequest.TheVariants as To
use Rattle.qfs_base.specs.declared.rules.Rules.{Rules}
use Rattle.qfs_base.specs.declared.script.Script.{Script}
use Rattle.qfs_model_actor.specs.Actor.{Actor, starting, request_of, after_reply}
use Rattle.qfs_model_meta.specs.Step.{Served, opening, meta_step}
use Rattle.qfs_model_server.specs.Server.{Server, Answered, fresh_server, server_step, without_room}

pub record World : Type 0 where
  pub rules : Rules
  pub meta : MetaImage
  pub servers : List Server
  pub actors : List Actor

-- the actors of these commands, each at its first one, numbered from here on
unfoldable pub numbered_actors : Rules → ℕ → List (List Command) → List Actor
numbered_actors rules number [] = []
numbered_actors rules number (commands ∷ more) =
    starting rules number commands ∷ numbered_actors rules (number + 1) more

-- the world in which a script starts: all servers up and empty in life 1, no files, all actors at their first command
unfoldable pub start : Script → World
start script = record {
  rules = rules_of script;
  meta = opening script.servers;
  servers = replicate script.servers fresh_server;
  actors = numbered_actors (rules_of script) 1 (flat_map (λ phase. phase) script.phases);
}

-- what stands at a number, counted from 1
unfoldable pub numbered : {X : Type 0} → List X → ℕ → Option X
numbered xs zero = None
numbered xs (suc n) = slice_get xs n

-- the list after what stands at a number, counted from 1, was replaced
unfoldable pub renumbered : {X : Type 0} → List X → ℕ → X → List X
renumbered xs zero x = xs
renumbered xs (suc n) x = slice_set xs n x

-- a world after a node's step, and what the node answered
pub record Turned : Type 0 where
  pub world : World
  pub reply : NodeReply

-- the metaserver served a request
unfoldable pub meta_turned : World → Served → Turned
meta_turned world served =
    record { world = record world { meta = served.meta }; reply = From.Meta served.reply }

-- a chunk server served a request
unfoldable pub chunk_turned : World → ℕ → Answered → Turned
chunk_turned world number answered = record {
  world = record world { servers = renumbered world.servers number answered.server };
  reply = From.Chunk answered.reply;
}

-- a request to a chunk server; one that isn't there is down
unfoldable pub chunk_turn : World → ℕ → ChunkRequest → Outcome → Option Server → Turned
chunk_turn world number request outcome None =
    record { world = world; reply = From.Chunk (without_room Answer.Down) }
chunk_turn world number request outcome (Some server) =
    chunk_turned world number (server_step request outcome server)

-- the step of the node that a request goes to, where it comes out so
unfoldable pub node_turn : World → ℕ → Outcome → NodeRequest → Turned
node_turn world actor outcome (To.Meta request) =
    meta_turned world (meta_step world.rules actor request outcome world.meta)
node_turn world actor outcome (To.Chunk number request) =
    chunk_turn world number request outcome (numbered world.servers number)

-- the reply is handed to the actor
unfoldable pub handed_over : ℕ → Actor → Turned → World
handed_over number actor turned =
    record turned.world { actors = renumbered turned.world.actors number (after_reply actor turned.reply) }

-- an actor asks its next request, if it has one
unfoldable pub move_asking : World → ℕ → Outcome → Actor → Option NodeRequest → World
move_asking world number outcome actor None = world
move_asking world number outcome actor (Some request) =
    handed_over number actor (node_turn world number outcome request)

-- the actor of a number moves, if there is one
unfoldable pub move_actor : World → ℕ → Outcome → Option Actor → World
move_actor world number outcome None = world
move_actor world number outcome (Some actor) =
    move_asking world number outcome actor (request_of actor)

-- the world after a step: the node of the actor's next request serves it, and the actor takes the reply. Nothing else changes
unfoldable pub move : World → Step → World
move world step = move_actor world step.actor step.outcome (numbered world.actors step.actor)

-- the world after these steps of a script, in order
unfoldable pub after : Script → List Step → World
after script order = fold move (start script) order
