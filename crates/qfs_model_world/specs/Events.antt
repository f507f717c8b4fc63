-- The steps of an order, each with what was asked and answered in it.
use Rattle.std.specs.Prelude.{ℕ, ◌==◌, ◌&&◌, Bool, List, [], ◌∷◌, length, filter, fold, Option, Some, None}
use Rattle.std.specs.Option.{option_and_then}
use Rattle.std.specs.List.{cons_option}
use Rattle.qfs_base.specs.declared.history.Outcome.{Outcome}
use Rattle.qfs_base.specs.declared.history.Step.{Step}
use Rattle.qfs_base.specs.declared.reply.NodeReply.{NodeReply}
use Rattle.qfs_base.specs.declared.reply.NodeReply.TheVariants as From
use Rattle.qfs_base.specs.declared.request.NodeRequest.{NodeRequest}
use Rattle.qfs_base.specs.declared.script.Script.{Script}
use Rattle.qfs_model_actor.specs.Actor.{Actor, command_number, request_of}
use Rattle.qfs_model_meta.specs.Past.{Past, no_past, remember}
use Rattle.qfs_model_world.specs.World.{World, start, numbered, node_turn, move}

-- a step in a world: an actor asked a node a request in one of its commands, and was answered
pub record Event : Type 0 where
  pub before : World
  pub actor : ℕ
  pub command : ℕ
  pub outcome : Outcome
  pub request : NodeRequest
  pub reply : NodeReply

-- an actor's request, served so
unfoldable pub event_asking : World → Step → Actor → NodeRequest → Event
event_asking world step actor request = record {
  before = world;
  actor = step.actor;
  command = command_number actor;
  outcome = step.outcome;
  request = request;
  reply = (node_turn world step.actor step.outcome request).reply;
}

unfoldable pub event_by : World → Step → Actor → Option NodeRequest → Option Event
event_by world step actor None = None
event_by world step actor (Some request) = Some (event_asking world step actor request)

-- a step in a world; that of an actor which isn't there or has finished is none
unfoldable pub event_in : World → Step → Option Event
event_in world step =
    option_and_then (λ actor. event_by world step actor (request_of actor)) (numbered world.actors step.actor)

-- the steps from a world on
unfoldable pub events_from : World → List Step → List Event
events_from world [] = []
events_from world (step ∷ steps) = cons_option (event_in world step) (events_from (move world step) steps)

-- the steps of an order. Where it fits the script there is one for each entry
unfoldable pub events : Script → List Step → List Event
events script order = events_from (start script) order

-- the world behind a step
abbrev pub world_behind : Event → World
world_behind event = move event.before (record { actor = event.actor; outcome = event.outcome })

-- the length of the file history just before a step
abbrev pub place_before : Event → ℕ
place_before event = length event.before.meta.history

-- whether a step is one of this command of this actor, and all such steps
unfoldable pub is_step_of : ℕ → ℕ → Event → Bool
is_step_of actor command event = (event.actor == actor) && (event.command == command)

unfoldable pub steps_of : ℕ → ℕ → List Event → List Event
steps_of actor command steps = filter (is_step_of actor command) steps

-- what the metaserver has told actors in these steps, as far as it has to keep to it
unfoldable pub remember_reply : ℕ → Past → NodeReply → Past
remember_reply actor past (From.Meta reply) = remember actor past reply
remember_reply actor past (From.Chunk reply) = past

unfoldable pub past_of : List Event → Past
past_of steps = fold (λ past (event : Event). remember_reply event.actor past event.reply) no_past steps
