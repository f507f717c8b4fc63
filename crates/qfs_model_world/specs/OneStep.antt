-- A step looks at its actor and at the one node that it goes to, and changes no other.
use Rattle.std.specs.Prelude.{◌≡◌, ℕ, zero, suc, Option, Some}
use Rattle.std.specs.Option.{option_map}
use Rattle.qfs_base.specs.declared.history.Step.{Step}
use Rattle.qfs_base.specs.declared.image.MetaImage.{MetaImage}
use Rattle.qfs_base.specs.declared.reply.NodeReply.{NodeReply}
use Rattle.qfs_model_actor.specs.Actor.{Actor, node_of}
use Rattle.qfs_model_server.specs.Server.{Server}
use Rattle.qfs_model_world.specs.Events.{Event, event_in}
use Rattle.qfs_model_world.specs.World.{World, numbered, move}

-- what stands at a node: the metaserver at 0, and server s at s
pub data NodeAt : Type 0 where
  metaserver : MetaImage → NodeAt
  server : Option Server → NodeAt

unfoldable pub node_at : World → ℕ → NodeAt
node_at world zero = metaserver world.meta
node_at world (suc n) = server (numbered world.servers (suc n))

-- the actor of a number, and the node that it goes to next
pub record GoesTo (world : World) (number : ℕ) (actor : Actor) (node : ℕ) : Type 0 where
  pub actor_is : numbered world.actors number ≡ Some actor
  pub node_is : node_of actor ≡ Some node

-- what the node answers in a step
unfoldable pub answer_in : World → Step → Option NodeReply
answer_in world step = option_map (λ (event : Event). event.reply) (event_in world step)

-- a step comes to the same in two worlds: it is answered alike, and its actor and node are alike behind it
pub record IsAlike (one other : World) (step : Step) (node : ℕ) : Type 0 where
  pub answers : answer_in one step ≡ answer_in other step
  pub actors : numbered (move one step).actors step.actor ≡ numbered (move other step).actors step.actor
  pub nodes : node_at (move one step) node ≡ node_at (move other step) node

-- worlds of the same rules that agree on an actor and on the node that it goes to: its step comes to the same
abbrev pub StepsAreAlike : Type 0
StepsAreAlike =
    (one other : World) (step : Step) (actor : Actor) (node : ℕ)
    → one.rules ≡ other.rules → GoesTo one step.actor actor node → GoesTo other step.actor actor node
    → node_at one node ≡ node_at other node → IsAlike one other step node

-- every actor but one, and every node but one, is as before
pub record OthersStay (before behind : World) (number node : ℕ) : Type 0 where
  pub rules : behind.rules ≡ before.rules
  pub actors : (other : ℕ) → (other ≡ number → ⊥) → numbered behind.actors other ≡ numbered before.actors other
  pub nodes : (other : ℕ) → (other ≡ node → ⊥) → node_at behind other ≡ node_at before other

-- a step changes its actor and the node that it goes to, and nothing else
abbrev pub StepsChangeTwo : Type 0
StepsChangeTwo =
    (world : World) (step : Step) (actor : Actor) (node : ℕ)
    → GoesTo world step.actor actor node → OthersStay world (move world step) step.actor node
