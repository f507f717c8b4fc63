-- What holds of the parts of a world at work.
use Rattle.std.specs.Prelude.{ℕ, ◌≡◌, ◌+◌, ◌<◌, ◌≤◌, ◌^◌, List, [], ◌∷◌, length, Option, Some, None, nat_lt, if◌then◌else◌, slice_get, slice_set}
use Rattle.qfs_actor.specs.Standing.{Standing}
use Rattle.qfs_base.specs.declared.history.Outcome.{Outcome}
use Rattle.qfs_base.specs.declared.history.Step.{Step}
use Rattle.qfs_base.specs.declared.script.Script.{Script}
use Rattle.qfs_machine.specs.Asking.{IsOut}
use Rattle.qfs_model_actor.specs.Actor.{Actor, node_of}
use Rattle.qfs_nodes.specs.Actors.{actors_of, sizes_of, total}
use Rattle.qfs_nodes.specs.Nodes.{image_of, nodes_with, stores_of}
use Rattle.qfs_nodes.specs.Scripts.{meta_of}
use Rattle.qfs_nodes.specs.Turns.{Turns}
use Rattle.qfs_nodes.specs.declared.node.NodeState.{NodeState}
use Rattle.qfs_world.specs.Follows.{FollowsOrder}
use Rattle.qfs_world.specs.View.{AllTell}

-- the node that takes a turn: the one of this number, or the metaserver where there is none
abbrev pub place_in : ℕ → Option ℕ → ℕ
place_in count None = 0
place_in count (Some number) = if nat_lt number count then number else 0

-- one node took its turn with an actor; the others are as they were
pub record TakesTurn {D : Type 0} (before : List (NodeState D)) (actor : Actor) (outcome : Outcome)
    (behind : List (NodeState D)) (moved : Actor) : Type 0 where
  pub node : NodeState D
  pub next : NodeState D
  pub there : slice_get before (place_in (length before) (node_of actor)) ≡ Some node
  pub changed : behind ≡ slice_set before (place_in (length before) (node_of actor)) next
  pub turns : Turns node actor outcome next moved

-- actors are numbered from here on, and none waits for a reply
abbrev pub AreNumbered : ℕ → List Standing → Type 0
AreNumbered number [] = Unit {0}
AreNumbered number (it ∷ rest) =
    (it.actor.number ≡ number) × (IsOut it.readiness → ⊥) × AreNumbered (number + 1) rest

-- the parts of a world at work: the metaserver and behind it the chunk servers, whose devices had
-- failed so often at the start; the actors by number, the sizes of the phases, and the order of the
-- steps so far
pub record IsAtWork {D : Type 0} (script : Script) (counts : List ℕ) (nodes : List (NodeState D))
    (actors : List Standing) (phases : List ℕ) (order : List Step) : Type 0 where
  pub nodes_are : nodes ≡ nodes_with (meta_of script (image_of nodes)) (stores_of nodes)
  pub numbered : AreNumbered 1 actors
  pub few : length actors < 2 ^ 16
  pub phases_are : phases ≡ sizes_of script.phases
  pub whole : total phases ≡ length actors
  pub follows : AllTell (stores_of nodes)
      → FollowsOrder script counts order (image_of nodes) (stores_of nodes) (actors_of actors)

-- the chunk servers' devices have room beside the others where these stand
abbrev pub HasDeviceRoom : {D : Type 0} → List (NodeState D) → List D → (capacity : ℕ) → Type 0
HasDeviceRoom nodes spare capacity = length (stores_of nodes) + length spare ≤ capacity
