-- What the calls of a world promise.
use Rattle.std.specs.Prelude.{ℕ, ◌≡◌, ◌<◌, ◌≤◌, ◌==◌, List, [], take, drop, map, Option, Some, IsTrue, is_some}
use Rattle.std.specs.List.{AllZip, list_any}
use Rattle.qfs_base.specs.Rules.{rules_of}
use Rattle.qfs_base.specs.declared.history.Outcome.{Outcome}
use Rattle.qfs_base.specs.declared.history.Outcome.TheVariants as Ended
use Rattle.qfs_base.specs.declared.reply.NodeReply.{NodeReply}
use Rattle.qfs_base.specs.declared.script.Script.{Script}
use Rattle.qfs_device.specs.Fault.{RoseOnce}
use Rattle.qfs_device.specs.Held.{Held}
use Rattle.qfs_device.specs.declared.log_disk.MetaDisks.{MetaDisks}
use Rattle.qfs_model_actor.specs.Actor.{Actor, after_reply, node_of}
use Rattle.qfs_model_meta.specs.Step.{opening}
use Rattle.qfs_model_world.specs.World.{numbered, renumbered, numbered_actors}
use Rattle.qfs_nodes.specs.Nodes.{AreHome, nodes_with, stores_over}
use Rattle.qfs_nodes.specs.Scripts.{commands_by_actor, meta_of}
use Rattle.qfs_nodes.specs.declared.node.NodeState.{NodeState}
use Rattle.qfs_store.specs.Stored.{Stored}
use Rattle.qfs_world.specs.AtWork.{TakesTurn}
use Rattle.qfs_world.specs.View.{WorldView, turn_of, steps_left, with_step}

-- ---- a new world

module _ {D L : Type 0} where
  -- the world in which a script starts, over these devices and disks
  pub record Starts (told : D → Option Held) (faults : D → ℕ) (script : Script) (devices : List D)
      (disks : MetaDisks L) (world : WorldView D L) : Type 0 where
    pub script_is : world.script ≡ script
    pub counts_are : world.counts ≡ map faults (take script.servers devices)
    pub meta_is : world.meta ≡ opening script.servers
    pub stores_are : world.stores
        ≡ stores_over told faults script.layout.s (take script.servers devices)
    pub actors_are : world.actors ≡ numbered_actors (rules_of script) 1 (commands_by_actor script)
    pub order_is : world.order ≡ []
    pub spare_are : world.spare ≡ drop script.servers devices
    pub disks_are : world.disks ≡ disks

-- ---- a step

-- a server's device tells what it holds as it did, and it has failed no less often
pub record GoesOn (before behind : Stored) : Type 0 where
  pub tells : is_some behind.told ≡ is_some before.told
  pub never_falls : before.faults ≤ behind.faults

-- the node of this number is a server whose device failed once
pub record FailedOnce (before behind : List Stored) (node : ℕ) : Type 0 where
  pub old : Stored
  pub new : Stored
  pub before_is : numbered before node ≡ Some old
  pub behind_is : numbered behind node ≡ Some new
  pub rose : RoseOnce old.faults new.faults

module _ {D L : Type 0} where
  -- it is this actor's turn
  abbrev pub HasTurn : WorldView D L → ℕ → Type 0
  HasTurn world actor =
      IsTrue (list_any (λ number. number == actor) (turn_of world.script world.actors))

  -- the nodes: the metaserver, and behind it the chunk servers
  abbrev pub nodes_of : WorldView D L → List (NodeState D)
  nodes_of world = nodes_with (meta_of world.script world.meta) world.stores

  -- an actor of this number took its step: its node served its request, and it took the reply, by
  -- which the step came out so. The order has one entry more
  pub record ActorMoves (before : WorldView D L) (number : ℕ) (outcome : Outcome) (node : ℕ)
      (behind : WorldView D L) : Type 0 where
    pub actor : Actor
    pub reply : NodeReply
    pub of : numbered before.actors number ≡ Some actor
    pub to : node_of actor ≡ Some node
    pub turns : TakesTurn (nodes_of before) actor outcome (nodes_of behind)
        (after_reply actor reply)
    pub actors : behind.actors ≡ renumbered before.actors number (after_reply actor reply)
    pub order : behind.order ≡ with_step before.order number outcome
    pub falls : steps_left behind.actors < steps_left before.actors

  -- every node but the one of this number is as it was, and so is what the world only keeps
  pub record AllElseStays (before behind : WorldView D L) (node : ℕ) : Type 0 where
    pub meta : (node ≡ 0 → ⊥) → behind.meta ≡ before.meta
    pub stores : (server : ℕ) → (server ≡ node → ⊥)
        → numbered behind.stores server ≡ numbered before.stores server
    pub script : behind.script ≡ before.script
    pub counts : behind.counts ≡ before.counts
    pub spare : behind.spare ≡ before.spare
    pub disks : behind.disks ≡ before.disks

  -- an actor took its step, which came out so, and nothing else changed but that actor and the node
  -- that its request went to. Devices go on, and a step that failed is one at a server whose device
  -- failed
  pub record TakesStep (before : WorldView D L) (number : ℕ) (outcome : Outcome)
      (behind : WorldView D L) : Type 0 where
    pub node : ℕ
    pub moves : ActorMoves before number outcome node behind
    pub others : AllElseStays before behind node
    pub goes_on : AllZip GoesOn before.stores behind.stores
    pub cause : outcome ≡ Ended.Failed → FailedOnce before.stores behind.stores node

-- ---- its end

-- these devices are those of a world, each in its place; those above the script's servers are as
-- they came
abbrev pub AreDevicesOf : {D L : Type 0} → (D → Option Held) → (D → ℕ) → WorldView D L → List D
    → Type 0
AreDevicesOf told faults world devices = AreHome told faults world.stores world.spare devices
