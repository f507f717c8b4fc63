-- A world at work as its callers see it.
use Rattle.std.specs.Prelude.{ℕ, List, [], ◌∷◌, ◌++◌, map, sum_by, All, IsSome}
use Rattle.qfs_actor.specs.Standing.{Standing}
use Rattle.qfs_base.specs.declared.history.Outcome.{Outcome}
use Rattle.qfs_base.specs.declared.history.Step.{Step}
use Rattle.qfs_base.specs.declared.image.MetaImage.{MetaImage}
use Rattle.qfs_base.specs.declared.script.Script.{Script}
use Rattle.qfs_device.specs.declared.log_disk.MetaDisks.{MetaDisks}
use Rattle.qfs_model_actor.specs.Actor.{Actor}
use Rattle.qfs_model_actor.specs.Steps.{left}
use Rattle.qfs_model_world.specs.Fits.{unfinished, by_phase, first_filled}
use Rattle.qfs_nodes.specs.Actors.{actors_of}
use Rattle.qfs_nodes.specs.Nodes.{image_of, stores_of}
use Rattle.qfs_nodes.specs.declared.node.NodeState.{NodeState}
use Rattle.qfs_store.specs.Stored.{Stored}

-- what it was made of and how often its servers' devices had failed then, how its nodes and actors
-- stand, the steps so far, and what it only keeps: the devices above the script's servers, and the
-- metaserver's disks
pub record WorldView (D L : Type 0) : Type 0 where
  pub script : Script
  pub counts : List ℕ
  pub meta : MetaImage
  pub stores : List Stored
  pub actors : List Actor
  pub order : List Step
  pub spare : List D
  pub disks : MetaDisks L

-- the view of a world's parts
abbrev pub view_of : {D L : Type 0} → Script → List ℕ → List (NodeState D) → List Standing
    → List Step → List D → MetaDisks L → WorldView D L
view_of script counts nodes actors order spare disks = record {
  script = script;
  counts = counts;
  meta = image_of nodes;
  stores = stores_of nodes;
  actors = actors_of actors;
  order = order;
  spare = spare;
  disks = disks;
}

-- an order with the step of an actor more
abbrev pub with_step : List Step → ℕ → Outcome → List Step
with_step order actor outcome = order ++ record { actor = actor; outcome = outcome } ∷ []

-- whose turn it may be: the unfinished actors of the first phase that has one
abbrev pub turn_of : Script → List Actor → List ℕ
turn_of script actors = first_filled (map unfinished (by_phase script.phases actors))

-- how many steps all actors have left at most
abbrev pub steps_left : List Actor → ℕ
steps_left actors = sum_by left actors

-- each server's device tells what it holds
abbrev pub AllTell : List Stored → Type 0
AllTell stores = All (λ (stored : Stored). IsSome stored.told) stores
