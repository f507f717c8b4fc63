-- A world at work whose actors take their turns as they are drawn.
use Rattle.std.specs.Prelude.{ℕ, ◌≡◌, ⊤, List, [], Some, IsTrue}
use Rattle.std.specs.List.{AllZip, list_all}
use Rattle.qfs_base.specs.declared.history.Outcome.TheVariants as Came
use Rattle.qfs_driver.specs.Fails.{FailsLast}
use Rattle.qfs_driver.specs.declared.status.Status.{Status}
use Rattle.qfs_driver.specs.declared.status.Status.TheVariants as Ended
use Rattle.qfs_model_world.specs.Drawn.{drawn_of, is_drawn}
use Rattle.qfs_device.specs.Fault.{Rose}
use Rattle.qfs_model_world.specs.GivenOrder.{is_done}
use Rattle.qfs_model_world.specs.World.{numbered}
use Rattle.qfs_store.specs.Stored.{Stored}
use Rattle.qfs_world.specs.Calls.{GoesOn, TakesStep}
use Rattle.qfs_world.specs.View.{WorldView, AllTell, turn_of}

module _ {D L : Type 0} where
  -- a world at work came of another by steps: what it was made of and only keeps is the same, and
  -- its devices tell what they hold as they did and have failed no less often
  pub record Continues (before behind : WorldView D L) : Type 0 where
    pub script_is : behind.script ≡ before.script
    pub counts_are : behind.counts ≡ before.counts
    pub spare_is : behind.spare ≡ before.spare
    pub disks_are : behind.disks ≡ before.disks
    pub stores_go_on : AllZip GoesOn before.stores behind.stores

  -- its steps were drawn from a number, as far as its devices tell what they hold, and all came out
  -- done
  pub record IsDrawnSo (number : ℕ) (world : WorldView D L) : Type 0 where
    pub drawn : AllTell world.stores → IsTrue (is_drawn number world.script world.order)
    pub done : IsTrue (list_all is_done world.order)

  -- of those whose turn it may be, the one at a word's place took a step that came out done
  pub record TakesDrawnStep (turns : List ℕ) (word : ℕ) (before behind : WorldView D L)
      : Type 0 where
    pub actor : ℕ
    pub drawn : drawn_of turns word ≡ Some actor
    pub steps : TakesStep before actor Came.Done behind

  -- nothing is left to do
  abbrev pub HasNothingLeft : WorldView D L → Type 0
  HasNothingLeft world = turn_of world.script world.actors ≡ []

  -- an actor's step failed at a server
  pub record FailsAt (before : WorldView D L) (actor server : ℕ) (behind : WorldView D L)
      : Type 0 where
    pub steps : TakesStep before actor Came.Failed behind
    pub at : steps.node ≡ server

  -- why the step of an actor ends a run: memory is wanting, or the step failed at a server
  abbrev pub StopsStep : WorldView D L → ℕ → WorldView D L → Status → Type 0
  StopsStep before actor behind Ended.NoMemory = ⊤
  StopsStep before actor behind (Ended.DeviceFault server) = FailsAt before actor server behind
  StopsStep before actor behind status = ⊥

  -- so did the step of the one at a word's place, of those whose turn it may be
  pub record StopsDrawnStep (turns : List ℕ) (word : ℕ) (before behind : WorldView D L)
      (status : Status) : Type 0 where
    pub actor : ℕ
    pub drawn : drawn_of turns word ≡ Some actor
    pub stops : StopsStep before actor behind status

  -- its steps were drawn from a number, and the last of them failed at a server
  pub record IsDrawnToFault (number server : ℕ) (world : WorldView D L) : Type 0 where
    pub drawn : IsTrue (is_drawn number world.script world.order)
    pub fails : FailsLast world.script world.order server

  -- the count of faults of a server's device rose between these
  pub record HasRisen (before behind : WorldView D L) (server : ℕ) : Type 0 where
    pub old : Stored
    pub new : Stored
    pub before_is : numbered before.stores server ≡ Some old
    pub behind_is : numbered behind.stores server ≡ Some new
    pub rose : Rose old.faults new.faults

  -- the device of a server failed, and as far as the devices tell what they hold, in the last of
  -- the steps that were drawn
  pub record StopsAtServer (number server : ℕ) (before behind : WorldView D L) : Type 0 where
    pub risen : HasRisen before behind server
    pub drawn : AllTell behind.stores → IsDrawnToFault number server behind

  -- why the steps of a run stop early: memory is wanting, or the device of a server failed
  abbrev pub StopsAt : ℕ → WorldView D L → WorldView D L → Status → Type 0
  StopsAt number before behind Ended.NoMemory = ⊤
  StopsAt number before behind (Ended.DeviceFault server) =
      StopsAtServer number server before behind
  StopsAt number before behind status = ⊥
