-- Orders that end where a device failed.
use Rattle.std.specs.Prelude.{ℕ, ◌≡◌, List, [], ◌∷◌, ◌++◌, IsTrue}
use Rattle.std.specs.List.{list_all}
use Rattle.qfs_base.specs.declared.history.Outcome.TheVariants as Came
use Rattle.qfs_base.specs.declared.history.Step.{Step}
use Rattle.qfs_base.specs.declared.request.ChunkRequest.{ChunkRequest}
use Rattle.qfs_base.specs.declared.request.NodeRequest.TheVariants as To
use Rattle.qfs_base.specs.declared.script.Script.{Script}
use Rattle.qfs_machine.specs.Askable.{IsAskedOfServer}
use Rattle.qfs_model_world.specs.Events.{Event, events}
use Rattle.qfs_model_world.specs.GivenOrder.{is_done}

-- the last step of an order failed, and it was a Put or a Fetch at this server; all steps before it
-- came out done
pub record FailsLast (script : Script) (order : List Step) (server : ℕ) : Type 0 where
  pub done : List Step
  pub actor : ℕ
  pub order_is : order ≡ done ++ record { actor = actor; outcome = Came.Failed } ∷ []
  pub all_done : IsTrue (list_all is_done done)
  pub event : Event
  pub events_are : events script order ≡ events script done ++ event ∷ []
  pub request : ChunkRequest
  pub asked : event.request ≡ To.Chunk server request
  pub put_or_fetch : IsAskedOfServer request
