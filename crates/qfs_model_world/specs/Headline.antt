-- The headline, as far as it speaks of a script and an order alone: what is printed, one file history, every get, no deletion,
-- and the replayed metaserver.
use Rattle.std.specs.Prelude.{◌≡◌, ℕ, ◌<◌, ◌==◌, ◌&&◌, not, Bool, List, count_by, length, Option, Some, IsTrue}
use Rattle.qfs_base.specs.declared.history.Outcome.TheVariants as Ended
use Rattle.qfs_base.specs.declared.history.Step.{Step}
use Rattle.qfs_base.specs.declared.image.MetaImage.{MetaImage}
use Rattle.qfs_base.specs.declared.script.Script.{Script}
use Rattle.qfs_model_actor.specs.Work.{node_of_request}
use Rattle.qfs_model_text.specs.Order.{same_outcome}
use Rattle.qfs_model_world.specs.Deletion.{NoDeletion}
use Rattle.qfs_model_world.specs.Drawn.{is_drawn}
use Rattle.qfs_model_world.specs.Events.{Event}
use Rattle.qfs_model_world.specs.EveryGet.{EveryGet}
use Rattle.qfs_model_world.specs.Fits.{fits, is_whole}
use Rattle.qfs_model_world.specs.GivenOrder.{IsFollowed}
use Rattle.qfs_model_world.specs.Replayed.{Replayed}
use Rattle.qfs_model_world.specs.Reports.{OneFileHistory}
use Rattle.qfs_model_world.specs.Text.{text}

-- an order fits its script and is whole, and its text was written
pub record IsPrinted (script : Script) (order : List Step) (written : List ℕ) : Type 0 where
  pub fitting : IsTrue (fits script order)
  pub whole : IsTrue (is_whole script order)
  pub text_is : written ≡ text script order

-- the same of the order that is drawn from a number
pub record IsPrintedDrawn (number : ℕ) (script : Script) (order : List Step) (written : List ℕ) : Type 0 where
  pub printed : IsPrinted script order written
  pub drawn : IsTrue (is_drawn number script order)

-- the same of the order that the script gives, which can be followed to its end: all its steps come out done
pub record IsPrintedGiven (script : Script) (order : List Step) (written : List ℕ) : Type 0 where
  pub printed : IsPrinted script order written
  pub given : script.order ≡ Some order
  pub followed : IsFollowed script order

-- an order is short: a version fits its 32 bits
abbrev pub IsShort : List Step → Type 0
IsShort order = length order < 4294967296

-- what is to hold of every run, where the disks spell this in the end
pub record HoldsOf (script : Script) (order : List Step) (spelled : Option MetaImage) : Type 0 where
  pub one_history : OneFileHistory script order
  pub every_get : EveryGet script order
  pub no_deletion : NoDeletion script order
  pub replayed : Replayed script order spelled

-- whether a step is at a chunk server, or came out done at the metaserver
unfoldable pub is_sure : Event → Bool
is_sure event = not ((node_of_request event.request == 0) && not (same_outcome event.outcome Ended.Done))

-- how many steps failed at a node: 0 is the metaserver, s is server s
unfoldable pub is_failed_at : ℕ → Event → Bool
is_failed_at node event = (node_of_request event.request == node) && same_outcome event.outcome Ended.Failed

unfoldable pub failed_at : ℕ → List Event → ℕ
failed_at node steps = count_by (is_failed_at node) steps
