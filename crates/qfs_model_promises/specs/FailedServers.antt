-- Why a recovery or move couldn't store a chunk, or read the one that it moves: a server failed its Put, or a Fetch.
use Rattle.std.specs.Prelude.{◌≡◌, ℕ, ◌==◌, ◌&&◌, Bool, true, false, List, Option, Some, None, IsTrue}
use Rattle.std.specs.List.{list_any}
use Rattle.qfs_base.specs.declared.command.Command.{Command}
use Rattle.qfs_base.specs.declared.command.Command.TheVariants as Does
use Rattle.qfs_base.specs.declared.command.Reply.TheVariants as Says
use Rattle.qfs_base.specs.declared.history.Step.{Step}
use Rattle.qfs_base.specs.declared.lists.Cause.{Cause}
use Rattle.qfs_base.specs.declared.lists.Cause.TheVariants as Because
use Rattle.qfs_base.specs.declared.request.ChunkRequest.{ChunkRequest}
use Rattle.qfs_base.specs.declared.script.Script.{Script}
use Rattle.qfs_model_actor.specs.Work.{Report}
use Rattle.qfs_model_world.specs.Events.{Event, events, steps_of}
use Rattle.qfs_model_world.specs.Puts.{command_of}
use Rattle.qfs_model_world.specs.Reports.{report_of}
use Rattle.qfs_model_world.specs.World.{after}
use Rattle.qfs_model_promises.specs.Closing.{IsClosedWell}
use Rattle.qfs_model_promises.specs.Requests.{is_put, is_fetch, asks_server}
use Rattle.qfs_model_promises.specs.TooFew.{cause_told}

-- whether two causes are the same
unfoldable pub same_cause : Cause → Cause → Bool
same_cause Because.Unlisted Because.Unlisted = true
same_cause Because.Down Because.Down = true
same_cause (Because.Lost asked now) (Because.Lost was is) = (asked == was) && (now == is)
same_cause Because.Absent Because.Absent = true
same_cause Because.Fault Because.Fault = true
same_cause cause other = false

unfoldable pub is_cause : Cause → Option Cause → Bool
is_cause cause None = false
is_cause cause (Some other) = same_cause cause other

-- whether such a request to a server failed in a step for this cause
unfoldable pub failed_for : (ChunkRequest → Bool) → ℕ → Cause → Event → Bool
failed_for test server cause event = asks_server test server event.request && is_cause cause (cause_told event.reply)

-- a Put, or a Fetch, of these steps failed so
abbrev pub HasFailed : (ChunkRequest → Bool) → ℕ → Cause → List Event → Type 0
HasFailed test server cause own = IsTrue (list_any (failed_for test server cause) own)

-- whether a command moves one copy, and whether it stores one at all
unfoldable pub is_move : Command → Bool
is_move (Does.Move path index slot server) = true
is_move command = false

unfoldable pub stores_slot : Command → Bool
stores_slot (Does.Recover path index slot) = true
stores_slot command = is_move command

-- a command of an actor passes the test, and ended with this report
pub record HasEnded (test : Command → Bool) (script : Script) (order : List Step) (actor number : ℕ) (report : Report) : Type 0 where
  pub command : Command
  pub is : command_of script actor number ≡ Some command
  pub passes : test command ≡ true
  pub ended : report_of (after script order) actor number ≡ Some report

module _ (script : Script) (order : List Step) (actor number : ℕ) where
  abbrev pub own : List Event
  own = steps_of actor number (events script order)

-- a recovery or move that replies that its destination failed had its Put fail there, and one whose Put fails replies so
pub record DestinationsFail (script : Script) (order : List Step) : Type 0 where
  pub told : (actor number server : ℕ) (cause : Cause)
      → report_of (after script order) actor number ≡ Some (Says.DestFailed server cause)
      → HasFailed is_put server cause (own script order actor number)
  pub tells : (actor number server : ℕ) (cause : Cause) (report : Report)
      → HasEnded stores_slot script order actor number report
      → HasFailed is_put server cause (own script order actor number)
      → IsClosedWell (own script order actor number)
      → report ≡ Says.DestFailed server cause

-- a move that replies that its source failed had a Fetch fail there, and one whose Fetch fails replies so
pub record SourcesFail (script : Script) (order : List Step) : Type 0 where
  pub told : (actor number server : ℕ) (cause : Cause)
      → report_of (after script order) actor number ≡ Some (Says.SourceFailed server cause)
      → HasFailed is_fetch server cause (own script order actor number)
  pub tells : (actor number server : ℕ) (cause : Cause) (report : Report)
      → HasEnded is_move script order actor number report
      → HasFailed is_fetch server cause (own script order actor number)
      → IsClosedWell (own script order actor number)
      → report ≡ Says.SourceFailed server cause
