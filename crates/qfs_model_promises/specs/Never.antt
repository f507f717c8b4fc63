-- What is never told in a run, to any actor: the nodes keep what they told before.
use Rattle.std.specs.Prelude.{◌≡◌, ◌≢◌, ℕ, ◌<◌, ⊤, Bool, true, false, List, take, slice_get, Option, Some, is_some}
use Rattle.std.specs.Option.{option_and_then}
use Rattle.qfs_base.specs.declared.command.Reply.TheVariants as Says
use Rattle.qfs_base.specs.declared.history.Outcome.TheVariants as Ended
use Rattle.qfs_base.specs.declared.history.Step.{Step}
use Rattle.qfs_base.specs.declared.reply.ChunkAnswer.{ChunkAnswer}
use Rattle.qfs_base.specs.declared.reply.ChunkAnswer.TheVariants as Did
use Rattle.qfs_base.specs.declared.reply.MetaReply.{MetaReply}
use Rattle.qfs_base.specs.declared.reply.MetaReply.TheVariants as Told
use Rattle.qfs_base.specs.declared.reply.NodeReply.{NodeReply}
use Rattle.qfs_base.specs.declared.reply.NodeReply.TheVariants as From
use Rattle.qfs_base.specs.declared.request.MetaRequest.TheVariants as Ask
use Rattle.qfs_base.specs.declared.request.NodeRequest.{NodeRequest}
use Rattle.qfs_base.specs.declared.request.NodeRequest.TheVariants as To
use Rattle.qfs_base.specs.declared.script.Script.{Script}
use Rattle.qfs_model_actor.specs.Actor.{Actor}
use Rattle.qfs_model_meta.specs.Dropped.{dropped_at}
use Rattle.qfs_model_meta.specs.Past.{GivenLease}
use Rattle.qfs_model_meta.specs.TreeRows.{file_stands}
use Rattle.qfs_model_world.specs.Events.{Event, events}
use Rattle.qfs_model_world.specs.Openings.{is_release}
use Rattle.qfs_model_world.specs.Reports.{EachReport}
use Rattle.qfs_model_world.specs.World.{numbered, after}
use Rattle.qfs_model_promises.specs.Heard.{holding_of}
use Rattle.qfs_model_promises.specs.Requests.{is_fetch, is_grant, asks_meta, asks_chunk}
use Rattle.qfs_model_promises.specs.TickedLeases.{was_ended_by_tick}

-- whether the actor of a step had been dropped before it
unfoldable pub was_dropped : Event → Bool
was_dropped event = is_some (dropped_at event.actor event.before.meta.dropped)

-- the lease that the actor of a step holds before it, in its present command
unfoldable pub lease_held : Event → Option GivenLease
lease_held event =
    option_and_then (λ (actor : Actor). (holding_of actor).lease) (numbered event.before.actors event.actor)

-- the script has a term, and a Tick before the step ended the lease that its actor holds
pub record LostItsLease (script : Script) (before : List Event) (event : Event) : Type 0 where
  pub term : 0 < script.term
  pub lease : GivenLease
  pub held : lease_held event ≡ Some lease
  pub ended : was_ended_by_tick lease.lease before ≡ true

-- no copy is put twice; and no copy is wanting to a Fetch, unless its actor was dropped or lost its lease
abbrev pub NeverAnswered : Script → List Event → Event → ChunkAnswer → Type 0
NeverAnswered script before event Did.Held = ⊥
NeverAnswered script before event Did.Absent =
    asks_chunk is_fetch event.request ≡ true → was_dropped event ≡ false → LostItsLease script before event
NeverAnswered script before event answer = ⊤

-- what a command got is its own until it gives it back, or its lease has run out; and what it writes has no other grants. A
-- dropped actor is told that alone
abbrev pub NeverTold : Script → List Event → Event → MetaReply → Type 0
NeverTold script before event (Told.Stale held given) = ⊥
NeverTold script before event (Told.Incomplete index slot) = ⊥
NeverTold script before event Told.Gone = (is_release event.request ≡ true) × LostItsLease script before event
NeverTold script before event Told.NoBlock = asks_meta is_grant event.request ≡ false
NeverTold script before event (Told.Taken version) = asks_meta is_grant event.request ≡ false
NeverTold script before event reply = ⊤

abbrev pub NeverReplied : Script → List Event → Event → NodeReply → Type 0
NeverReplied script before event (From.Chunk reply) = NeverAnswered script before event reply.answer
NeverReplied script before event (From.Meta reply) = NeverTold script before event reply

-- what a Confirm is answered: that the grant is current, or that its file was removed
unfoldable pub confirmed_if : Bool → MetaReply
confirmed_if true = Told.Confirmed
confirmed_if false = Told.Vanished

-- a removed file shows in a Confirm so and not otherwise
abbrev pub ConfirmTells : Event → NodeRequest → Type 0
ConfirmTells event (To.Meta (Ask.Confirm block slot version lease)) =
    was_dropped event ≡ false → event.outcome ≡ Ended.Done
    → event.reply ≡ From.Meta (confirmed_if (file_stands block.file event.before.meta.tree))
ConfirmTells event request = ⊤

-- none of these comes in a run, and no command ends with an answer that its request doesn't allow
pub record NeverIn (script : Script) (order : List Step) : Type 0 where
  pub replies : (i : ℕ) (event : Event) → slice_get (events script order) i ≡ Some event
      → NeverReplied script (take i (events script order)) event event.reply
  pub confirms : (i : ℕ) (event : Event) → slice_get (events script order) i ≡ Some event
      → ConfirmTells event event.request
  pub reports : EachReport (after script order) (λ actor number report. report ≢ Says.Unnamed)
