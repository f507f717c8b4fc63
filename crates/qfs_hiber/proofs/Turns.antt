-- What becomes of a node's reply at each stage of a command on a server.
use Rattle.std.proofs.Common.{◌≡◌, ◌∙◌, refl, sym, ℕ, None, Some}
use Rattle.qfs_base.specs.declared.reply.ChunkReply.{ChunkReply}
use Rattle.qfs_base.specs.declared.reply.MetaReply.{MetaReply}
use Rattle.qfs_base.specs.declared.reply.NodeReply.TheVariants as From
use Rattle.qfs_machine.specs.Endings.{ending_of_meta, ending_of_chunk, report_of_ending}
use Rattle.qfs_machine.proofs.Endings.{on_answer-nothing, on_answer-none, on_served-some, on_served-none}
use Rattle.qfs_machine.specs.declared.ending.Ending.{Ending}
use Rattle.qfs_model_actor.specs.Ask.{ask, ask_server, on_chunk, on_served}
use Rattle.qfs_model_actor.specs.Hold.{nothing, ask_or, end_with, give_back, on_answer, on_meta}
use Rattle.qfs_model_actor.specs.Servers.{stop_work, start_work, wipe_work, hibernate_work, upgrade_work, tell_copies}
use Rattle.qfs_model_actor.specs.Work.{ends, goes_on, request_in}
use Rattle.qfs_hiber.specs.Rest.{rest_of_change, report_of_change}
use Rattle.qfs_hiber.specs.Turns.{after_answer, after_served, strange_stage, AsksMeta, AsksServer}
use Rattle.qfs_hiber.specs.declared.ending.ChangeEnding.{ChangeEnding}
use Rattle.qfs_hiber.specs.declared.stage.Stage.{Stage}
use Rattle.qfs_hiber.specs.declared.stage.Stage.TheVariants as At

meta_goes : (server : ℕ) (stage : Stage) (answer : MetaReply) → AsksMeta stage
    → goes_on (rest_of_change server stage) (From.Meta answer)
    ≡ on_answer (end_with nothing) (after_answer server stage) answer
unfolding rest_of_change after_answer hibernate_work ask ask_or on_meta goes_on
meta_goes server At.Parting answer asks = refl
meta_goes server (At.Telling up life keys) answer asks = refl
meta_goes server (At.Announcing ticks) answer asks = refl
meta_goes server At.Stopping answer asks = absurd asks
meta_goes server At.Starting answer asks = absurd asks
meta_goes server At.Wiping answer asks = absurd asks
meta_goes server (At.Listing up) answer asks = absurd asks
meta_goes server (At.Resting until) answer asks = absurd asks
meta_goes server At.Upgrading answer asks = absurd asks
meta_goes server (At.Ended ending) answer asks = absurd asks

server_goes : (server : ℕ) (stage : Stage) (reply : ChunkReply) → AsksServer stage
    → goes_on (rest_of_change server stage) (From.Chunk reply)
    ≡ on_served nothing (after_served server stage) reply.answer
unfolding rest_of_change after_served stop_work start_work wipe_work upgrade_work tell_copies ask_server on_chunk goes_on
server_goes server At.Stopping reply asks = refl
server_goes server At.Starting reply asks = refl
server_goes server At.Wiping reply asks = refl
server_goes server (At.Listing up) reply asks = refl
server_goes server (At.Resting until) reply asks = refl
server_goes server At.Upgrading reply asks = refl
server_goes server At.Parting reply asks = absurd asks
server_goes server (At.Telling up life keys) reply asks = absurd asks
server_goes server (At.Announcing ticks) reply asks = absurd asks
server_goes server (At.Ended ending) reply asks = absurd asks

-- an answer ends the command as it may end any, or the command goes on with it
pub meta_ends : (server : ℕ) (stage : Stage) (answer : MetaReply) (ending : Ending) → AsksMeta stage
    → ending_of_meta answer ≡ Some ending
    → ends (report_of_ending ending) ≡ goes_on (rest_of_change server stage) (From.Meta answer)
meta_ends server stage answer ending asks is =
    sym (meta_goes server stage answer asks ∙ on_answer-nothing (after_answer server stage) answer ending is)

pub meta_goes_on : (server : ℕ) (stage : Stage) (answer : MetaReply) → AsksMeta stage
    → ending_of_meta answer ≡ None
    → after_answer server stage answer ≡ goes_on (rest_of_change server stage) (From.Meta answer)
meta_goes_on server stage answer asks none =
    sym (meta_goes server stage answer asks ∙ on_answer-none (end_with nothing) (after_answer server stage) answer none)

pub server_ends : (server : ℕ) (stage : Stage) (reply : ChunkReply) (ending : Ending) → AsksServer stage
    → ending_of_chunk reply.answer ≡ Some ending
    → ends (report_of_ending ending) ≡ goes_on (rest_of_change server stage) (From.Chunk reply)
unfolding end_with give_back
server_ends server stage reply ending asks is =
    sym (server_goes server stage reply asks ∙ on_served-some nothing (after_served server stage) reply.answer ending is)

pub server_goes_on : (server : ℕ) (stage : Stage) (reply : ChunkReply) → AsksServer stage
    → ending_of_chunk reply.answer ≡ None
    → after_served server stage reply.answer ≡ goes_on (rest_of_change server stage) (From.Chunk reply)
server_goes_on server stage reply asks none =
    sym (server_goes server stage reply asks ∙ on_served-none nothing (after_served server stage) reply.answer none)

-- a node that wasn't asked
pub strange_meta : (server : ℕ) (stage : Stage) (answer : MetaReply) → (AsksMeta stage → ⊥)
    → rest_of_change server (strange_stage stage) ≡ goes_on (rest_of_change server stage) (From.Meta answer)
unfolding rest_of_change report_of_change report_of_ending stop_work start_work wipe_work upgrade_work tell_copies ask_server on_chunk goes_on
strange_meta server At.Stopping answer other = refl
strange_meta server At.Starting answer other = refl
strange_meta server At.Wiping answer other = refl
strange_meta server (At.Listing up) answer other = refl
strange_meta server (At.Resting until) answer other = refl
strange_meta server At.Upgrading answer other = refl
strange_meta server At.Parting answer other = absurd (other tt)
strange_meta server (At.Telling up life keys) answer other = absurd (other tt)
strange_meta server (At.Announcing ticks) answer other = absurd (other tt)
strange_meta server (At.Ended ending) answer other = refl

pub strange_server : (server : ℕ) (stage : Stage) (reply : ChunkReply) → (AsksServer stage → ⊥)
    → rest_of_change server (strange_stage stage) ≡ goes_on (rest_of_change server stage) (From.Chunk reply)
unfolding rest_of_change report_of_change report_of_ending hibernate_work ask ask_or on_meta goes_on
strange_server server At.Stopping reply other = absurd (other tt)
strange_server server At.Starting reply other = absurd (other tt)
strange_server server At.Wiping reply other = absurd (other tt)
strange_server server (At.Listing up) reply other = absurd (other tt)
strange_server server (At.Resting until) reply other = absurd (other tt)
strange_server server At.Upgrading reply other = absurd (other tt)
strange_server server At.Parting reply other = refl
strange_server server (At.Telling up life keys) reply other = refl
strange_server server (At.Announcing ticks) reply other = refl
strange_server server (At.Ended ending) reply other = refl

-- a command that asks nothing more has ended
pub has_ended : (server : ℕ) (stage : Stage) → request_in (rest_of_change server stage) ≡ None
    → ((ending : ChangeEnding) → stage ≡ At.Ended ending → ⊥) → ⊥
unfolding rest_of_change stop_work start_work wipe_work hibernate_work upgrade_work tell_copies ask ask_or ask_server request_in
has_ended server (At.Ended ending) none other = other ending refl
has_ended server At.Stopping none other = absurd (cc)
has_ended server At.Starting none other = absurd (cc)
has_ended server At.Wiping none other = absurd (cc)
has_ended server (At.Listing up) none other = absurd (cc)
has_ended server (At.Resting until) none other = absurd (cc)
has_ended server At.Upgrading none other = absurd (cc)
has_ended server At.Parting none other = absurd (cc)
has_ended server (At.Telling up life keys) none other = absurd (cc)
has_ended server (At.Announcing ticks) none other = absurd (cc)
