-- What becomes of a node's reply at each stage of a put.
use Rattle.std.proofs.Common.{◌≡◌, refl, ℕ, ◌⊎◌, inl, inr}
use Rattle.qfs_base.specs.declared.chunk.Copy.{Copy}
use Rattle.qfs_base.specs.declared.reply.ChunkReply.{ChunkReply}
use Rattle.qfs_base.specs.declared.reply.MetaReply.{MetaReply}
use Rattle.qfs_base.specs.declared.reply.NodeReply.{NodeReply}
use Rattle.qfs_base.specs.declared.reply.NodeReply.TheVariants as From
use Rattle.qfs_model_actor.specs.Ask.{ask, ask_server, on_chunk}
use Rattle.qfs_model_actor.specs.Hold.{unnamed, on_answer, on_meta, ask_or, give_back, end_with}
use Rattle.qfs_model_actor.specs.Put.{ask_grant, store, close_file, put_work}
use Rattle.qfs_machine.specs.Endings.{ended_by, report_of_ending}
use Rattle.qfs_machine.specs.declared.ending.Ending.{Ending}
use Rattle.qfs_machine.specs.declared.ending.Ending.TheVariants as By
use Rattle.qfs_model_actor.specs.Work.{Report, Work, goes_on}
use Rattle.qfs_writer.specs.declared.stage.PutEnding.{PutEnding}
use Rattle.qfs_writer.specs.declared.stage.PutEnding.TheVariants as With
use Rattle.qfs_writer.specs.declared.stage.Put.{Put}
use Rattle.qfs_writer.specs.declared.stage.PutSlot.{PutSlot}
use Rattle.qfs_writer.specs.declared.stage.Stage.{Stage}
use Rattle.qfs_writer.specs.declared.stage.Stage.TheVariants as At
use Rattle.qfs_writer.specs.Moves.{behind_store, hold_at, on_answer_at, on_grant, on_store, AsksMeta}
use Rattle.qfs_writer.specs.Rest.{rest_of_put, report_of_put, grant_of}
use Rattle.qfs_writer.proofs.Puts.{rest_of_grant-asks}

-- a server's answer to a slot that is stored there, and an answer of another node
pub stored-goes : (put : Put) (at : PutSlot) (copy : Copy) (reply : ChunkReply)
    → on_store put at reply.answer ≡ goes_on (rest_of_put put (At.Storing at copy)) (From.Chunk reply)
unfolding on_store behind_store rest_of_put store ask_server goes_on on_chunk grant_of
stored-goes put at copy reply = refl

pub stored-strange : (put : Put) (at : PutSlot) (copy : Copy) (answer : MetaReply)
    → unnamed ≡ goes_on (rest_of_put put (At.Storing at copy)) (From.Meta answer)
unfolding rest_of_put store ask_server goes_on on_chunk
stored-strange put at copy answer = refl

-- an answer of the metaserver to its request, and an answer of another node
pub asked-goes : (put : Put) (stage : Stage) (answer : MetaReply) → AsksMeta stage
    → on_answer (end_with (hold_at stage)) (on_answer_at put stage) answer ≡ goes_on (rest_of_put put stage) (From.Meta answer)
unfolding rest_of_put ask_grant close_file put_work ask ask_or on_meta goes_on hold_at on_answer_at on_grant end_with give_back
asked-goes put At.Creating answer asks = refl
asked-goes put (At.Granting at) answer asks = rw (rest_of_grant-asks put at at.grants at.again) refl
asked-goes put (At.Storing at copy) answer asks = absurd asks
asked-goes put (At.Closing file) answer asks = refl
asked-goes put (At.Aborting file index slot) answer asks = refl
asked-goes put (At.GivingUp file ending) answer asks = refl
asked-goes put (At.Ended ending) answer asks = absurd asks

pub asked-strange : (put : Put) (stage : Stage) (reply : ChunkReply) → AsksMeta stage
    → unnamed ≡ goes_on (rest_of_put put stage) (From.Chunk reply)
unfolding rest_of_put ask_grant close_file put_work ask ask_or on_meta goes_on end_with give_back
asked-strange put At.Creating reply asks = refl
asked-strange put (At.Granting at) reply asks = rw (rest_of_grant-asks put at at.grants at.again) refl
asked-strange put (At.Storing at copy) reply asks = absurd asks
asked-strange put (At.Closing file) reply asks = refl
asked-strange put (At.Aborting file index slot) reply asks = refl
asked-strange put (At.GivingUp file ending) reply asks = refl
asked-strange put (At.Ended ending) reply asks = absurd asks

-- a put that has ended stays so
pub ended-goes : (put : Put) (ending : PutEnding) (reply : NodeReply) → rest_of_put put (At.Ended ending) ≡ goes_on (rest_of_put put (At.Ended ending)) reply
unfolding rest_of_put goes_on
ended-goes put ending reply = refl

-- every other stage asks a server to store a slot, or asks the metaserver
pub asks-meta : (stage : Stage) → ((at : PutSlot) (copy : Copy) → stage ≡ At.Storing at copy → ⊥)
    → ((ending : PutEnding) → stage ≡ At.Ended ending → ⊥) → AsksMeta stage
asks-meta At.Creating a b = tt
asks-meta (At.Granting at) a b = tt
asks-meta (At.Storing at copy) a b = absurd (a at copy refl)
asks-meta (At.Closing file) a b = tt
asks-meta (At.Aborting file index slot) a b = tt
asks-meta (At.GivingUp file ending) a b = tt
asks-meta (At.Ended ending) a b = absurd (b ending refl)

-- a put of a dropped actor, or one that was answered what its request doesn't allow, ends at once
pub ended-at_once : (put : Put) (give_up : Report → Work) (ending : Ending)
    → ((turn : ℕ) × (ending ≡ By.Dropped turn)) ⊎ (ending ≡ By.Unnamed)
    → rest_of_put put (At.Ended (With.Common ending)) ≡ ended_by give_up ending
unfolding rest_of_put report_of_put report_of_ending ended_by
ended-at_once put give_up ending at_once = elim at_once [ inl dropped ↦ rw dropped.1 refl | inr unnamed ↦ rw unnamed refl ]
