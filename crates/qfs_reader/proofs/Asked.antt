-- What a get asks, and which node.
use Rattle.std.proofs.Common.{◌≡◌, refl, ℕ, ◌*◌, Some, None, replicate}
use Rattle.std.specs.Option.{option_map}
use Rattle.qfs_base.specs.declared.command.Excerpt.{Excerpt}
use Rattle.qfs_base.specs.declared.command.Reply.{Reply}
use Rattle.qfs_base.specs.declared.reply.ChunkReply.{ChunkReply}
use Rattle.qfs_base.specs.declared.reply.MetaReply.{MetaReply}
use Rattle.qfs_base.specs.declared.reply.NodeReply.TheVariants as From
use Rattle.qfs_base.specs.declared.request.ChunkRequest.TheVariants as Serve
use Rattle.qfs_base.specs.declared.request.NodeRequest.TheVariants as To
use Rattle.qfs_model_actor.specs.Ask.{ask, key_of, on_chunk, fetch}
use Rattle.qfs_model_actor.specs.Get.{attempt, was_opened}
use Rattle.qfs_model_actor.specs.Hold.{nothing, opened, unnamed, ask_or, on_answer, on_meta, was_released, end_with, give_back}
use Rattle.qfs_model_actor.specs.Work.{Work, ends, goes_on, node_of_request, request_in}
use Rattle.qfs_machine.specs.Asking.{node_asked}
use Rattle.qfs_reader.specs.Rest.{rest_of_get, rest_of_position, window_bytes}
use Rattle.qfs_reader.specs.ReaderState.{IsGetStage, IsAtSlot, IsEnd}
use Rattle.qfs_reader.specs.declared.stage.Attempt.{Attempt}
use Rattle.qfs_reader.specs.declared.stage.Get.{Get}
use Rattle.qfs_reader.specs.declared.stage.GetEnding.{GetEnding}
use Rattle.qfs_reader.specs.declared.stage.Position.{Position}
use Rattle.qfs_reader.specs.declared.stage.Stage.{Stage}
use Rattle.qfs_reader.specs.declared.stage.Stage.TheVariants as At
use Rattle.qfs_reader.proofs.Fetches.{position-fetch}

pub position-asks : (get : Get) (attempt : Attempt) (position : Position) → IsAtSlot position
    → request_in (rest_of_position get attempt position)
    ≡ Some (To.Chunk position.copy.server
    (Serve.Fetch (key_of (record { file = attempt.opened.file; index = position.block }) position.slot position.copy.version) position.copy.life (position.window.first_row * get.layout.s) (replicate (window_bytes get.layout position.window) 0)))
unfolding fetch request_in
position-asks get attempt position readable = rw (position-fetch get attempt position readable) refl

pub position-node : (get : Get) (attempt : Attempt) (position : Position) → IsAtSlot position
    → Some position.copy.server ≡ node_asked (rest_of_position get attempt position)
unfolding node_of_request
position-node get attempt position readable = rw (position-asks get attempt position readable) refl

pub position-meta : (get : Get) (attempt : Attempt) (position : Position) (answer : MetaReply) → IsAtSlot position
    → unnamed ≡ goes_on (rest_of_position get attempt position) (From.Meta answer)
unfolding fetch goes_on on_chunk
position-meta get attempt position answer readable = rw (position-fetch get attempt position readable) refl

-- a chunk server's answer is none to any other request
pub other-chunk : (get : Get) (stage : Stage) (reply : ChunkReply) → ((attempt : Attempt) (position : Position) → stage ≡ At.Reading attempt position → ⊥)
    → ((ending : GetEnding) (kept : Reply Excerpt) → stage ≡ At.Ended ending kept → ⊥)
    → unnamed ≡ goes_on (rest_of_get get stage) (From.Chunk reply)
unfolding rest_of_get attempt ask ask_or end_with give_back goes_on on_meta
other-chunk get (At.Opening more) reply a b = refl
other-chunk get (At.Reading attempt position) reply a b = absurd (a attempt position refl)
other-chunk get (At.Releasing lease ending kept) reply a b = refl
other-chunk get (At.Retrying lease more) reply a b = refl
other-chunk get (At.Ended ending kept) reply a b = absurd (b ending kept refl)

-- a get that asks nothing has ended
pub ended-if_none : (get : Get) (stage : Stage) → IsGetStage get stage → request_in (rest_of_get get stage) ≡ None → IsEnd stage
unfolding rest_of_get attempt ask ask_or end_with give_back request_in
ended-if_none get (At.Opening more) at none = cc
ended-if_none get (At.Reading attempt position) at none = let asks = rw (position-asks get attempt position at.readable) at none in cc
ended-if_none get (At.Releasing lease ending kept) at none = cc
ended-if_none get (At.Retrying lease more) at none = cc
ended-if_none get (At.Ended ending kept) at none = tt
