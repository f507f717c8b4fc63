-- Deletions, and the chunks that they must not name.
use Rattle.std.specs.Prelude.{◌≡◌, ◌≢◌, ℕ, ◌≤◌, List, length, take, slice_get, Option, Some, None}
use Rattle.qfs_base.specs.declared.chunk.ChunkKey.{ChunkKey}
use Rattle.qfs_base.specs.declared.chunk.Copy.{Copy}
use Rattle.qfs_base.specs.declared.history.Step.{Step}
use Rattle.qfs_base.specs.declared.reply.ChunkAnswer.{ChunkAnswer}
use Rattle.qfs_base.specs.declared.reply.ChunkAnswer.TheVariants as Did
use Rattle.qfs_base.specs.declared.reply.MetaReply.{MetaReply}
use Rattle.qfs_base.specs.declared.reply.MetaReply.TheVariants as Told
use Rattle.qfs_base.specs.declared.reply.NodeReply.{NodeReply}
use Rattle.qfs_base.specs.declared.reply.NodeReply.TheVariants as From
use Rattle.qfs_base.specs.declared.request.ChunkRequest.{ChunkRequest}
use Rattle.qfs_base.specs.declared.request.ChunkRequest.TheVariants as Serve
use Rattle.qfs_base.specs.declared.request.NodeRequest.{NodeRequest}
use Rattle.qfs_base.specs.declared.request.NodeRequest.TheVariants as To
use Rattle.qfs_base.specs.declared.script.Script.{Script}
use Rattle.qfs_model_meta.specs.Past.{SlotCopy}
use Rattle.qfs_model_meta.specs.Slots.{slot_at}
use Rattle.qfs_model_world.specs.Events.{Event, events}
use Rattle.qfs_model_world.specs.World.{World, after}

-- the copy that the metaserver orders deleted
unfoldable pub ordered_copy : MetaReply → Option SlotCopy
ordered_copy (Told.Ordered c turn) = Some (record { block = c.block; slot = c.slot; copy = c.copy })
ordered_copy reply = None

-- the copy that a server erased
unfoldable pub erased_if : ℕ → ℕ → ChunkKey → ChunkAnswer → Option SlotCopy
erased_if server life key Did.Erased = Some (record {
  block = key.block;
  slot = key.slot;
  copy = record { server = server; life = life; version = key.version };
})
erased_if server life key answer = None

unfoldable pub erased_copy : ℕ → ChunkAnswer → ChunkRequest → Option SlotCopy
erased_copy server answer (Serve.Erase key life) = erased_if server life key answer
erased_copy server answer request = None

-- the copy that a node's reply names as deleted, or as ordered so
unfoldable pub erased_at : ChunkAnswer → NodeRequest → Option SlotCopy
erased_at answer (To.Meta request) = None
erased_at answer (To.Chunk server request) = erased_copy server answer request

unfoldable pub deleted_by : NodeRequest → NodeReply → Option SlotCopy
deleted_by request (From.Meta reply) = ordered_copy reply
deleted_by request (From.Chunk reply) = erased_at reply.answer request

-- the copy that a step deletes or orders deleted, if it does
unfoldable pub deleted_in : Event → Option SlotCopy
deleted_in event = deleted_by event.request event.reply

-- the current copy of a slot in a world
unfoldable pub current_of : World → SlotCopy → Option Copy
current_of world of_slot = (slot_at world.meta.slots of_slot.block of_slot.slot).current

-- no deletion names the current copy of its slot, at that step or at any later one
abbrev pub NoDeletion : Script → List Step → Type 0
NoDeletion script order =
    (i n : ℕ) (event : Event) (c : SlotCopy)
    → slice_get (events script order) i ≡ Some event
    → deleted_in event ≡ Some c
    → i ≤ n → n ≤ length order
    → current_of (after script (take n order)) c ≢ Some c.copy
