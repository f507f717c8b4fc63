-- A command asks a node.
use Rattle.std.specs.Prelude.{ℕ, ◌==◌, Bool, true, false, List, length, replicate}
use Rattle.qfs_base.specs.declared.chunk.BlockId.{BlockId}
use Rattle.qfs_base.specs.declared.chunk.ChunkKey.{ChunkKey}
use Rattle.qfs_base.specs.declared.chunk.Copy.{Copy}
use Rattle.qfs_base.specs.declared.command.Reply.TheVariants as Report
use Rattle.qfs_base.specs.declared.lists.Cause.{Cause}
use Rattle.qfs_base.specs.declared.lists.Cause.TheVariants as Because
use Rattle.qfs_base.specs.declared.reply.ChunkAnswer.{ChunkAnswer}
use Rattle.qfs_base.specs.declared.reply.ChunkAnswer.TheVariants as Did
use Rattle.qfs_base.specs.declared.reply.MetaReply.{MetaReply}
use Rattle.qfs_base.specs.declared.reply.NodeReply.{NodeReply}
use Rattle.qfs_base.specs.declared.reply.NodeReply.TheVariants as From
use Rattle.qfs_base.specs.declared.request.ChunkRequest.{ChunkRequest}
use Rattle.qfs_base.specs.declared.request.ChunkRequest.TheVariants as Serve
use Rattle.qfs_base.specs.declared.request.MetaRequest.{MetaRequest}
use Rattle.qfs_base.specs.declared.request.NodeRequest.TheVariants as To
use Rattle.qfs_model_actor.specs.Work.{Work, asks}
use Rattle.qfs_model_actor.specs.Hold.{Hold, unnamed, ask_or, end_with}

-- asks the metaserver
unfoldable pub ask : Hold → MetaRequest → (MetaReply → Work) → Work
ask hold request next = ask_or (end_with hold) request next

-- what becomes of a chunk server's answer: want of memory ends every command
unfoldable pub on_served : Hold → (ChunkAnswer → Work) → ChunkAnswer → Work
on_served hold next Did.NoMemory = end_with hold Report.NoMemory
on_served hold next answer = next answer

-- the same of any node's answer to a request to a chunk server; what comes next may look at the room too
unfoldable pub on_chunk : Hold → (List ℕ → ChunkAnswer → Work) → NodeReply → Work
on_chunk hold next (From.Meta answer) = unnamed
on_chunk hold next (From.Chunk reply) = on_served hold (next reply.room) reply.answer

-- asks a chunk server
unfoldable pub ask_server : Hold → ℕ → ChunkRequest → (ChunkAnswer → Work) → Work
ask_server hold server request next = asks (To.Chunk server request) (on_chunk hold (λ room. next))

-- the key that a copy of a slot is stored under
abbrev pub key_of : BlockId → ℕ → ℕ → ChunkKey
key_of block slot version = record { block = block; slot = slot; version = version }

-- a copy was stored, or it failed for a cause
unfoldable pub after_store : Work → (Cause → Work) → ChunkAnswer → Work
after_store stored failed Did.Stored = stored
after_store stored failed Did.Down = failed Because.Down
after_store stored failed (Did.Lost asked now) = failed (Because.Lost asked now)
after_store stored failed Did.Fault = failed Because.Fault
after_store stored failed answer = unnamed

-- a room of the asked length was filled, and no other counts
unfoldable pub filled : (List ℕ → Work) → List ℕ → Bool → Work
filled fetched room true = fetched room
filled fetched room false = unnamed

-- bytes of a copy were fetched, or it failed for a cause
unfoldable pub after_fetch : ℕ → (List ℕ → Work) → (Cause → Work) → List ℕ → ChunkAnswer → Work
after_fetch len fetched failed room Did.Fetched = filled fetched room (length room == len)
after_fetch len fetched failed room Did.Down = failed Because.Down
after_fetch len fetched failed room (Did.Lost asked now) = failed (Because.Lost asked now)
after_fetch len fetched failed room Did.Absent = failed Because.Absent
after_fetch len fetched failed room Did.Fault = failed Because.Fault
after_fetch len fetched failed room answer = unnamed

-- asks the server of a copy of this slot for len bytes of it from `from` on; the room for them is sent as zeros
unfoldable pub fetch : Hold → BlockId → ℕ → ℕ → ℕ → (List ℕ → Work) → (Cause → Work) → Copy → Work
fetch hold block slot from len fetched failed copy =
    asks (To.Chunk copy.server (Serve.Fetch (key_of block slot copy.version) copy.life from (replicate len 0)))
    (on_chunk hold (after_fetch len fetched failed))
