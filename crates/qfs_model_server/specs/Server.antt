-- A chunk server and its step.
use Rattle.std.specs.Prelude.{ℕ, ◌+◌, ◌==◌, ◌&&◌, nat_le, min, Bool, true, false, if◌then◌else◌, not, List, [], length, take, drop, map, sum_by, replicate, Option, Some, None}
use Rattle.qfs_base.specs.KeyMap.{value_at, has_key, with_entry, without_key}
use Rattle.qfs_base.specs.Key.{key_cmp}
use Rattle.qfs_base.specs.Sizes.{LAST_U32}
use Rattle.qfs_base.specs.declared.chunk.ChunkKey.{ChunkKey}
use Rattle.qfs_base.specs.declared.history.Outcome.{Outcome}
use Rattle.qfs_base.specs.declared.history.Outcome.TheVariants as Ended
use Rattle.qfs_base.specs.declared.reply.ChunkAnswer.{ChunkAnswer}
use Rattle.qfs_base.specs.declared.reply.ChunkAnswer.TheVariants as Answer
use Rattle.qfs_base.specs.declared.reply.ChunkReply.{ChunkReply}
use Rattle.qfs_base.specs.declared.request.ChunkRequest.{ChunkRequest}
use Rattle.qfs_base.specs.declared.request.ChunkRequest.TheVariants as Ask
use Rattle.qfs_model_server.specs.Chunk.{Chunk, head_bytes}

-- the copies on a server, by key
abbrev pub Copies : Type 0
Copies = List (ChunkKey × Chunk)

-- a chunk server: whether it is up, its life, the form in which it writes chunk records, its copies, and how many
-- bytes it has handed out
pub record Server : Type 0 where
  pub up : Bool
  pub life : ℕ
  pub form : ℕ
  pub copies : Copies
  pub handed_out : ℕ

-- a server as every run begins
abbrev pub fresh_server : Server
fresh_server = record { up = true; life = 1; form = 1; copies = []; handed_out = 0 }

-- a server after a step, and what it answered
pub record Answered : Type 0 where
  pub server : Server
  pub reply : ChunkReply

-- the life after a wipe: the next one, or the last that a life can be
abbrev pub next_life : ℕ → ℕ
next_life life = min (life + 1) LAST_U32

-- the bytes of a copy, if there is one
abbrev pub bytes_in : Option Chunk → List ℕ
bytes_in None = []
bytes_in (Some copy) = copy.bytes

-- the bytes of a copy, or none where there is no such copy
abbrev pub copy_bytes : Copies → ChunkKey → List ℕ
copy_bytes copies key = bytes_in (value_at key_cmp copies key)

-- whether so many bytes from this offset on lie in a copy that is there
unfoldable pub has_range : Copies → ChunkKey → ℕ → ℕ → Bool
has_range copies key from count =
    has_key key_cmp copies key && nat_le (from + count) (length (copy_bytes copies key))

-- the answer where the test holds, or else the other
abbrev pub refuse : Bool → ChunkAnswer → Option ChunkAnswer → Option ChunkAnswer
refuse test answer other = if test then Some answer else other

-- a server that isn't up, or has another life than the one that was asked for, refuses; then the rest decides
unfoldable pub unless_away : Server → ℕ → Option ChunkAnswer → Option ChunkAnswer
unless_away server life other =
    refuse (not server.up) Answer.Down
    (refuse (not (life == server.life)) (Answer.Lost life server.life) other)

-- the refusal that is due, if one is
unfoldable pub chunk_refusal : Server → ChunkRequest → Option ChunkAnswer
chunk_refusal server (Ask.Put key life bytes) =
    unless_away server life (refuse (has_key key_cmp server.copies key) Answer.Held None)
chunk_refusal server (Ask.Fetch key life from room) =
    unless_away server life (refuse (not (has_range server.copies key from (length room))) Answer.Absent None)
chunk_refusal server (Ask.Erase key life) =
    unless_away server life (refuse (not (has_key key_cmp server.copies key)) Answer.Absent None)
chunk_refusal server Ask.Stop = None
chunk_refusal server Ask.Start = None
chunk_refusal server Ask.Wipe = None
chunk_refusal server Ask.Inventory = refuse (not server.up) Answer.Down None
chunk_refusal server Ask.Upgrade = refuse (not server.up) Answer.Down None

-- the room that a request hands over, which comes back with the answer
unfoldable pub room_of : ChunkRequest → List ℕ
room_of (Ask.Put key life bytes) = []
room_of (Ask.Fetch key life from room) = room
room_of (Ask.Erase key life) = []
room_of Ask.Stop = []
room_of Ask.Start = []
room_of Ask.Wipe = []
room_of Ask.Inventory = []
room_of Ask.Upgrade = []

-- an answer with an empty room
abbrev pub without_room : ChunkAnswer → ChunkReply
without_room answer = record { answer = answer; room = [] }

-- the bytes that a start reads on a stopped server: the head of each copy's record
unfoldable pub start_reads : Server → ℕ
start_reads server =
    if server.up then 0 else sum_by (λ (copy : ChunkKey × Chunk). head_bytes copy.1.form) server.copies

-- a copy as a server writes it
abbrev pub written : Server → List ℕ → Chunk
written server bytes = record { form = server.form; bytes = bytes }

-- what a request that succeeds does
unfoldable pub chunk_served : Server → ChunkRequest → Answered
chunk_served server (Ask.Put key life bytes) = record {
  server = record server { copies = with_entry key_cmp server.copies key (written server bytes) };
  reply = without_room Answer.Stored;
}
chunk_served server (Ask.Fetch key life from room) = record {
  server = record server { handed_out = server.handed_out + length room };
  reply = record { answer = Answer.Fetched; room = take (length room) (drop from (copy_bytes server.copies key)) };
}
chunk_served server (Ask.Erase key life) = record {
  server = record server { copies = without_key key_cmp server.copies key };
  reply = without_room Answer.Erased;
}
chunk_served server Ask.Stop = record {
  server = record server { up = false };
  reply = without_room Answer.Stopped;
}
chunk_served server Ask.Start = record {
  server = record server { up = true; handed_out = server.handed_out + start_reads server };
  reply = without_room (Answer.Started server.life);
}
chunk_served server Ask.Wipe = record {
  server = record server { life = next_life server.life; copies = [] };
  reply = without_room (Answer.Wiped (next_life server.life));
}
chunk_served server Ask.Inventory = record {
  server = server;
  reply = without_room (Answer.Inventory server.life (map (λ copy. copy.0) server.copies));
}
chunk_served server Ask.Upgrade = record {
  server = record server { form = 2 };
  reply = without_room Answer.Upgraded;
}

-- a server that stays as it was, with this answer and this room
abbrev pub stays : Server → ChunkAnswer → List ℕ → Answered
stays server answer room = record { server = server; reply = record { answer = answer; room = room } }

-- what becomes of a request that isn't refused, by how it comes out. After a fault the room is zeros.
unfoldable pub chunk_attempted : Server → ChunkRequest → Outcome → Answered
chunk_attempted server request Ended.Done = chunk_served server request
chunk_attempted server request Ended.Failed = stays server Answer.Fault (replicate (length (room_of request)) 0)
chunk_attempted server request Ended.NoMemory = stays server Answer.NoMemory (room_of request)

-- a refusal leaves the server as it was
unfoldable pub chunk_decided : Server → ChunkRequest → Outcome → Option ChunkAnswer → Answered
chunk_decided server request outcome None = chunk_attempted server request outcome
chunk_decided server request outcome (Some answer) = stays server answer (room_of request)

-- a server's step
unfoldable pub server_step : ChunkRequest → Outcome → Server → Answered
server_step request outcome server = chunk_decided server request outcome (chunk_refusal server request)
