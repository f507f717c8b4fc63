-- What stands on the devices at the end of a run.
use Rattle.std.specs.Prelude.{◌≡◌, ℕ, ◌+◌, ◌==◌, ◌&&◌, ◌||◌, not, Bool, true, false, List, length, drop, slice_get, Option, Some, None, IsTrue}
use Rattle.std.specs.List.{list_any}
use Rattle.qfs_base.specs.Key.{key_cmp}
use Rattle.qfs_base.specs.KeyMap.{value_at}
use Rattle.qfs_base.specs.declared.chunk.ChunkKey.{ChunkKey}
use Rattle.qfs_base.specs.declared.history.Outcome.TheVariants as Ended
use Rattle.qfs_base.specs.declared.reply.ChunkAnswer.{ChunkAnswer}
use Rattle.qfs_base.specs.declared.reply.ChunkAnswer.TheVariants as Did
use Rattle.qfs_base.specs.declared.reply.NodeReply.{NodeReply}
use Rattle.qfs_base.specs.declared.reply.NodeReply.TheVariants as From
use Rattle.qfs_base.specs.declared.request.ChunkRequest.{ChunkRequest}
use Rattle.qfs_base.specs.declared.request.ChunkRequest.TheVariants as Serve
use Rattle.qfs_base.specs.declared.request.NodeRequest.{NodeRequest}
use Rattle.qfs_base.specs.declared.request.NodeRequest.TheVariants as To
use Rattle.qfs_device.specs.Held.{Held, chunk_at, IsProperPrefix}
use Rattle.qfs_record.specs.ChunkRecord.{chunk_record}
use Rattle.qfs_model_server.specs.Server.{Server, written}
use Rattle.qfs_model_store.specs.Stands.{StandsFor, HandsOut}
use Rattle.qfs_model_text.specs.Order.{same_outcome}
use Rattle.qfs_model_world.specs.Events.{Event}
use Rattle.qfs_model_world.specs.World.{numbered}

-- ---- what failed puts leave

-- whether a request puts a copy, or starts a server
unfoldable pub is_put : ChunkRequest → Bool
is_put (Serve.Put key life bytes) = true
is_put request = false

unfoldable pub is_start : ChunkRequest → Bool
is_start Serve.Start = true
is_start request = false

unfoldable pub is_put_or_start : ChunkRequest → Bool
is_put_or_start request = is_put request || is_start request

-- whether a request to a server passes the test
unfoldable pub asks_server : (ChunkRequest → Bool) → ℕ → NodeRequest → Bool
asks_server test number (To.Chunk server request) = (server == number) && test request
asks_server test number (To.Meta request) = false

-- whether a Put or a Start failed at a server in these steps
unfoldable pub is_failed : Event → Bool
is_failed event = same_outcome event.outcome Ended.Failed

unfoldable pub has_failed : (ChunkRequest → Bool) → ℕ → List Event → Bool
has_failed test number steps =
    list_any (λ (event : Event). asks_server test number event.request && is_failed event) steps

-- whether a server was emptied in a step
unfoldable pub is_wiped : ChunkAnswer → Bool
is_wiped (Did.Wiped life) = true
is_wiped answer = false

unfoldable pub wiped_at : ℕ → NodeReply → NodeRequest → Bool
wiped_at number (From.Chunk reply) (To.Chunk server request) = (server == number) && is_wiped reply.answer
wiped_at number (From.Chunk reply) (To.Meta request) = false
wiped_at number (From.Meta reply) request = false

-- a key that holds these bytes was left so by step i: a Put of that key that failed, after which the server wasn't
-- emptied. It holds a front of the record in the form that the server wrote at that step
pub record IsLeftBy (stripe : ℕ) (steps : List Event) (number : ℕ) (key : ChunkKey) (found : List ℕ) : Type 0 where
  pub i : ℕ
  pub event : Event
  pub life : ℕ
  pub bytes : List ℕ
  pub server : Server
  pub at : slice_get steps i ≡ Some event
  pub put : event.request ≡ To.Chunk number (Serve.Put key life bytes)
  pub by : numbered event.before.servers number ≡ Some server
  pub failed : event.outcome ≡ Ended.Failed
  pub not_wiped : IsTrue (not (list_any (λ (e : Event). wiped_at number e.reply e.request) (drop (i + 1) steps)))
  pub part : IsProperPrefix found (chunk_record stripe key (written server bytes))

-- every key of no copy is one that a failed Put left
abbrev pub HoldsNoOther : ℕ → List Event → ℕ → Held → Server → Type 0
HoldsNoOther stripe steps number held server =
    (key : ChunkKey) (found : List ℕ)
    → value_at key_cmp server.copies key ≡ None → chunk_at held key ≡ Some found
    → IsLeftBy stripe steps number key found

-- ---- bytes handed out

-- a device handed out what its server did, or at least that where a Put or a Start failed: a start reads what a failed
-- Put left too, and one that fails may have read
abbrev pub HandedOut : List Event → ℕ → Held → Server → Type 0
HandedOut steps number held server =
    HandsOut (has_failed is_put_or_start number steps) held.handed_out server.handed_out

-- ---- all devices

-- a device tells that it holds what its server has, what failed Puts left, and nothing else
pub record IsServerDevice (stripe : ℕ) (steps : List Event) (number : ℕ) (told : Option Held) (server : Server) : Type 0 where
  pub held : Held
  pub tells : told ≡ Some held
  pub stands : StandsFor stripe held server
  pub others : HoldsNoOther stripe steps number held server
  pub handed_out : HandedOut steps number held server

module _ {D : Type 0} where
  -- device s, from 1, stands for server s as these steps left it; a device above the servers is as it came
  abbrev pub IsDeviceOf : ℕ → (D → Option Held) → List Event → ℕ → D → D → Option Server → Type 0
  IsDeviceOf stripe told steps number came left (Some server) = IsServerDevice stripe steps number (told left) server
  IsDeviceOf stripe told steps number came left None = left ≡ came

  -- the devices that came are left standing for the servers that these steps led to, under a layout of this stripe
  pub record DevicesStand (stripe : ℕ) (told : D → Option Held) (steps : List Event) (servers : List Server) (came left : List D) : Type 0 where
    pub as_many : length left ≡ length came
    pub each : (number : ℕ) (before behind : D)
        → numbered came number ≡ Some before → numbered left number ≡ Some behind
        → IsDeviceOf stripe told steps number before behind (numbered servers number)
