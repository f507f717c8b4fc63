-- When a get can read a block: six of its nine copies are readable when the get opens its file, and no fetch of them fails.
use Rattle.std.specs.Prelude.{ℕ, ◌-◌, ◌+◌, ◌==◌, ◌&&◌, nat_le, not, Bool, false, List, take, drop, count_by, slice_get, Option, Some, None}
use Rattle.std.specs.List.{list_any}
use Rattle.qfs_base.specs.Mask.{all_slots}
use Rattle.qfs_base.specs.Sizes.{DATA_SLOTS}
use Rattle.qfs_base.specs.declared.chunk.BlockId.{BlockId}
use Rattle.qfs_base.specs.declared.chunk.Copy.{Copy}
use Rattle.qfs_base.specs.declared.history.Outcome.TheVariants as Ended
use Rattle.qfs_base.specs.declared.reply.Opened.{Opened}
use Rattle.qfs_base.specs.declared.request.ChunkRequest.{ChunkRequest}
use Rattle.qfs_base.specs.declared.request.ChunkRequest.TheVariants as Serve
use Rattle.qfs_base.specs.declared.request.NodeRequest.{NodeRequest}
use Rattle.qfs_base.specs.declared.request.NodeRequest.TheVariants as To
use Rattle.qfs_model_meta.specs.Servers.{is_listed}
use Rattle.qfs_model_meta.specs.Slots.{same_block, slot_at}
use Rattle.qfs_model_server.specs.Server.{Server}
use Rattle.qfs_model_text.specs.Order.{same_outcome}
use Rattle.qfs_model_world.specs.Events.{Event, steps_of}
use Rattle.qfs_model_world.specs.World.{World, numbered}

-- whether a server is up in this life
unfoldable pub is_up_in : ℕ → Option Server → Bool
is_up_in life None = false
is_up_in life (Some server) = server.up && (server.life == life)

-- whether a copy is readable in a world: it is live, the metaserver sees its server up, and the server itself is up in that life
unfoldable pub is_readable : World → Option Copy → Bool
is_readable world None = false
is_readable world (Some copy) =
    is_listed world.meta.servers copy && is_up_in copy.life (numbered world.servers copy.server)

-- whether a slot is: its current copy
unfoldable pub is_readable_slot : World → BlockId → ℕ → Bool
is_readable_slot world block slot = is_readable world (slot_at world.meta.slots block slot).current

-- whether a request is a Fetch of a slot
unfoldable pub fetches_slot : BlockId → ℕ → ChunkRequest → Bool
fetches_slot block slot (Serve.Fetch key life from room) = same_block key.block block && (key.slot == slot)
fetches_slot block slot request = false

unfoldable pub is_fetch_of : BlockId → ℕ → NodeRequest → Bool
is_fetch_of block slot (To.Meta request) = false
is_fetch_of block slot (To.Chunk server request) = fetches_slot block slot request

-- whether a step is a Fetch of a slot whose device failed
unfoldable pub is_failed_fetch : BlockId → ℕ → Event → Bool
is_failed_fetch block slot event =
    is_fetch_of block slot event.request && same_outcome event.outcome Ended.Failed

-- whether a slot is held in an attempt of a get that begins in this world and takes these steps: it is readable when the
-- file is opened, and no Fetch of it fails
unfoldable pub holds_slot : World → List Event → BlockId → ℕ → Bool
holds_slot world attempt block slot =
    is_readable_slot world block slot && not (list_any (is_failed_fetch block slot) attempt)

-- whether six slots of a block are
unfoldable pub holds_block : World → List Event → BlockId → Bool
holds_block world attempt block = nat_le DATA_SLOTS (count_by (holds_slot world attempt block) all_slots)

-- the steps of a command among those from step i to step j
unfoldable pub steps_within : ℕ → ℕ → ℕ → ℕ → List Event → List Event
steps_within actor command i j steps = steps_of actor command (take (j + 1 - i) (drop i steps))

-- whether a block is held in an attempt of a get, a command of an actor, that opened a file at step i and released it at
-- step j
unfoldable pub held_from : List Event → BlockId → Option Event → Bool
held_from attempt block None = false
held_from attempt block (Some event) = holds_block event.before attempt block

unfoldable pub is_held : List Event → ℕ → ℕ → ℕ → ℕ → Opened → ℕ → Bool
is_held steps actor command i j o index =
    held_from
    (steps_within actor command i j steps)
    (record { file = o.file; index = index })
    (slice_get steps i)
