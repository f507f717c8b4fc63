-- The condition of serving: the servers that a request names are there, its slots are slots, and a file
-- isn't longer than the longest one.
use Rattle.std.specs.Prelude.{ℕ, nat_lt, nat_le, Bool, true, ◌&&◌, Option, Some, None}
use Rattle.std.specs.List.{list_all}
use Rattle.qfs_base.specs.declared.chunk.ChunkKey.{ChunkKey}
use Rattle.qfs_base.specs.declared.request.MetaRequest.{MetaRequest}
use Rattle.qfs_base.specs.declared.request.MetaRequest.TheVariants as Ask
use Rattle.qfs_base.specs.declared.request.SlotId.{SlotId}
use Rattle.qfs_base.specs.Sizes.{SLOTS, MOST_FILE_BYTES}

-- whether a number is that of one of so many servers
unfoldable pub is_server : ℕ → ℕ → Bool
is_server servers number = nat_le 1 number && nat_le number servers

-- whether a number is that of a slot
unfoldable pub is_slot_number : ℕ → Bool
is_slot_number slot = nat_lt slot SLOTS

-- the same of the slot that a request goes on behind, if it names one
unfoldable pub is_slot_behind : Option SlotId → Bool
is_slot_behind None = true
is_slot_behind (Some id) = is_slot_number id.slot

-- whether a request's numbers are in range, with so many servers
unfoldable pub in_range : ℕ → MetaRequest → Bool
in_range servers (Ask.Create path command len) = nat_le len MOST_FILE_BYTES
in_range servers (Ask.Grant file index slot again) = is_slot_number slot
in_range servers (Ask.RecoverAt path index slot) = is_slot_number slot
in_range servers (Ask.HealNext after) = is_slot_behind after
in_range servers (Ask.MoveAt path index slot to) = is_slot_number slot && is_server servers to
in_range servers (Ask.EvacNext server after) = is_server servers server && is_slot_behind after
in_range servers (Ask.Confirm block slot version lease) = is_slot_number slot
in_range servers (Ask.Abandon block slot version lease) = is_slot_number slot
in_range servers (Ask.Hello server life keys) =
    is_server servers server && list_all (λ (key : ChunkKey). is_slot_number key.slot) keys
in_range servers (Ask.Bye server) = is_server servers server
in_range servers (Ask.Leave server) = is_server servers server
in_range servers (Ask.Hibernate server ticks) = is_server servers server
in_range servers (Ask.LeftOn server) = is_server servers server
in_range servers _ = true
