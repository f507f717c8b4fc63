-- Every block of a closed file has nine copies. Those that are live stand on different servers, and each that is of its
-- server's present life is stored there with the right bytes.
use Rattle.std.specs.Prelude.{◌≡◌, ℕ, nat_eq, List, map, filter, filter_map, Option, Some, IfSome, is_some, IsTrue}
use Rattle.std.specs.List.{IsDistinct}
use Rattle.std.specs.Option.{option_map}
use Rattle.qfs_base.specs.Key.{key_cmp}
use Rattle.qfs_base.specs.KeyMap.{value_at}
use Rattle.qfs_base.specs.Mask.{all_slots}
use Rattle.qfs_base.specs.Table.{Each}
use Rattle.qfs_base.specs.declared.chunk.BlockId.{BlockId}
use Rattle.qfs_base.specs.declared.chunk.Copy.{Copy}
use Rattle.qfs_base.specs.declared.history.Step.{Step}
use Rattle.qfs_base.specs.declared.script.Script.{Script}
use Rattle.qfs_model_meta.specs.Servers.{is_live}
use Rattle.qfs_model_meta.specs.Slots.{slot_at}
use Rattle.qfs_model_server.specs.Chunk.{Chunk}
use Rattle.qfs_model_server.specs.Server.{Server}
use Rattle.qfs_model_world.specs.Audit.{key_at, standing_blocks}
use Rattle.qfs_model_world.specs.Events.{events}
use Rattle.qfs_model_world.specs.Made.{made, right_bytes}
use Rattle.qfs_model_world.specs.World.{World, numbered, after}

-- the current copy of a slot
abbrev pub current_at : World → BlockId → ℕ → Option Copy
current_at world block slot = (slot_at world.meta.slots block slot).current

-- the current copies of a block that are live
unfoldable pub live_copies : World → BlockId → List Copy
live_copies world block = filter (is_live world.meta.servers) (filter_map (current_at world block) all_slots)

-- a copy is on its server with these bytes
abbrev pub HoldsBytes : Server → BlockId → ℕ → Copy → List ℕ → Type 0
HoldsBytes server block slot copy bytes =
    option_map (λ (chunk : Chunk). chunk.bytes) (value_at key_cmp server.copies (key_at block slot copy)) ≡ Some bytes

-- a copy of a slot that is of its server's present life is there with the right bytes
abbrev pub IsStoredRight : World → (ℕ → List ℕ) → BlockId → ℕ → Copy → Type 0
IsStoredRight world bytes block slot copy =
    (server : Server) → numbered world.servers copy.server ≡ Some server → server.life ≡ copy.life
    → HoldsBytes server block slot copy (right_bytes world.rules.layout bytes (key_at block slot copy))

-- a block has nine current copies, the live ones on different servers, and none is wanting that its server still may have
pub record IsRedundant (world : World) (bytes : ℕ → List ℕ) (block : BlockId) : Type 0 where
  pub nine : Each (λ slot. IsTrue (is_some (current_at world block slot))) all_slots
  pub apart : IsDistinct nat_eq (map (λ (copy : Copy). copy.server) (live_copies world block))
  pub stored : Each (λ slot. IfSome (current_at world block slot) (IsStoredRight world bytes block slot)) all_slots

-- so is every block of a closed file of a run
abbrev pub BlocksAreRedundant : Script → List Step → Type 0
BlocksAreRedundant script order =
    Each (IsRedundant (after script order) (made script (events script order))) (standing_blocks (after script order))
