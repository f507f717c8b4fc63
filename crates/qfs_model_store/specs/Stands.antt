-- When a device stands for a chunk server, and what the two have handed out.
use Rattle.std.specs.Prelude.{ℕ, ◌≡◌, ◌≤◌, min, Bool, true, false, List, Option, Some, None}
use Rattle.qfs_base.specs.Key.{key_cmp}
use Rattle.qfs_base.specs.KeyMap.{value_at}
use Rattle.qfs_base.specs.Sizes.{LAST_U64}
use Rattle.qfs_base.specs.declared.chunk.ChunkKey.{ChunkKey}
use Rattle.qfs_device.specs.Held.{Held, chunk_at}
use Rattle.qfs_record.specs.ChunkRecord.{IsHead, head_of, chunk_record}
use Rattle.qfs_model_server.specs.Chunk.{Chunk}
use Rattle.qfs_model_server.specs.Server.{Server}

-- ---- chunks

-- what is found is, whole, the record of this chunk, which names this key, and this stripe where its form names one. A
-- device has nothing but bytes, so the grammar is that of the head
pub record IsRecordOf (stripe : ℕ) (key : ChunkKey) (found : Option (List ℕ)) (chunk : Chunk) : Type 0 where
  pub fits : IsHead (head_of stripe key chunk)
  pub spelled : found ≡ Some (chunk_record stripe key chunk)

-- under the key of a copy stands the record of that copy, in its form; under the key of no copy stands, whole, no record
-- that names the key
abbrev pub HoldsUnder : ℕ → ChunkKey → Option (List ℕ) → Option Chunk → Type 0
HoldsUnder stripe key found (Some copy) = IsRecordOf stripe key found copy
HoldsUnder stripe key found None = (chunk : Chunk) → IsRecordOf stripe key found chunk → ⊥

-- a device that holds this stands for a server whose layout has this stripe
pub record StandsFor (stripe : ℕ) (held : Held) (server : Server) : Type 0 where
  pub life : held.life ≡ server.life
  pub keys : (key : ChunkKey) → HoldsUnder stripe key (chunk_at held key) (value_at key_cmp server.copies key)

-- ---- bytes handed out

-- a count as 64 bits keep it: it stays at its last value
abbrev pub kept : ℕ → ℕ
kept count = min count LAST_U64

-- a device handed out as much as its server; or at least as much, where it may have read more
abbrev pub HandsOut : (reads_more : Bool) → (device server : ℕ) → Type 0
HandsOut false device server = kept device ≡ kept server
HandsOut true device server = kept server ≤ kept device
