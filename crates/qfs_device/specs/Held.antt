-- What a device holds, and what its calls do to that.
use Rattle.std.specs.Prelude.{ℕ, ◌≡◌, ◌+◌, ◌<◌, ◌≤◌, min, IsTrue, List, [], length, take, map, Option, Some, None, Result, Ok, Err, unwrap_or, ⊤}
use Rattle.std.specs.Option.{option_map}
use Rattle.qfs_base.specs.Key.{key_cmp}
use Rattle.qfs_base.specs.KeyMap.{value_at, has_key, with_entry, without_key}
use Rattle.qfs_base.specs.Sizes.{LAST_U64}
use Rattle.qfs_base.specs.declared.chunk.ChunkKey.{ChunkKey}
use Rattle.qfs_model_server.specs.Server.{next_life}
use Rattle.qfs_device.specs.declared.chunk_device.KeySize.{KeySize}
use Rattle.qfs_device.specs.declared.errors.DeviceError.{DeviceError}
use Rattle.qfs_device.specs.declared.errors.DeviceError.TheVariants.{Failed, NoMemory}

-- chunks, each under its key, by key
abbrev pub Contents : Type 0
Contents = List (ChunkKey × List ℕ)

-- what a device holds: chunks, its life, and how many bytes its reads have handed out
pub record Held : Type 0 where
  pub contents : Contents
  pub life : ℕ
  pub handed_out : ℕ

-- a new device
abbrev pub new_device : Held
new_device = record { contents = []; life = 1; handed_out = 0 }

-- ---- what stands under a key

-- the bytes under a key, or None where the key isn't there
abbrev pub chunk_at : Held → ChunkKey → Option (List ℕ)
chunk_at held key = value_at key_cmp held.contents key

-- the bytes under a key, or none where the key isn't there
abbrev pub bytes_at : Held → ChunkKey → List ℕ
bytes_at held key = unwrap_or (chunk_at held key) []

-- the key is there, and so many bytes from this offset on lie in its bytes
pub record LiesIn (held : Held) (key : ChunkKey) (at count : ℕ) : Type 0 where
  pub there : IsTrue (has_key key_cmp held.contents key)
  pub inside : at + count ≤ length (bytes_at held key)

-- ---- what calls leave

-- these bytes under this key; every other key has what it had
abbrev pub holding : ChunkKey → List ℕ → Held → Held
holding key bytes held = record held { contents = with_entry key_cmp held.contents key bytes }

-- nothing under this key; every other key has what it had
abbrev pub lacking : ChunkKey → Held → Held
lacking key held = record held { contents = without_key key_cmp held.contents key }

-- so many more bytes handed out; a count in 64 bits stays at its last value
abbrev pub handing : ℕ → Held → Held
handing count held = record held { handed_out = min (held.handed_out + count) LAST_U64 }

-- no chunks, in the next life
abbrev pub emptied : Held → Held
emptied held = record held { contents = []; life = next_life held.life }

-- a first part of the bytes, and not all of them
abbrev pub IsProperPrefix : List ℕ → List ℕ → Type 0
IsProperPrefix part bytes = (count : ℕ) × (count < length bytes) × (part ≡ take count bytes)

-- what a torn write may leave under its key: nothing, or a proper prefix
abbrev pub IsTorn : List ℕ → Option (List ℕ) → Type 0
IsTorn bytes None = ⊤
IsTorn bytes (Some part) = IsProperPrefix part bytes

-- this or nothing under the key
abbrev pub leaving : ChunkKey → Option (List ℕ) → Held → Held
leaving key None held = lacking key held
leaving key (Some part) held = holding key part held

-- each key with the length of its bytes
abbrev pub sizes_of : Contents → List KeySize
sizes_of contents = map (λ chunk. record { key = chunk.0; size = length chunk.1 }) contents

-- ---- calls, by their answers

-- a write puts its bytes under its key. One that fails leaves that key torn; one without memory changes nothing.
abbrev pub Writes : {T : Type 0} → ChunkKey → List ℕ → Option Held → Option Held → Result T DeviceError → Type 0
Writes key bytes old new (Ok done) = new ≡ option_map (holding key bytes) old
Writes key bytes old new (Err Failed) = (left : Option (List ℕ)) × IsTorn bytes left × (new ≡ option_map (leaving key left) old)
Writes key bytes old new (Err NoMemory) = new ≡ old

-- a call that does this where it succeeds, and changes nothing else
abbrev pub Does : {T : Type 0} → (Held → Held) → Option Held → Option Held → Result T DeviceError → Type 0
Does change old new (Ok value) = new ≡ option_map change old
Does change old new (Err error) = new ≡ old
