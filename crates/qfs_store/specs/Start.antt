-- What a start finds on a device: the keys under which a chunk record stands that names the key.
use Rattle.std.specs.Prelude.{ℕ, ◌≡◌, ◌+◌, ◌==◌, ◌&&◌, ◌||◌, nat_le, Bool, if◌then◌else◌, List, length, take, sum_by, filter_map, IsTrue, Option, Some, None, Result, Ok, Err}
use Rattle.std.specs.List.{fold, AllByRecursion}
use Rattle.std.specs.List.Sorted.{IsStrictlySortedBy}
use Rattle.std.specs.Map.{keys_of}
use Rattle.std.specs.Option.{option_map}
use Rattle.std.specs.Ordering.{is_eq}
use Rattle.qfs_base.specs.Key.{key_cmp}
use Rattle.qfs_base.specs.Sizes.{FIRST_HEAD_BYTES, SECOND_HEAD_BYTES}
use Rattle.qfs_base.specs.declared.chunk.ChunkKey.{ChunkKey}
use Rattle.qfs_base.specs.KeyMap.{has_key, with_entry, without_key}
use Rattle.qfs_device.specs.Held.{Held, Contents, bytes_at}
use Rattle.qfs_device.specs.declared.chunk_device.KeySize.{KeySize}
use Rattle.qfs_device.specs.declared.errors.DeviceError.{DeviceError}
use Rattle.qfs_device.specs.declared.errors.DeviceError.TheVariants.{Failed, NoMemory}
use Rattle.qfs_model_server.specs.Chunk.{head_bytes}
use Rattle.qfs_model_store.specs.Stands.{kept}
use Rattle.qfs_record.specs.ChunkRecord.{begins_second, head_in}
use Rattle.qfs_record.specs.Part.{AreBytes}
use Rattle.qfs_record.specs.declared.head.Head.{Head}
use Rattle.qfs_store.specs.Known.{Sizes, resized}
use Rattle.qfs_store.specs.declared.copies.CopySize.{CopySize}

-- ---- reading a head

-- how many bytes are read to know the head of these: none where there are fewer than the shorter
-- head has
abbrev pub front_bytes : List ℕ → ℕ
front_bytes bytes =
    if nat_le FIRST_HEAD_BYTES (length bytes)
    then (if begins_second bytes && nat_le SECOND_HEAD_BYTES (length bytes)
    then SECOND_HEAD_BYTES else FIRST_HEAD_BYTES)
    else 0

-- a head names this key, this stripe where its form names one, and as many bytes as there are
abbrev pub is_head_of : ℕ → ChunkKey → ℕ → Head → Bool
is_head_of stripe key size head =
    is_eq (key_cmp head.key key) && ((head.form == 1) || (head.stripe == stripe))
    && (head_bytes head.form + head.len == size)

abbrev pub size_in : Head → CopySize
size_in head = record { form = head.form; len = head.len }

-- the copy that a head of a record of this size tells of, if it does
abbrev pub copy_in : ℕ → ChunkKey → ℕ → Option Head → Option CopySize
copy_in stripe key size None = None
copy_in stripe key size (Some head) =
    if is_head_of stripe key size head then Some (size_in head) else None

-- the copy that these bytes under this key are the record of, if they are one
abbrev pub copy_under : ℕ → ChunkKey → List ℕ → Option CopySize
copy_under stripe key bytes =
    copy_in stripe key (length bytes) (head_in (take (front_bytes bytes) bytes))

-- the head of a chunk under each key was read: all that was read are bytes
abbrev pub AreFronts : Contents → Type 0
AreFronts contents =
    AllByRecursion
    (λ (chunk : ChunkKey × List ℕ). AreBytes (take (front_bytes chunk.1) chunk.1)) contents

-- ---- all keys

abbrev pub entry_of : ChunkKey → CopySize → ChunkKey × CopySize
entry_of key size = (key, size)

-- the copies on a device
abbrev pub copies_in : ℕ → Contents → Sizes
copies_in stripe contents =
    filter_map
    (λ (chunk : ChunkKey × List ℕ).
    option_map (entry_of chunk.0) (copy_under stripe chunk.0 chunk.1)) contents

-- how many bytes are read to know all heads
abbrev pub fronts : Contents → ℕ
fronts contents = sum_by (λ (chunk : ChunkKey × List ℕ). front_bytes chunk.1) contents

-- ---- one key after another

-- what is noted of a key before its head is read
abbrev pub unread : CopySize
unread = record { form = 1; len = 0 }

-- a key is noted where its bytes are enough for a head
abbrev pub noting : Sizes → KeySize → Sizes
noting copies chunk =
    if nat_le FIRST_HEAD_BYTES chunk.size
    then with_entry key_cmp copies chunk.key unread else copies

-- a noted key gets the size of its copy, or is taken out
abbrev pub settled : Sizes → ChunkKey → Option CopySize → Sizes
settled copies key None = without_key key_cmp copies key
settled copies key (Some size) = resized copies key size

abbrev pub checking : ℕ → Held → Sizes → KeySize → Sizes
checking stripe held copies chunk =
    if nat_le FIRST_HEAD_BYTES chunk.size
    then settled copies chunk.key (copy_under stripe chunk.key (bytes_at held chunk.key))
    else copies

-- how many bytes are read to know the head under a key
abbrev pub front_under : Held → KeySize → ℕ
front_under held chunk = front_bytes (bytes_at held chunk.key)

abbrev pub front_sum : Held → List KeySize → ℕ
front_sum held sizes = sum_by (front_under held) sizes

-- what is read of the head under a key are bytes
abbrev pub HasBytes : Held → KeySize → Type 0
HasBytes held chunk = AreBytes (take (front_under held chunk) (bytes_at held chunk.key))

-- a device has so many bytes under a key as it told
pub record IsSized (held : Held) (chunk : KeySize) : Type 0 where
  pub there : IsTrue (has_key key_cmp held.contents chunk.key)
  pub size : chunk.size ≡ length (bytes_at held chunk.key)

-- so many bytes were read from a device that held this, and nothing else changed
pub record Reads (held : Held) (told : Option Held) (count : ℕ) : Type 0 where
  pub after : Held
  pub told_is : told ≡ Some after
  pub contents : after.contents ≡ held.contents
  pub life : after.life ≡ held.life
  pub handed : kept after.handed_out ≡ kept (held.handed_out + count)

-- the copies that stand on a device were found, and all heads read
pub record Found (stripe : ℕ) (held : Held) (known : Sizes) (told : Option Held) : Type 0 where
  pub copies : known ≡ copies_in stripe held.contents
  pub rising : IsStrictlySortedBy key_cmp (keys_of held.contents)
  pub bytes : AreFronts held.contents
  pub reads : Reads held told (fronts held.contents)

-- the checks of the keys up to those that are left
pub record Checked (stripe : ℕ) (held : Held) (told : Option Held) (begun now : Sizes)
    (sizes rest : List KeySize) : Type 0 where
  pub count : ℕ
  pub reads : Reads held told count
  pub leads : fold (checking stripe held) now rest ≡ fold (checking stripe held) begun sizes
  pub counts : count + front_sum held rest ≡ front_sum held sizes
  pub readable : AllByRecursion (IsSized held) rest
  pub fronts_are : AllByRecursion (HasBytes held) rest → AllByRecursion (HasBytes held) sizes

-- a key's front was read and its copy found, or not all of it was read
abbrev pub HeadRead : {E : Type 0} → Held → Option Held → KeySize → Result (Option Head) E → Type 0
HeadRead held told chunk (Ok head) =
    (head ≡ head_in (take (front_under held chunk) (bytes_at held chunk.key))) × HasBytes held chunk
    × Reads held told (front_under held chunk)
HeadRead held told chunk (Err error) = (count : ℕ) × Reads held told count

abbrev pub KeyChecked : {E : Type 0} → ℕ → Held → Option Held → KeySize → Sizes → Sizes
    → Result (Unit {0}) E → Type 0
KeyChecked stripe held told chunk copies copies' (Ok done) =
    (copies' ≡ checking stripe held copies chunk)
    × HasBytes held chunk × Reads held told (front_under held chunk)
KeyChecked stripe held told chunk copies copies' (Err error) = (count : ℕ) × Reads held told count

-- the copies on a device were found, and all fronts read; or it failed after some; or no memory was
-- found and nothing read
abbrev pub FindsOn : ℕ → Result Sizes DeviceError → Option Held → Option Held → Type 0
FindsOn stripe (Ok copies) told told' =
    (held : Held) → told ≡ Some held
    → Found stripe held copies told'
FindsOn stripe (Err Failed) told told' =
    (held : Held) → told ≡ Some held → (count : ℕ) × Reads held told' count
FindsOn stripe (Err NoMemory) told told' = told' ≡ told
