-- What comes of a request to a chunk server over its device.
use Rattle.std.specs.Prelude.{ℕ, ◌≡◌, ◌+◌, ◌-◌, ◌^◌, ◌<◌, ◌≤◌, not, Bool, true, false, List, [], length, take, drop, replicate, Option, Some, None, IfSome, is_some, ⊤}
use Rattle.std.specs.Option.{option_map}
use Rattle.std.specs.List.{list_any}
use Rattle.std.specs.List.Sorted.{IsStrictlySortedBy}
use Rattle.std.specs.Map.{keys_of}
use Rattle.qfs_base.specs.Key.{key_cmp}
use Rattle.qfs_base.specs.KeyMap.{has_key, value_at, with_entry, without_key}
use Rattle.qfs_base.specs.Outcome.{chunk_outcome}
use Rattle.qfs_base.specs.Sizes.{SLOTS, MOST_CHUNK_BYTES}
use Rattle.qfs_base.specs.declared.chunk.ChunkKey.{ChunkKey}
use Rattle.qfs_base.specs.declared.reply.ChunkAnswer.{ChunkAnswer}
use Rattle.qfs_base.specs.declared.reply.ChunkAnswer.TheVariants as Answer
use Rattle.qfs_base.specs.declared.reply.ChunkReply.{ChunkReply}
use Rattle.qfs_base.specs.declared.request.ChunkRequest.{ChunkRequest}
use Rattle.qfs_base.specs.declared.request.ChunkRequest.TheVariants as Ask
use Rattle.qfs_device.specs.Fault.{RoseOnce}
use Rattle.qfs_device.specs.Held.{Held, IsTorn, LiesIn, bytes_at, holding, lacking, leaving, handing, emptied}
use Rattle.qfs_device.specs.declared.errors.DeviceError.{DeviceError}
use Rattle.qfs_device.specs.declared.errors.DeviceError.TheVariants as Error
use Rattle.qfs_model_server.specs.Chunk.{Chunk, head_bytes}
use Rattle.qfs_model_server.specs.Server.{Server, Answered, server_step, room_of, without_room}
use Rattle.qfs_model_store.specs.Stands.{HandsOut}
use Rattle.qfs_record.specs.ChunkRecord.{IsChunk, chunk_record}
use Rattle.qfs_store.specs.Known.{Known, Sizes, size_of, refusal}
use Rattle.qfs_store.specs.Start.{Reads, Found}
use Rattle.qfs_store.specs.Stored.{Stored, StandsOn}
use Rattle.qfs_store.specs.declared.copies.CopySize.{CopySize}

-- a request that some actor may ask: a Put's slot is one of nine, and its bytes are at most
-- 67,108,864
abbrev pub IsBuilt : ChunkRequest → Type 0
IsBuilt (Ask.Put key life bytes) = (key.slot < SLOTS) × (length bytes ≤ MOST_CHUNK_BYTES)
IsBuilt _ = ⊤

-- ---- what each answer leaves of the copies that are known, and of what the device tells

-- a life that was told is the device's
abbrev pub IsLife : ℕ → Option Held → Type 0
IsLife life told = IfSome told (λ held. life ≡ held.life)

-- a request that names no key
abbrev pub IsWhole : ChunkRequest → Type 0
IsWhole (Ask.Put key life bytes) = ⊥
IsWhole (Ask.Fetch key life from room) = ⊥
IsWhole (Ask.Erase key life) = ⊥
IsWhole request = ⊤

-- a Put stores this record under its key; one that failed leaves that key absent or holding a front
-- of the record
abbrev pub PutLeaves : ChunkKey → CopySize → List ℕ → ChunkAnswer → Sizes → Sizes → Option Held
    → Option Held → Type 0
PutLeaves key size spelled Answer.Stored copies copies' told told' =
    (copies' ≡ with_entry key_cmp copies key size) × (told' ≡ option_map (holding key spelled) told)
PutLeaves key size spelled Answer.Fault copies copies' told told' =
    (copies' ≡ copies)
    × ((left : Option (List ℕ)) × IsTorn spelled left × (told' ≡ option_map (leaving key left) told))
PutLeaves key size spelled Answer.NoMemory copies copies' told told' =
    (copies' ≡ copies) × (told' ≡ told)
PutLeaves key size spelled _ copies copies' told told' = ⊥

-- a device has, behind the head of a copy of this size, so many bytes of it from this offset on
pub record IsPart (held : Held) (key : ChunkKey) (size : CopySize) (from count : ℕ) : Type 0 where
  pub lies : LiesIn held key (head_bytes size.form + from) count
  pub small : head_bytes size.form + from < 2 ^ 32

-- a Fetch fills its room from the record of the copy, behind its head, or with zeros where it
-- failed
abbrev pub FetchLeaves : ChunkKey → CopySize → ℕ → ℕ → ChunkAnswer → List ℕ → Option Held
    → Option Held → Type 0
FetchLeaves key size from count Answer.Fetched room told told' =
    (told' ≡ option_map (handing count) told)
    × (length room ≡ count)
    × IfSome told
    (λ held. room ≡ take count (drop (head_bytes size.form + from) (bytes_at held key)))
FetchLeaves key size from count Answer.Fault room told told' =
    (told' ≡ told) × (room ≡ replicate count 0)
FetchLeaves key size from count _ room told told' = ⊥

-- an Erase takes its key out
abbrev pub EraseLeaves : ChunkKey → ChunkAnswer → Sizes → Sizes → Option Held → Option Held → Type 0
EraseLeaves key Answer.Erased copies copies' told told' =
    (copies' ≡ without_key key_cmp copies key) × (told' ≡ option_map (lacking key) told)
EraseLeaves key Answer.Fault copies copies' told told' = (copies' ≡ copies) × (told' ≡ told)
EraseLeaves key _ copies copies' told told' = ⊥

-- a Wipe takes every key out, and begins the next life
abbrev pub WipeLeaves : ChunkAnswer → Sizes → Sizes → Option Held → Option Held → Type 0
WipeLeaves (Answer.Wiped life) copies copies' told told' =
    (copies' ≡ []) × (told' ≡ option_map emptied told) × IsLife life told'
WipeLeaves Answer.Fault copies copies' told told' = (copies' ≡ copies) × (told' ≡ told)
WipeLeaves _ copies copies' told told' = ⊥

-- an Inventory lists the copies
abbrev pub InventoryIs : ChunkAnswer → Sizes → Option Held → Type 0
InventoryIs (Answer.Inventory life keys) copies told = (keys ≡ keys_of copies) × IsLife life told
InventoryIs Answer.NoMemory copies told = ⊤
InventoryIs _ copies told = ⊥

-- a stopped server, whose copies rose by key, has those that stand on its device, and all fronts
-- were read; on one that is up nothing is read
abbrev pub FindsCopies : ℕ → Bool → Sizes → Sizes → Option Held → Option Held → Type 0
FindsCopies stripe true copies copies' told told' = (copies' ≡ copies) × (told' ≡ told)
FindsCopies stripe false copies copies' told told' =
    IsStrictlySortedBy key_cmp (keys_of copies)
    × ((held : Held) → told ≡ Some held → Found stripe held copies' told')

-- a Start that failed may have read; one that found no memory has read nothing
abbrev pub StartLeaves : ℕ → Bool → ChunkAnswer → Sizes → Sizes → Option Held → Option Held → Type 0
StartLeaves stripe up (Answer.Started life) copies copies' told told' =
    IsLife life told' × FindsCopies stripe up copies copies' told told'
StartLeaves stripe up Answer.Fault copies copies' told told' =
    (copies' ≡ copies) × ((held : Held) → told ≡ Some held → (count : ℕ) × Reads held told' count)
StartLeaves stripe up Answer.NoMemory copies copies' told told' =
    (copies' ≡ copies) × (told' ≡ told)
StartLeaves stripe up _ copies copies' told told' = ⊥

-- ---- whole requests

-- what a server answers where its device fails so
abbrev pub failure : DeviceError → ChunkAnswer
failure Error.Failed = Answer.Fault
failure Error.NoMemory = Answer.NoMemory

-- an answer that raises the count of faults says so, and every other leaves it
abbrev pub Counted : ChunkAnswer → ℕ → ℕ → Type 0
Counted Answer.Fault old new = RoseOnce old new
Counted _ old new = new ≡ old

-- whether a server is up after a Start that was answered so
abbrev pub up_after : ChunkAnswer → Bool → Bool
up_after (Answer.Started life) up = true
up_after _ up = up

-- nothing is known anew but which copies there are
abbrev pub SameBut : Stored → Stored → Type 0
SameBut before after = after.known ≡ record before.known { copies = after.known.copies }

-- the same copies, and a device that tells the same
abbrev pub Stays : Stored → Stored → Type 0
Stays before after = (after.known.copies ≡ before.known.copies) × (after.told ≡ before.told)

-- what a request that isn't refused does, by its answer; no other answer comes
abbrev pub Does : ChunkRequest → ChunkReply → Stored → Stored → Type 0
Does (Ask.Put key life bytes) reply before after =
    let copy : Chunk = record { form = before.known.form; bytes = bytes } in
    (reply.room ≡ []) × SameBut before after × IsChunk before.stripe key copy
    × PutLeaves key (size_of copy) (chunk_record before.stripe key copy) reply.answer
    before.known.copies after.known.copies before.told after.told
Does (Ask.Fetch key life from room) reply before after =
    (after.known ≡ before.known)
    × ((size : CopySize) × (value_at key_cmp before.known.copies key ≡ Some size)
    × FetchLeaves key size from (length room) reply.answer reply.room before.told after.told)
Does (Ask.Erase key life) reply before after =
    (reply.room ≡ []) × SameBut before after
    × EraseLeaves key reply.answer before.known.copies after.known.copies before.told after.told
Does Ask.Stop reply before after =
    (reply ≡ without_room Answer.Stopped)
    × (after.known ≡ record before.known { up = false }) × (after.told ≡ before.told)
Does Ask.Start reply before after =
    (reply.room ≡ [])
    × (after.known
    ≡ record before.known {
      up = up_after reply.answer before.known.up;
      copies = after.known.copies;
    })
    × StartLeaves before.stripe before.known.up reply.answer before.known.copies
    after.known.copies before.told after.told
Does Ask.Wipe reply before after =
    (reply.room ≡ []) × SameBut before after
    × WipeLeaves reply.answer before.known.copies after.known.copies before.told after.told
Does Ask.Inventory reply before after =
    (reply.room ≡ []) × (after.known ≡ before.known) × (after.told ≡ before.told)
    × InventoryIs reply.answer before.known.copies before.told
Does Ask.Upgrade reply before after =
    (reply ≡ without_room Answer.Upgraded)
    × (after.known ≡ record before.known { form = 2 }) × (after.told ≡ before.told)

-- what is done, and counted, over one stripe
pub record IsDone (request : ChunkRequest) (reply : ChunkReply) (before after : Stored)
    : Type 0 where
  pub stripe : after.stripe ≡ before.stripe
  pub does : Does request reply before after
  pub counted : Counted reply.answer before.faults after.faults

-- no refusal is due, in the life that the device has
pub record IsAllowed (request : ChunkRequest) (before : Stored) : Type 0 where
  pub now : ℕ
  pub life : IsLife now before.told
  pub none : refusal before.known now request ≡ None

-- a refusal comes where it is due and changes nothing, and the room comes back; else the request is
-- carried out
abbrev pub Answers : ChunkRequest → ChunkReply → Stored → Stored → Option ChunkAnswer → Type 0
Answers request reply before after (Some answer) =
    (reply ≡ record { answer = answer; room = room_of request }) × (after ≡ before)
Answers request reply before after None = IsDone request reply before after

-- ---- the step of the definitions

-- whether a key on the device is that of no copy
abbrev pub has_leftovers : Held → Server → Bool
has_leftovers held server =
    list_any (λ (chunk : ChunkKey × List ℕ). not (has_key key_cmp server.copies chunk.0))
    held.contents

-- whether a step may have read more than the server of the definitions: a Start that failed, or
-- that found keys of no copy
abbrev pub reads_more : ChunkRequest → ChunkAnswer → Held → Server → Bool
reads_more Ask.Start Answer.Fault held server = true
reads_more Ask.Start Answer.NoMemory held server = false
reads_more Ask.Start _ held server = has_leftovers held server
reads_more _ answer held server = false

-- the two stand for the server where a step of the definitions led, gave its reply and handed out
-- what it did
pub record Steps (request : ChunkRequest) (reply : ChunkReply) (stripe : ℕ) (before after : Held)
    (known : Known) (server : Server) (step : Answered) : Type 0 where
  pub reply_is : reply ≡ step.reply
  pub stands : StandsOn stripe after known step.server
  pub handed : HandsOut (reads_more request reply.answer before server) after.handed_out
      (before.handed_out + (step.server.handed_out - server.handed_out))

-- whichever server the two stood for, they took its step, with the outcome that the reply shows
abbrev pub IsStep : ChunkRequest → ChunkReply → Stored → Stored → Type 0
IsStep request reply before after =
    (server : Server) (held : Held) → before.told ≡ Some held → StandsOn before.stripe held before.known server
    → (now : Held) × (after.told ≡ Some now)
    × Steps request reply before.stripe held now after.known server
    (server_step request (chunk_outcome reply.answer) server)

-- what comes of a request
pub record Serves (request : ChunkRequest) (reply : ChunkReply) (before after : Stored)
    : Type 0 where
  -- the life that the device gave, and the answer by it: over any device
  pub now : ℕ
  pub life : IsLife now before.told
  pub answers : Answers request reply before after (refusal before.known now request)
  -- the step of the server that the two stood for, if they stood for one
  pub step : IsStep request reply before after
  -- a device tells as before what it holds
  pub tells : is_some after.told ≡ is_some before.told
