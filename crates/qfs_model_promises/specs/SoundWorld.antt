-- The sound world: what is to hold after every run, in nine parts. What the metaserver alone can tell of each part is
-- a fact of its own; here stands what ties it to the chunk servers and to the actors. Each part speaks of the steps so far
-- and of the world behind them; the bytes of files may be those of a longer run.
use Rattle.std.specs.Prelude.{◌≡◌, ℕ, ⊤, ◌≤◌, ◌⊎◌, ◌==◌, ◌&&◌, Bool, false, List, map, flat_map, length, take, drop, Some, None, IfSome, IsTrue}
use Rattle.std.specs.List.{list_any, IsDistinct, enumerate_from}
use Rattle.qfs_base.specs.Files.{same_pair}
use Rattle.qfs_base.specs.Key.{key_cmp}
use Rattle.qfs_base.specs.KeyMap.{has_key}
use Rattle.qfs_base.specs.Layout.{rows_of}
use Rattle.qfs_base.specs.Shape.{Shape}
use Rattle.qfs_base.specs.Table.{Each}
use Rattle.qfs_base.specs.declared.chunk.BlockId.{BlockId}
use Rattle.qfs_base.specs.declared.chunk.ChunkKey.{ChunkKey}
use Rattle.qfs_base.specs.declared.chunk.Copy.{Copy}
use Rattle.qfs_base.specs.declared.history.Entry.{Entry}
use Rattle.qfs_base.specs.declared.history.Entry.TheVariants as Wrote
use Rattle.qfs_base.specs.declared.history.Step.{Step}
use Rattle.qfs_base.specs.declared.image.TreeRow.{TreeRow}
use Rattle.qfs_base.specs.declared.reply.ChunkAnswer.{ChunkAnswer}
use Rattle.qfs_base.specs.declared.reply.ChunkAnswer.TheVariants as Did
use Rattle.qfs_base.specs.declared.reply.ChunkReply.{ChunkReply}
use Rattle.qfs_base.specs.declared.reply.Granted.{Granted}
use Rattle.qfs_base.specs.declared.reply.MetaReply.{MetaReply}
use Rattle.qfs_base.specs.declared.reply.MetaReply.TheVariants as Told
use Rattle.qfs_base.specs.declared.reply.NodeReply.{NodeReply}
use Rattle.qfs_base.specs.declared.reply.NodeReply.TheVariants as From
use Rattle.qfs_base.specs.declared.request.ChunkRequest.{ChunkRequest}
use Rattle.qfs_base.specs.declared.request.ChunkRequest.TheVariants as Serve
use Rattle.qfs_base.specs.declared.request.NodeRequest.{NodeRequest}
use Rattle.qfs_base.specs.declared.request.NodeRequest.TheVariants as To
use Rattle.qfs_base.specs.declared.script.Script.{Script}
use Rattle.qfs_model_actor.specs.Actor.{Actor}
use Rattle.qfs_model_meta.specs.Asked.{WasGrantedOn}
use Rattle.qfs_model_meta.specs.Dropped.{dropped_at}
use Rattle.qfs_model_meta.specs.Grammar.{IsImage}
use Rattle.qfs_model_meta.specs.Holding.{KeepsHolding}
use Rattle.qfs_model_meta.specs.Leases.{is_live_lease}
use Rattle.qfs_model_meta.specs.Past.{Past, SlotCopy, ListedCopy}
use Rattle.qfs_model_meta.specs.Servers.{server_at, is_live}
use Rattle.qfs_model_meta.specs.Slots.{slot_at, same_block, granted_copy}
use Rattle.qfs_model_meta.specs.Sound.{GrantedOnce, LivesRise, LeasesHold, IsLetGo, OneServerEach, TreeIsHistory}
use Rattle.qfs_model_server.specs.Chunk.{Chunk}
use Rattle.qfs_model_server.specs.Server.{Server}
use Rattle.qfs_model_world.specs.Audit.{key_at}
use Rattle.qfs_model_world.specs.Events.{Event, events, past_of}
use Rattle.qfs_model_world.specs.FileHistory.{IsHistoryOf}
use Rattle.qfs_model_world.specs.Made.{Creation, creations, creation_of, made, right_bytes}
use Rattle.qfs_model_world.specs.Puts.{put_path, puts_of}
use Rattle.qfs_model_world.specs.World.{World, numbered, after}
use Rattle.qfs_model_promises.specs.Heard.{Exchange, Inventoried, exchanges_of, holding_of, inventories_of}
use Rattle.qfs_model_promises.specs.TickedLeases.{was_ended_by_tick}

-- the servers with their numbers, and all that actors were told in their present commands
abbrev pub numbered_servers : World → List (ℕ × Server)
numbered_servers world = enumerate_from 1 world.servers

abbrev pub all_exchanges : World → List Exchange
all_exchanges world = flat_map exchanges_of world.actors

abbrev pub all_inventories : World → List Inventoried
all_inventories world = flat_map inventories_of world.actors

-- ---- right copies

-- a Fetch of a copy that was answered with bytes got that part of the right ones
abbrev pub IsRightFetch : Shape → (ℕ → List ℕ) → ChunkReply → ChunkAnswer → ChunkRequest → Type 0
IsRightFetch layout bytes reply Did.Fetched (Serve.Fetch key life from room) =
    reply.room ≡ take (length room) (drop from (right_bytes layout bytes key))
IsRightFetch layout bytes reply answer request = ⊤

abbrev pub FetchedRight : Shape → (ℕ → List ℕ) → NodeReply → NodeRequest → Type 0
FetchedRight layout bytes (From.Chunk reply) (To.Chunk server request) =
    IsRightFetch layout bytes reply reply.answer request
FetchedRight layout bytes reply request = ⊤

-- an opened file has the length of its bytes, and a granted block has their rows
abbrev pub TellsLengths : Shape → (ℕ → List ℕ) → MetaReply → Type 0
TellsLengths layout bytes (Told.Opened o) = o.len ≡ length (bytes o.file)
TellsLengths layout bytes (Told.Granted g) =
    g.rows ≡ rows_of layout.s layout.r (length (bytes g.block.file)) g.block.index
TellsLengths layout bytes reply = ⊤

abbrev pub ToldLengths : Shape → (ℕ → List ℕ) → NodeReply → Type 0
ToldLengths layout bytes (From.Meta reply) = TellsLengths layout bytes reply
ToldLengths layout bytes reply = ⊤

-- a copy on a server has the right bytes
abbrev pub IsRightChunk : Shape → (ℕ → List ℕ) → ChunkKey × Chunk → Type 0
IsRightChunk layout bytes copy = copy.1.bytes ≡ right_bytes layout bytes copy.0

-- every copy on a server is right, and so is what actors read of them; they are told the lengths of the files' bytes
pub record RightCopies (world : World) (bytes : ℕ → List ℕ) : Type 0 where
  pub stored : Each (λ (server : Server). Each (IsRightChunk world.rules.layout bytes) server.copies) world.servers
  pub fetched : Each (λ (e : Exchange). FetchedRight world.rules.layout bytes e.1 e.0) (all_exchanges world)
  pub lengths : Each (λ (e : Exchange). ToldLengths world.rules.layout bytes e.1) (all_exchanges world)

-- ---- granted once

-- each version of a slot was granted once, to one server and life; each copy on a server, and each key that a server told an
-- actor, was granted to that server in that life
pub record GrantedOnceIn (world : World) (past : Past) : Type 0 where
  pub granted : GrantedOnce past world.meta
  pub stored : Each (λ (s : ℕ × Server).
      Each (λ (copy : ChunkKey × Chunk). WasGrantedOn past s.0 s.1.life copy.0) s.1.copies) (numbered_servers world)
  pub told : Each (λ (i : Inventoried). Each (WasGrantedOn past i.server i.life) i.keys) (all_inventories world)

-- ---- lives

-- an inventory's life is at most its server's
abbrev pub IsPastLife : World → Inventoried → Type 0
IsPastLife world i = IfSome (numbered world.servers i.server) (λ (server : Server). i.life ≤ server.life)

-- the metaserver sees as many servers as there are, and a server's known life is at most its life; a granted or listed life is
-- at most the known one
pub record LivesAgree (world : World) (past : Past) : Type 0 where
  pub as_many : length world.meta.servers ≡ length world.servers
  pub known : Each (λ (s : ℕ × Server). (server_at world.meta.servers s.0).life ≤ s.1.life) (numbered_servers world)
  pub granted : LivesRise past world.meta
  pub listed : Each (λ (l : ListedCopy).
      l.of_slot.copy.life ≤ (server_at world.meta.servers l.of_slot.copy.server).life) past.listed
  pub told : Each (IsPastLife world) (all_inventories world)

-- ---- copies stored

-- a copy of a slot is on its server, unless the server was emptied since
abbrev pub IsStored : World → SlotCopy → Type 0
IsStored world c =
    IfSome (numbered world.servers c.copy.server) (λ (server : Server).
    server.life ≡ c.copy.life → IsTrue (has_key key_cmp server.copies (key_at c.block c.slot c.copy)))

-- whether a step stored a copy
unfoldable pub is_key : ChunkKey → ChunkKey → Bool
is_key a b = same_block a.block b.block && (a.slot == b.slot) && (a.version == b.version)

unfoldable pub puts_key : ChunkKey → ℕ → ChunkRequest → Bool
puts_key key life (Serve.Put other asked bytes) = is_key other key && (asked == life)
puts_key key life request = false

unfoldable pub put_stored : ChunkKey → ℕ → ChunkRequest → ChunkAnswer → Bool
put_stored key life request Did.Stored = puts_key key life request
put_stored key life request answer = false

unfoldable pub stores_copy : SlotCopy → NodeReply → NodeRequest → Bool
stores_copy c (From.Chunk reply) (To.Chunk server request) =
    (server == c.copy.server) && put_stored (key_at c.block c.slot c.copy) c.copy.life request reply.answer
stores_copy c (From.Chunk reply) (To.Meta request) = false
stores_copy c (From.Meta reply) request = false

unfoldable pub was_stored : List Event → SlotCopy → Bool
was_stored steps c = list_any (λ (event : Event). stores_copy c event.reply event.request) steps

-- a copy of a slot
abbrev pub copy_of : BlockId → ℕ → Copy → SlotCopy
copy_of block slot copy = record { block = block; slot = slot; copy = copy }

-- a slot's current copy is on its server, and so is that of its pending grant once its Put was answered Stored
pub record CopiesStored (world : World) (steps : List Event) : Type 0 where
  pub current : (block : BlockId) (slot : ℕ) (copy : Copy)
      → (slot_at world.meta.slots block slot).current ≡ Some copy
      → IsStored world (copy_of block slot copy)
  pub granted : (block : BlockId) (slot : ℕ) (copy : Copy)
      → granted_copy (slot_at world.meta.slots block slot).grant ≡ Some copy
      → IsTrue (was_stored steps (copy_of block slot copy))
      → IsStored world (copy_of block slot copy)

-- ---- leases

-- a copy that a live lease lists is on its server, unless the server was emptied
abbrev pub IsKeptStored : World → ListedCopy → Type 0
IsKeptStored world listed =
    IsTrue (is_live_lease listed.lease world.meta.leases && is_live world.meta.servers listed.of_slot.copy)
    → IsStored world listed.of_slot

-- each lease was given once, to one actor and file, and the copies that it lists stay readable
pub record LeasesKeep (world : World) (past : Past) : Type 0 where
  pub leases : LeasesHold past world.meta
  pub stored : Each (IsKeptStored world) past.listed

-- ---- held by its actor

-- what a command got and hasn't given back is there and its actor's own, but for a lease that a Tick ended
abbrev pub HeldByActors : World → List Event → Type 0
HeldByActors world steps =
    Each (λ (actor : Actor). dropped_at actor.number world.meta.dropped ≡ None
    → KeepsHolding (past_of steps) (λ lease. was_ended_by_tick lease steps) world.meta actor.number (holding_of actor))
    world.actors

-- ---- the tree is the history

-- an entry that created or closed a file is that of the command which made the file
abbrev pub IsMadeBy : Script → List Event → Entry → Type 0
IsMadeBy script steps (Wrote.Created file path) =
    (c : Creation) × (creation_of file steps ≡ Some c) × (put_path script c.actor c.command ≡ Some path)
IsMadeBy script steps (Wrote.Closed file actor command) =
    creation_of file steps ≡ Some (record { file = file; actor = actor; command = command })
IsMadeBy script steps entry = ⊤

-- the metaserver keeps for a file the put that made it, and the length of its bytes
abbrev pub KeepsMaker : Script → List Event → TreeRow → Type 0
KeepsMaker script steps row =
    (row.file ≡ 0)
    ⊎ ((creation_of row.file steps ≡ Some (record { file = row.file; actor = row.actor; command = row.command }))
    × (row.len ≡ length (puts_of script row.actor row.command)))

-- the name tree is that of a legal history, in which each file was made by a put of its own
pub record TreeTellsHistory (script : Script) (world : World) (steps : List Event) : Type 0 where
  pub tree : TreeIsHistory world.meta
  pub legal : IsHistoryOf script world.meta.history
  pub made_once : IsDistinct same_pair (map (λ (c : Creation). (c.actor, c.command)) (creations steps))
  pub makers : Each (IsMadeBy script steps) world.meta.history
  pub kept : Each (KeepsMaker script steps) world.meta.tree

-- ---- all parts

-- the world behind these steps of a script is sound, where files have these bytes. The first line is the grammar of the
-- metaserver's state, on which the parts rest
pub record IsSoundAt (script : Script) (bytes : ℕ → List ℕ) (steps : List Event) (world : World) : Type 0 where
  pub image : IsImage world.meta
  pub right_copies : RightCopies world bytes
  pub granted_once : GrantedOnceIn world (past_of steps)
  pub lives : LivesAgree world (past_of steps)
  pub copies_stored : CopiesStored world steps
  pub leases : LeasesKeep world (past_of steps)
  pub ordered : Each (IsLetGo (past_of steps) world.meta) (past_of steps).ordered
  pub one_server : OneServerEach world.meta
  pub held_by_actors : HeldByActors world steps
  pub tree : TreeTellsHistory script world steps

-- the world after an order is sound, where each file has the bytes that it was made of
abbrev pub IsSoundWorld : Script → List Step → Type 0
IsSoundWorld script order =
    IsSoundAt script (made script (events script order)) (events script order) (after script order)
