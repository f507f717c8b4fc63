-- What is to hold of a metaserver that started with nothing, as far as it alone can tell: how its state
-- keeps to what it told its actors so far. What it may be asked for that is said in `Asked`.
use Rattle.std.specs.Prelude.{ℕ, ◌≡◌, ◌≢◌, ◌<◌, ◌≤◌, ◌+◌, ◌⊎◌, ◌==◌, ◌&&◌, Bool, true, not, nat_eq, List, [], ◌++◌, length, map, filter, find, Some, is_some, IsTrue}
use Rattle.std.specs.Option.{option_to_list}
use Rattle.std.specs.List.{list_any, IsDistinct}
use Rattle.qfs_base.specs.declared.chunk.BlockId.{BlockId}
use Rattle.qfs_base.specs.declared.chunk.Copy.{Copy}
use Rattle.qfs_base.specs.declared.image.CondemnedRow.{CondemnedRow}
use Rattle.qfs_base.specs.declared.image.Lease.{Lease}
use Rattle.qfs_base.specs.declared.image.MetaImage.{MetaImage}
use Rattle.qfs_base.specs.declared.image.ServerView.{ServerView}
use Rattle.qfs_base.specs.declared.image.SlotRecord.{SlotRecord}
use Rattle.qfs_base.specs.declared.image.SlotRow.{SlotRow}
use Rattle.qfs_base.specs.declared.image.TreeRow.{TreeRow}
use Rattle.qfs_base.specs.declared.lists.NameKind.{NameKind}
use Rattle.qfs_base.specs.declared.lists.NameKind.TheVariants as Is
use Rattle.qfs_base.specs.declared.reply.Condemned.{Condemned}
use Rattle.qfs_base.specs.Files.{Puts, Content, FileEntry, IsDirectory, IsUnclosed, IsClosed, files_of, created_count, FollowFrom}
use Rattle.qfs_base.specs.Table.{Each}
use Rattle.qfs_model_meta.specs.Condemned.{is_copy_of}
use Rattle.qfs_model_meta.specs.Grammar.{IsImage}
use Rattle.qfs_model_meta.specs.Leases.{is_live_lease}
use Rattle.qfs_model_meta.specs.Past.{Past, SlotCopy, ListedCopy, GivenLease, same_version, was_granted, is_copy}
use Rattle.qfs_model_meta.specs.Servers.{server_at, is_live}
use Rattle.qfs_model_meta.specs.Slots.{slot_at, is_slot, granted_copy, copies_of_block, same_block}
use Rattle.qfs_model_meta.specs.TreeRows.{file_stands, kind_of}

-- the condemned copies of a slot
unfoldable pub is_condemned_of : BlockId → ℕ → CondemnedRow → Bool
is_condemned_of block slot row = same_block row.condemned.block block && (row.condemned.slot == slot)

unfoldable pub condemned_of : BlockId → ℕ → List CondemnedRow → List Copy
condemned_of block slot rows =
    map (λ (row : CondemnedRow). row.condemned.copy) (filter (is_condemned_of block slot) rows)

-- the copies that are known of a slot: the current, the granted and the condemned ones
unfoldable pub known_copies : BlockId → ℕ → List SlotRow → List CondemnedRow → List Copy
known_copies block slot slots condemned =
    let state : SlotRecord = slot_at slots block slot in
    option_to_list state.current ++ option_to_list (granted_copy state.grant) ++ condemned_of block slot condemned

-- a version that was granted lies behind: its slot has a record with a higher next version, as long
-- as its file is in the tree
abbrev pub IsBehind : MetaImage → SlotCopy → Type 0
IsBehind m granted =
    IsTrue (file_stands granted.block.file m.tree)
    → IsTrue (is_some (find (is_slot granted.block granted.slot) m.slots))
    × (granted.copy.version < (slot_at m.slots granted.block granted.slot).next)

-- each version of a slot is granted once, to one server in one life, and no copy comes from elsewhere.
-- `counted`: a slot has no more versions than there were grants
pub record GrantedOnce (past : Past) (m : MetaImage) : Type 0 where
  pub once : IsDistinct same_version past.granted
  pub of_files : Each (λ (granted : SlotCopy). granted.block.file < m.next_file) past.granted
  pub behind : Each (IsBehind m) past.granted
  pub counted : Each (λ (row : SlotRow). row.state.next ≤ length past.granted + 1) m.slots
  pub different : (block : BlockId) (slot : ℕ) → IsDistinct nat_eq (map (λ (c : Copy). c.version) (known_copies block slot m.slots m.condemned))
  pub known : (block : BlockId) (slot : ℕ) → Each (λ copy. IsTrue (was_granted past.granted block slot copy)) (known_copies block slot m.slots m.condemned)
  pub ordered : Each (λ (c : Condemned). IsTrue (was_granted past.granted c.block c.slot c.copy)) past.ordered
  pub listed : Each (λ (l : ListedCopy). IsTrue (was_granted past.granted l.of_slot.block l.of_slot.slot l.of_slot.copy)) past.listed

-- the life of a grant is at most the known life of its server
abbrev pub LivesRise : Past → MetaImage → Type 0
LivesRise past m =
    Each (λ (granted : SlotCopy). granted.copy.life ≤ (server_at m.servers granted.copy.server).life) past.granted

-- a copy is condemned, its deletion wasn't ordered, and a lease blocks it
unfoldable pub is_blocked_copy : ℕ → SlotCopy → CondemnedRow → Bool
is_blocked_copy lease c row =
    is_copy_of c.block c.slot c.copy row && not row.ordered && list_any (nat_eq lease) row.blockers

-- a copy that a live lease lists is readable, unless its server was emptied: it is current, or
-- condemned and blocked by the lease
abbrev pub KeepsListed : MetaImage → ListedCopy → Type 0
KeepsListed m listed =
    IsTrue (is_live_lease listed.lease m.leases && is_live m.servers listed.of_slot.copy)
    → ((slot_at m.slots listed.of_slot.block listed.of_slot.slot).current ≡ Some listed.of_slot.copy)
    ⊎ IsTrue (list_any (is_blocked_copy listed.lease listed.of_slot) m.condemned)

-- whether a live lease is the one that was given, and whether two that were given have one number
unfoldable pub same_lease : GivenLease → Lease → Bool
same_lease given lease = (given.lease == lease.lease) && (given.actor == lease.actor) && (given.file == lease.file)

unfoldable pub same_lease_number : GivenLease → GivenLease → Bool
same_lease_number a b = a.lease == b.lease

-- whether a lease is the one that lists a copy, on the copy's file
unfoldable pub is_lease_of : ListedCopy → GivenLease → Bool
is_lease_of listed lease = (lease.lease == listed.lease) && (lease.file == listed.of_slot.block.file)

-- each lease is given once, to one actor and file, and keeps what it lists, which are copies of its file
pub record LeasesHold (past : Past) (m : MetaImage) : Type 0 where
  pub once : IsDistinct same_lease_number past.leases
  pub numbers : Each (λ (given : GivenLease). given.lease < m.next_lease) past.leases
  pub given : Each (λ lease. IsTrue (list_any (λ given. same_lease given lease) past.leases)) m.leases
  pub listed : Each (λ listed. IsTrue (list_any (is_lease_of listed) past.leases)) past.listed
  pub kept : Each (KeepsListed m) past.listed

-- a copy that was ordered deleted
pub record IsLetGo (past : Past) (m : MetaImage) (c : Condemned) : Type 0 where
  pub not_current : (slot_at m.slots c.block c.slot).current ≢ Some c.copy
  pub not_granted : granted_copy (slot_at m.slots c.block c.slot).grant ≢ Some c.copy
  pub not_listed : Each
      (λ (listed : ListedCopy). IsTrue (is_live_lease listed.lease m.leases)
      → is_copy c.block c.slot c.copy listed.of_slot ≢ true)
      past.listed

-- the servers on which a block has a live copy or grant
unfoldable pub live_servers : BlockId → List ServerView → List SlotRow → List ℕ
live_servers block servers slots =
    map (λ (copy : Copy). copy.server) (filter (is_live servers) (copies_of_block block slots))

-- the live copies and grants of a block stand on different servers
abbrev pub OneServerEach : MetaImage → Type 0
OneServerEach m = (block : BlockId) → IsDistinct nat_eq (live_servers block m.servers m.slots)

-- a row of the tree as the files of a history show it, where the puts' bytes are known
unfoldable pub content_of : Puts → TreeRow → NameKind → Content
content_of puts row Is.Directory = IsDirectory
content_of puts row Is.Unclosed = IsUnclosed row.file
content_of puts row Is.Closed = IsClosed row.file (puts row.actor row.command)

unfoldable pub file_entry : Puts → TreeRow → FileEntry
file_entry puts row =
    record { path = row.path; content = content_of puts row (kind_of row.file row.closed) }

-- the name tree is that of the file history, whose entries are all allowed at their places, whatever
-- the puts' bytes are
pub record TreeIsHistory (m : MetaImage) : Type 0 where
  pub files : (puts : Puts) → map (file_entry puts) m.tree ≡ files_of puts m.history
  pub legal : (puts : Puts) → FollowFrom puts 0 [] m.history
  pub numbers : m.next_file ≡ created_count m.history + 1

-- a metaserver that keeps to its past
pub record IsSound (past : Past) (m : MetaImage) : Type 0 where
  pub image : IsImage m
  pub granted_once : GrantedOnce past m
  pub lives : LivesRise past m
  pub leases : LeasesHold past m
  pub ordered : Each (IsLetGo past m) past.ordered
  pub one_server : OneServerEach m
  pub tree : TreeIsHistory m
