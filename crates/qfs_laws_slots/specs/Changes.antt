-- What holds before each change that a request makes, and what a change tells the actors. Cited
-- by the laws of the tree and of the metaserver.
use Rattle.qfs_base.specs.NameTree.{PathNames, add_refusal, look_refusal, rename_refusal}
use Rattle.qfs_base.specs.NameTree.{rmdir_refusal}
use Rattle.qfs_base.specs.Path.{IsPath}
use Rattle.qfs_base.specs.Sizes.{LAST_U16, LAST_U32, MOST_FILE_BYTES, SLOTS}
use Rattle.qfs_base.specs.Table.{Each}
use Rattle.qfs_base.specs.declared.change.Change.{Change}
use Rattle.qfs_base.specs.declared.change.Change.TheVariants.{AbortFile, AddDirectory, AddFile}
use Rattle.qfs_base.specs.declared.change.Change.TheVariants.{CloseFile, CondemnStray, ConfirmSlot}
use Rattle.qfs_base.specs.declared.change.Change.TheVariants.{DropActor, GiveLease, GrantSlot}
use Rattle.qfs_base.specs.declared.change.Change.TheVariants.{MarkOrdered, MovePath, RemoveFile}
use Rattle.qfs_base.specs.declared.change.Change.TheVariants.{ServerDown, ServerLeaves}
use Rattle.qfs_base.specs.declared.change.Change.TheVariants.{ServerSleeps, ServerUp, TakeDirectory}
use Rattle.qfs_base.specs.declared.chunk.BlockId.{BlockId}
use Rattle.qfs_base.specs.declared.chunk.ChunkKey.{ChunkKey}
use Rattle.qfs_base.specs.declared.image.CondemnedRow.{CondemnedRow}
use Rattle.qfs_base.specs.declared.image.MetaImage.{MetaImage}
use Rattle.qfs_base.specs.declared.image.SlotRow.{SlotRow}
use Rattle.qfs_base.specs.declared.image.TreeRow.{TreeRow}
use Rattle.qfs_model_meta.specs.Grammar.{IsActor, IsServer}
use Rattle.qfs_model_meta.specs.Past.{Past, was_granted, with_copy}
use Rattle.qfs_model_meta.specs.Servers.{server_at}
use Rattle.qfs_model_meta.specs.Slots.{slot_at}
use Rattle.qfs_model_meta.specs.Sound.{live_servers}
use Rattle.qfs_model_meta.specs.TreeRows.{closed_file, file_stands, has_file, is_unclosed_row}
use Rattle.qfs_model_meta.specs.TreeRows.{row_at, standing, unclosed_file}
use Rattle.std.proofs.Common.{None, Some, [], length, ℕ, ◌&&◌, ◌++◌, ◌<◌, ◌∷◌, ◌≡◌, ◌≤◌}
use Rattle.std.specs.List.{list_any}
use Rattle.std.specs.Prelude.{IsTrue, is_some, ⊤}
use Rattle.qfs_laws_tables.specs.Distinct.{copies}

-- what is told of a change, before the reply lists copies or orders a deletion
abbrev pub told : Change → MetaImage → Past → Past
told (GrantSlot block slot server actor lease) m past =
    with_copy (record {
      block = block;
      slot = slot;
      copy = record {
        server = server;
        life = (server_at m.servers server).life;
        version =
            (slot_at m.slots block slot).next;
      };
    }) past
told (GiveLease actor file until) m past =
    record past {
      leases =
          past.leases ++ record { lease = m.next_lease; actor = actor; file = file } ∷ [];
    }
told _ m past = past

pub record MayAdd (m : MetaImage) (path : PathNames) : Type 0 where
  pub is_path : IsPath path
  pub free : add_refusal (standing m.tree) path ≡ None

pub record MayAddFile (m : MetaImage) (path : PathNames) (actor command len : ℕ) : Type 0 where
  pub adds : MayAdd m path
  pub number : m.next_file ≤ LAST_U32
  pub is_actor : IsActor actor
  pub command_fits : command ≤ LAST_U16
  pub len_fits : len ≤ MOST_FILE_BYTES

pub record MayClose (m : MetaImage) (file actor command : ℕ) : Type 0 where
  pub row : TreeRow
  pub found : unclosed_file actor file m.tree ≡ Some row
  pub made : row.command ≡ command
  pub number : file ≤ LAST_U32

pub record MayAbort (m : MetaImage) (file : ℕ) : Type 0 where
  pub unclosed : IsTrue (list_any (λ (row : TreeRow). is_unclosed_row row && has_file file row)
      m.tree)
  pub number : file ≤ LAST_U32

pub record MayRemove (m : MetaImage) (path : PathNames) (file : ℕ) : Type 0 where
  pub closed : look_refusal (standing m.tree) path ≡ None
  pub at : (row_at m.tree path).file ≡ file
  pub bare : (block : BlockId) (slot : ℕ) → block.file ≡ file
      → (slot_at m.slots block slot).current ≡ None

pub record MayMove (m : MetaImage) (from to : PathNames) : Type 0 where
  pub is_path : IsPath to
  pub free : rename_refusal (standing m.tree) from to ≡ None

pub record MayGrant (m : MetaImage) (block : BlockId) (slot server actor lease : ℕ) : Type 0 where
  pub stands : IsTrue (file_stands block.file m.tree)
  pub slot_number : slot < SLOTS
  pub server_number : IsServer (length m.servers) server
  pub free : (slot_at m.slots block slot).grant ≡ None
  pub apart : copies server (live_servers block m.servers m.slots) ≡ 0
  pub versions : (slot_at m.slots block slot).next < LAST_U32
  pub is_actor : IsActor actor
  pub lease_given : lease < m.next_lease

pub record MayCondemn (past : Past) (m : MetaImage) (server life : ℕ) (key : ChunkKey) : Type 0
  where
    pub granted : IsTrue (was_granted past.granted key.block key.slot
        (record { server = server; life = life; version = key.version }))
    pub slot_number : key.slot < SLOTS
    pub server_number : IsServer (length m.servers) server

-- a slot that has a record gets a version of its own yet
abbrev pub HasVersionsLeft : MetaImage → Type 0
HasVersionsLeft m = Each (λ (row : SlotRow). row.state.next < LAST_U32) m.slots

-- what holds before a change
abbrev pub MayMake : Past → MetaImage → Change → Type 0
MayMake past m (AddDirectory path) = MayAdd m path
MayMake past m (TakeDirectory path) = rmdir_refusal (standing m.tree) path ≡ None
MayMake past m (AddFile path actor command len) = MayAddFile m path actor command len
MayMake past m (CloseFile file actor command) = MayClose m file actor command
MayMake past m (AbortFile file) = MayAbort m file
MayMake past m (RemoveFile path file) = MayRemove m path file
MayMake past m (MovePath from to) = MayMove m from to
MayMake past m (GrantSlot block slot server actor lease) = MayGrant m block slot server actor lease
MayMake past m (ConfirmSlot block slot) = IsTrue (is_some (closed_file block.file m.tree))
MayMake past m (GiveLease actor file until) = IsActor actor
MayMake past m (DropActor actor) = IsActor actor
MayMake past m (MarkOrdered number) =
    Each (λ (row : CondemnedRow). row.condemned.number ≡ number → row.blockers ≡ []) m.condemned
MayMake past m (CondemnStray server life key) = MayCondemn past m server life key
MayMake past m (ServerUp server life) =
    IsServer (length m.servers) server × ((server_at m.servers server).life ≤ life)
MayMake past m (ServerDown server) = IsServer (length m.servers) server
MayMake past m (ServerLeaves server) = IsServer (length m.servers) server
MayMake past m (ServerSleeps server until) = IsServer (length m.servers) server
MayMake past m _ = ⊤
