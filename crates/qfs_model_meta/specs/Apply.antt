-- What each change does to the metaserver's state.
use Rattle.std.specs.Prelude.{ℕ, ◌+◌, nat_lt, Bool, true, false, ◌||◌, List, [], ◌∷◌, ◌++◌, fold, Option, Some, None}
use Rattle.std.specs.List.{list_any}
use Rattle.qfs_base.specs.declared.change.Change.{Change}
use Rattle.qfs_base.specs.declared.change.Change.TheVariants.{AddDirectory, TakeDirectory, AddFile, CloseFile, AbortFile, RemoveFile, MovePath, GrantSlot, FailGrant, GiveUp, ConfirmSlot, EmptySlot, GiveLease, EndLease, MarkOrdered, TakeCondemned, CondemnStray, ServerUp, ServerDown, ServerLeaves, ServerSleeps, ClockTicks, DropActor}
use Rattle.qfs_base.specs.declared.chunk.BlockId.{BlockId}
use Rattle.qfs_base.specs.declared.chunk.ChunkKey.{ChunkKey}
use Rattle.qfs_base.specs.declared.chunk.Copy.{Copy}
use Rattle.qfs_base.specs.declared.history.Entry.{Entry}
use Rattle.qfs_base.specs.declared.history.Entry.TheVariants as Wrote
use Rattle.qfs_base.specs.declared.image.CondemnedRow.{CondemnedRow}
use Rattle.qfs_base.specs.declared.image.Grant.{Grant}
use Rattle.qfs_base.specs.declared.image.MetaImage.{MetaImage}
use Rattle.qfs_base.specs.declared.image.SlotRecord.{SlotRecord}
use Rattle.qfs_base.specs.declared.image.SlotRow.{SlotRow}
use Rattle.qfs_base.specs.declared.image.TreeRow.{TreeRow}
use Rattle.qfs_base.specs.NameTree.{PathNames}
use Rattle.qfs_base.specs.Sizes.{LAST_U64}
use Rattle.qfs_model_meta.specs.Condemned.{condemn, condemn_any, unblock_all, mark_ordered, sweep, forget_if_risen, is_copy_of}
use Rattle.qfs_model_meta.specs.Counters.{risen}
use Rattle.qfs_model_meta.specs.Dropped.{add_dropped}
use Rattle.qfs_model_meta.specs.Leases.{give_lease, end_lease}
use Rattle.qfs_model_meta.specs.Servers.{server_at, change_server, server_up, server_down, server_leaving, server_asleep}
use Rattle.qfs_model_meta.specs.Slots.{slot_at, with_slot, change_slot, seal_file, forget_file, granted_copy, granted_slot, ungranted_slot, failed_slot, confirmed_slot, emptied_slot, same_copy}
use Rattle.qfs_model_meta.specs.TreeRows.{directory_row, file_row, add_row, take_path, take_file, close_file, move_path}

-- the state with this name tree, after this entry of the file history
unfoldable pub write_entry : Entry → List TreeRow → MetaImage → MetaImage
write_entry entry tree m = record m { tree = tree; history = m.history ++ entry ∷ [] }

-- a file of an actor's command gets the next number
unfoldable pub add_file : PathNames → ℕ → ℕ → ℕ → MetaImage → MetaImage
add_file path actor command len m =
    let row : TreeRow = file_row path m.next_file actor command len in
    write_entry (Wrote.Created m.next_file path) (add_row row m.tree) (record m { next_file = m.next_file + 1 })

-- the state with these slots
unfoldable pub with_slots : List SlotRow → MetaImage → MetaImage
with_slots slots m = record m { slots = slots }

-- a slot's record changes, if it has one
unfoldable pub change_record : BlockId → ℕ → (SlotRecord → SlotRecord) → MetaImage → MetaImage
change_record block slot change m = with_slots (change_slot block slot change m.slots) m

-- a slot gets a grant on a server, in the life that is known of it
unfoldable pub grant_slot : BlockId → ℕ → ℕ → ℕ → ℕ → MetaImage → MetaImage
grant_slot block slot server actor lease m =
    let life : ℕ = (server_at m.servers server).life in
    with_slots
    (with_slot block slot (granted_slot server life actor lease (slot_at m.slots block slot)) m.slots) m

-- a pending grant is condemned and gone
unfoldable pub give_up : BlockId → ℕ → MetaImage → Option Grant → MetaImage
give_up block slot m None = m
give_up block slot m (Some grant) =
    change_record block slot ungranted_slot (condemn block slot grant.copy m)

-- so is one whose server failed the put, which the slot remembers
unfoldable pub fail_grant : BlockId → ℕ → MetaImage → Option Grant → MetaImage
fail_grant block slot m None = m
fail_grant block slot m (Some grant) =
    change_record block slot (failed_slot grant.copy.server) (give_up block slot m (Some grant))

-- a pending grant becomes current, and the copy before it is condemned
unfoldable pub confirm_slot : BlockId → ℕ → MetaImage → SlotRecord → MetaImage
confirm_slot block slot m state =
    change_record block slot confirmed_slot (condemn_any block slot m state.current)

-- the current copy of a slot is condemned, and then its pending grant
unfoldable pub empty_slot : BlockId → ℕ → MetaImage → SlotRecord → MetaImage
empty_slot block slot m state =
    change_record block slot emptied_slot
    (condemn_any block slot (condemn_any block slot m state.current) (granted_copy state.grant))

-- a lease ends, and blocks no condemned copy any more
unfoldable pub finish_lease : ℕ → MetaImage → MetaImage
finish_lease lease m =
    record m { leases = end_lease lease m.leases; condemned = unblock_all lease m.condemned }

-- whether a copy is one of these
unfoldable pub is_that_copy : Copy → Option Copy → Bool
is_that_copy copy None = false
is_that_copy copy (Some other) = same_copy other copy

-- whether a copy is the current, the granted or a condemned one of its slot
unfoldable pub is_known_copy : BlockId → ℕ → Copy → SlotRecord → List CondemnedRow → Bool
is_known_copy block slot copy state condemned =
    is_that_copy copy state.current
    || is_that_copy copy (granted_copy state.grant)
    || list_any (is_copy_of block slot copy) condemned

-- a copy is condemned, unless it is known
unfoldable pub condemn_unknown : BlockId → ℕ → Copy → MetaImage → Bool → MetaImage
condemn_unknown block slot copy m true = m
condemn_unknown block slot copy m false = condemn block slot copy m

-- what a server was found to store is condemned, unless it is known
unfoldable pub condemn_stray : ℕ → ℕ → ChunkKey → MetaImage → MetaImage
condemn_stray server life key m =
    let copy : Copy = record { server = server; life = life; version = key.version } in
    condemn_unknown key.block key.slot copy m
    (is_known_copy key.block key.slot copy (slot_at m.slots key.block key.slot) m.condemned)

-- a server is up in this life; where that is a new one, the condemned copies on it are gone
unfoldable pub bring_up : ℕ → ℕ → MetaImage → MetaImage
bring_up server life m =
    record m {
      servers = change_server (server_up life) m.servers server;
      condemned = forget_if_risen server m.condemned (nat_lt (server_at m.servers server).life life);
    }

-- the state after a change
unfoldable pub apply : MetaImage → Change → MetaImage
apply m (AddDirectory path) = write_entry (Wrote.Mkdir path) (add_row (directory_row path) m.tree) m
apply m (TakeDirectory path) = write_entry (Wrote.Rmdir path) (take_path path m.tree) m
apply m (AddFile path actor command len) = add_file path actor command len m
apply m (CloseFile file actor command) =
    write_entry (Wrote.Closed file actor command) (close_file file m.tree) (with_slots (seal_file file m.slots) m)
apply m (AbortFile file) =
    write_entry (Wrote.Aborted file) (take_file file m.tree) (with_slots (forget_file file m.slots) m)
apply m (RemoveFile path file) =
    write_entry (Wrote.Removed path) (take_path path m.tree) (with_slots (forget_file file m.slots) m)
apply m (MovePath from to) = write_entry (Wrote.Renamed from to) (move_path from to m.tree) m
apply m (GrantSlot block slot server actor lease) = grant_slot block slot server actor lease m
apply m (FailGrant block slot) = fail_grant block slot m (slot_at m.slots block slot).grant
apply m (GiveUp block slot) = give_up block slot m (slot_at m.slots block slot).grant
apply m (ConfirmSlot block slot) = confirm_slot block slot m (slot_at m.slots block slot)
apply m (EmptySlot block slot) = empty_slot block slot m (slot_at m.slots block slot)
apply m (GiveLease actor file until) =
    record m { leases = give_lease m.next_lease actor file until m.leases; next_lease = m.next_lease + 1 }
apply m (EndLease lease) = finish_lease lease m
apply m (MarkOrdered number) = record m { condemned = mark_ordered number m.condemned }
apply m (TakeCondemned number) = record m { condemned = sweep number m.condemned }
apply m (CondemnStray server life key) = condemn_stray server life key m
apply m (ServerUp server life) = bring_up server life m
apply m (ServerDown server) = record m { servers = change_server server_down m.servers server }
apply m (ServerLeaves server) = record m { servers = change_server server_leaving m.servers server }
apply m (ServerSleeps server until) = record m { servers = change_server (server_asleep until) m.servers server }
apply m ClockTicks = record m { clock = risen LAST_U64 m.clock }
apply m (DropActor actor) = record m { dropped = add_dropped actor m.turn m.dropped }

-- the state after changes, in their order
unfoldable pub apply_all : List Change → MetaImage → MetaImage
apply_all changes m = fold apply m changes
