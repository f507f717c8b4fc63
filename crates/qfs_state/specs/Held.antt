-- The metaserver's state as the callers of `State` see it: what an image of it would say, and for how
-- many more rows there is room.
use Rattle.std.specs.Prelude.{◌≡◌, ◌≤◌, ◌<◌, ℕ, List, length}
use Rattle.qfs_base.specs.declared.image.CondemnedEntry.{CondemnedEntry}
use Rattle.qfs_base.specs.declared.image.DroppedActor.{DroppedActor}
use Rattle.qfs_base.specs.declared.image.Load.{Load}
use Rattle.qfs_base.specs.declared.image.MetaImage.{MetaImage}
use Rattle.qfs_base.specs.declared.image.ServerView.{ServerView}
use Rattle.qfs_base.specs.declared.image.SlotRow.{SlotRow}
use Rattle.qfs_base.specs.Sizes.{MOST_SERVERS, SLOTS}
use Rattle.qfs_base.specs.Table.{Each, IsRising}
use Rattle.qfs_blocks.specs.BlockTables.{BlockTables}
use Rattle.qfs_blocks.specs.Entries.{rows_of_entries}
use Rattle.qfs_blocks.specs.ImageLaws.{IsNextLease}
use Rattle.qfs_lease.specs.LiveLeases.{LiveLeases}
use Rattle.qfs_model_meta.specs.Dropped.{dropped_cmp}
use Rattle.qfs_model_meta.specs.Grammar.{NamesServers}
use Rattle.qfs_model_meta.specs.Placing.{census}
use Rattle.qfs_model_meta.specs.Slots.{slot_cmp}
use Rattle.qfs_namespace.specs.Namespaces.{Namespace}

-- for how many more rows there is room that was promised: directories and files, entries of the file
-- history, slot records, condemned copies, leases, and dropped actors
pub record Room : Type 0 where
  pub names : ℕ
  pub entries : ℕ
  pub slots : ℕ
  pub condemned : ℕ
  pub leases : ℕ
  pub dropped : ℕ

-- the state with its room
pub record Held : Type 0 where
  pub image : MetaImage
  pub room : Room

-- the image that the parts of a state say together
abbrev pub image_of : ℕ → ℕ → List ServerView → Namespace → BlockTables → LiveLeases
    → List DroppedActor → MetaImage
image_of turn clock servers names blocks leases dropped =
    record {
      turn = turn;
      clock = clock;
      next_file = names.next_file;
      next_lease = leases.next;
      next_condemned = blocks.next;
      servers = servers;
      tree = names.tree;
      slots = blocks.slots;
      leases = leases.leases;
      condemned = rows_of_entries leases.leases blocks.condemned;
      dropped = dropped;
      history = names.history;
    }

-- the room that they have together
abbrev pub room_of : Namespace → BlockTables → LiveLeases → ℕ → Room
room_of names blocks leases dropped =
    record {
      names = names.spare;
      entries = names.spare_entries;
      slots = blocks.spare_slots;
      condemned = blocks.spare_condemned;
      leases = leases.spare;
      dropped = dropped;
    }

-- there are 1 to 64 servers
pub record AreServers (servers : List ServerView) : Type 0 where
  pub some : 1 ≤ length servers
  pub few : length servers ≤ MOST_SERVERS

-- slot records in their order, whose slots are slots, and which name servers that are there
pub record AreSlots (servers : ℕ) (slots : List SlotRow) : Type 0 where
  pub in_order : IsRising slot_cmp slots
  pub slot_numbers : Each (λ (row : SlotRow). row.slot < SLOTS) slots
  pub on_servers : Each (NamesServers servers) slots

-- how the parts of a state fit together. `below`: a copy was condemned before the next lease is given
pub record IsHeld (servers : List ServerView) (blocks : BlockTables) (leases : LiveLeases)
    (dropped : List DroppedActor) (loads : List Load) : Type 0 where
  pub servers_fit : AreServers servers
  pub slots_fit : AreSlots (length servers) blocks.slots
  pub next_lease : IsNextLease leases.next leases.leases
  pub below : Each (λ (entry : CondemnedEntry). entry.below ≤ leases.next) blocks.condemned
  pub dropped_in_order : IsRising dropped_cmp dropped
  pub counted : loads ≡ census servers blocks.slots
