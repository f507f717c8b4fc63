-- Slot records and condemned copies as the callers of `Blocks` see them, and what changes do to
-- them.
use Rattle.std.specs.Prelude.{ℕ, ◌<◌, ◌≤◌, ◌+◌, ◌-◌, Bool, true, false, ◌||◌, List, [], ◌∷◌, ◌++◌}
use Rattle.std.specs.Prelude.{Option, Some, None}
use Rattle.std.specs.List.{list_any}
use Rattle.qfs_base.specs.declared.chunk.BlockId.{BlockId}
use Rattle.qfs_base.specs.declared.chunk.Copy.{Copy}
use Rattle.qfs_base.specs.declared.image.CondemnedEntry.{CondemnedEntry}
use Rattle.qfs_base.specs.declared.image.Grant.{Grant}
use Rattle.qfs_base.specs.declared.image.ServerView.{ServerView}
use Rattle.qfs_base.specs.declared.image.SlotRecord.{SlotRecord}
use Rattle.qfs_base.specs.declared.image.SlotRow.{SlotRow}
use Rattle.qfs_base.specs.Sizes.{LAST_U64}
use Rattle.qfs_base.specs.Table.{Each, IsRising}
use Rattle.qfs_model_meta.specs.Apply.{is_that_copy}
use Rattle.qfs_model_meta.specs.Servers.{is_live}
use Rattle.qfs_model_meta.specs.Slots.{change_slot, confirmed_slot, emptied_slot, failed_slot}
use Rattle.qfs_model_meta.specs.Slots.{granted_copy, slot_at, ungranted_slot}
use Rattle.qfs_table.specs.Tables.{Contents}
use Rattle.qfs_blocks.specs.declared.index.CopyRow.{CopyRow}
use Rattle.qfs_blocks.specs.CopyIndex.{IsCopyIndex}
use Rattle.qfs_blocks.specs.Entries.{entry_cmp, is_entry_of, new_entry}

-- the slot records by slot, and how many more have room
pub record SlotRecords : Type 0 where
  pub slots : List SlotRow
  pub spare : ℕ

-- the condemned copies by number, the number that the next one gets, and how many more have room
pub record CondemnedEntries : Type 0 where
  pub entries : List CondemnedEntry
  pub next : ℕ
  pub spare : ℕ

-- the condemned copies rise by their numbers, which are below the next one, and the index has them
-- all, with room for as many more
pub record AreEntries (table : Contents CondemnedEntry) (copies : Contents CopyRow)
    (next : ℕ) : Type 0 where
  pub in_order : IsRising entry_cmp table.rows
  pub numbers : Each (λ (entry : CondemnedEntry). entry.condemned.number < next) table.rows
  pub index : IsCopyIndex copies.rows table.rows
  pub room : table.spare ≤ copies.spare
  pub last : next ≤ LAST_U64

-- both
pub record BlockTables : Type 0 where
  pub slots : List SlotRow
  pub condemned : List CondemnedEntry
  pub next : ℕ
  pub spare_slots : ℕ
  pub spare_condemned : ℕ

-- the tables with a copy put last on the list of condemned ones, if it is live
abbrev pub entry_listed : ℕ → BlockId → ℕ → Copy → BlockTables → Bool → BlockTables
entry_listed below block slot copy t false = t
entry_listed below block slot copy t true =
    record t {
      condemned = t.condemned ++ new_entry t.next block slot copy below ∷ [];
      next = t.next + 1;
      spare_condemned = t.spare_condemned - 1;
    }

-- the tables after a copy of a slot was condemned, if there is one
abbrev pub copy_condemned : List ServerView → ℕ → BlockId → ℕ → BlockTables → Option Copy
    → BlockTables
copy_condemned servers below block slot t None = t
copy_condemned servers below block slot t (Some copy) =
    entry_listed below block slot copy t (is_live servers copy)

-- a slot's record changes, if it has one
abbrev pub record_changed : BlockId → ℕ → (SlotRecord → SlotRecord) → BlockTables → BlockTables
record_changed block slot change t = record t { slots = change_slot block slot change t.slots }

-- a pending grant is condemned and gone
abbrev pub grant_given_up : List ServerView → ℕ → BlockId → ℕ → BlockTables → Option Grant
    → BlockTables
grant_given_up servers below block slot t None = t
grant_given_up servers below block slot t (Some grant) =
    record_changed block slot ungranted_slot
    (copy_condemned servers below block slot t (Some grant.copy))

-- so is one whose server failed the put, which the slot remembers
abbrev pub grant_failed : List ServerView → ℕ → BlockId → ℕ → BlockTables → Option Grant
    → BlockTables
grant_failed servers below block slot t None = t
grant_failed servers below block slot t (Some grant) =
    record_changed block slot (failed_slot grant.copy.server)
    (grant_given_up servers below block slot t (Some grant))

-- a pending grant becomes current, and the copy before it is condemned
abbrev pub grant_confirmed : List ServerView → ℕ → BlockId → ℕ → BlockTables → SlotRecord
    → BlockTables
grant_confirmed servers below block slot t state =
    record_changed block slot confirmed_slot
    (copy_condemned servers below block slot t state.current)

-- the current copy of a slot is condemned, and then its pending grant
abbrev pub slot_emptied : List ServerView → ℕ → BlockId → ℕ → BlockTables → SlotRecord → BlockTables
slot_emptied servers below block slot t state =
    record_changed block slot emptied_slot
    (copy_condemned servers below block slot
    (copy_condemned servers below block slot t state.current) (granted_copy state.grant))

-- whether a copy is the current, the granted or a condemned one of its slot
abbrev pub is_known : BlockId → ℕ → Copy → BlockTables → Bool
is_known block slot copy t =
    let state : SlotRecord = slot_at t.slots block slot in
    is_that_copy copy state.current || is_that_copy copy (granted_copy state.grant)
    || list_any (is_entry_of block slot copy) t.condemned

-- a copy that was found on a server is condemned, unless it is known
abbrev pub unknown_condemned : List ServerView → ℕ → BlockId → ℕ → Copy → BlockTables → Bool
    → BlockTables
unknown_condemned servers below block slot copy t true = t
unknown_condemned servers below block slot copy t false =
    copy_condemned servers below block slot t (Some copy)
