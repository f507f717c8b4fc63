-- What stays true of the metaserver's state, whatever is asked of it.
use Rattle.std.specs.Prelude.{ℕ, ◌<◌, ◌≤◌, ◌^◌, List, length, All, IfSome}
use Rattle.qfs_base.specs.declared.image.Grant.{Grant}
use Rattle.qfs_base.specs.declared.image.MetaImage.{MetaImage}
use Rattle.qfs_base.specs.declared.image.SlotRecord.{SlotRecord}
use Rattle.qfs_base.specs.declared.image.SlotRow.{SlotRow}
use Rattle.qfs_base.specs.NameTree.{row_cmp}
use Rattle.qfs_base.specs.Sizes.{MOST_SERVERS}
use Rattle.qfs_base.specs.Table.{IsRising}
use Rattle.qfs_model_meta.specs.Slots.{slot_cmp}
use Rattle.qfs_model_meta.specs.TreeRows.{row_path}

-- a number that a server may have
abbrev pub IsServerNumber : ℕ → Type 0
IsServerNumber number = (1 ≤ number) × (number ≤ MOST_SERVERS)

-- a slot's grant, if one is pending, is on a server
abbrev pub IsGrantPossible : SlotRecord → Type 0
IsGrantPossible state = IfSome state.grant (λ (grant : Grant). IsServerNumber grant.copy.server)

abbrev pub IsGrantedOnServer : SlotRow → Type 0
IsGrantedOnServer row = IsGrantPossible row.state

abbrev pub AreGrantedOnServers : List SlotRow → Type 0
AreGrantedOnServers slots = All IsGrantedOnServer slots

-- no counter has passed its type's last value, a place can name each entry of the history, there are
-- at most 64 servers, the tree and the slots are in their order without repeats, and grants are on
-- servers
pub record IsKept (m : MetaImage) : Type 0 where
  pub files : m.next_file < 2 ^ 32
  pub leases : m.next_lease < 2 ^ 64
  pub condemned : m.next_condemned < 2 ^ 64
  pub places : length m.history < 2 ^ 32
  pub servers : length m.servers ≤ MOST_SERVERS
  pub tree : IsRising (row_cmp row_path) m.tree
  pub slots : IsRising slot_cmp m.slots
  pub grants : AreGrantedOnServers m.slots
