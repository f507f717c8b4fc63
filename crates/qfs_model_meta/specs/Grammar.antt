-- When a state can be written as an image: the order of its lists, and how they fit together.
use Rattle.std.specs.Prelude.{ℕ, ◌≡◌, ◌≢◌, ◌<◌, ◌≤◌, false, nat_eq, nat_lt, List, [], length, map, filter, Some, IfSome, IsTrue, OnSome, is_some}
use Rattle.std.specs.List.{IsDistinct}
use Rattle.std.specs.Ordering.{nat_cmp}
use Rattle.qfs_base.specs.declared.chunk.Copy.{Copy}
use Rattle.qfs_base.specs.declared.history.Entry.{Entry}
use Rattle.qfs_base.specs.declared.history.Entry.TheVariants as Wrote
use Rattle.qfs_base.specs.declared.image.CondemnedRow.{CondemnedRow}
use Rattle.qfs_base.specs.declared.image.DroppedActor.{DroppedActor}
use Rattle.qfs_base.specs.declared.image.Grant.{Grant}
use Rattle.qfs_base.specs.declared.image.Lease.{Lease}
use Rattle.qfs_base.specs.declared.image.MetaImage.{MetaImage}
use Rattle.qfs_base.specs.declared.image.SlotRow.{SlotRow}
use Rattle.qfs_base.specs.declared.image.TreeRow.{TreeRow}
use Rattle.qfs_base.specs.declared.lists.NameKind.TheVariants as Is
use Rattle.qfs_base.specs.NameTree.{kind_at, parents_of, row_cmp}
use Rattle.qfs_base.specs.Path.{IsPath}
use Rattle.qfs_base.specs.Sizes.{SLOTS, MOST_FILE_BYTES, MOST_SERVERS, LAST_U16, LAST_U32}
use Rattle.qfs_base.specs.Table.{Each, IsRising}
use Rattle.qfs_model_meta.specs.Condemned.{condemned_cmp}
use Rattle.qfs_model_meta.specs.Counters.{counters_fit}
use Rattle.qfs_model_meta.specs.Dropped.{dropped_cmp}
use Rattle.qfs_model_meta.specs.Leases.{lease_cmp, leases_on}
use Rattle.qfs_model_meta.specs.Slots.{slot_cmp, granted_copy}
use Rattle.qfs_model_meta.specs.TreeRows.{standing, row_path, file_stands, closed_file}

-- a number is that of one of so many servers
abbrev pub IsServer : ℕ → ℕ → Type 0
IsServer servers number = (1 ≤ number) × (number ≤ servers)

-- a number is that of an actor
abbrev pub IsActor : ℕ → Type 0
IsActor number = (1 ≤ number) × (number ≤ LAST_U16)

-- a directory was made by no command, and has no length
abbrev pub IsPlain : TreeRow → Type 0
IsPlain row =
    row.file ≡ 0 → (row.closed ≡ false) × (row.actor ≡ 0) × (row.command ≡ 0) × (row.len ≡ 0)

-- a file was made by an actor's command
abbrev pub HasMaker : TreeRow → Type 0
HasMaker row = row.file ≢ 0 → IsActor row.actor × (row.command ≤ LAST_U16)

-- every directory that a row lies in is there
abbrev pub HasParents : List TreeRow → TreeRow → Type 0
HasParents tree row = Each (λ parent. kind_at (standing tree) parent ≡ Some Is.Directory) (parents_of row.path)

-- the numbers of the files of a tree
unfoldable pub files_in : List TreeRow → List ℕ
files_in tree = filter (nat_lt 0) (map (λ (row : TreeRow). row.file) tree)

-- a name tree, whose files have numbers below the next one
pub record IsTree (next_file : ℕ) (tree : List TreeRow) : Type 0 where
  pub in_order : IsRising (row_cmp row_path) tree
  pub paths : Each (λ (row : TreeRow). IsPath row.path) tree
  pub no_root : Each (λ (row : TreeRow). row.path ≢ []) tree
  pub in_directories : Each (HasParents tree) tree
  pub plain_directories : Each IsPlain tree
  pub file_numbers : Each (λ file. file < next_file) (files_in tree)
  pub each_file_once : IsDistinct nat_eq (files_in tree)
  pub lengths : Each (λ (row : TreeRow). row.len ≤ MOST_FILE_BYTES) tree
  pub makers : Each HasMaker tree

-- the servers that a slot names are there
pub record NamesServers (servers : ℕ) (row : SlotRow) : Type 0 where
  pub current : IfSome row.state.current (λ (copy : Copy). IsServer servers copy.server)
  pub granted : IfSome (granted_copy row.state.grant) (λ (copy : Copy). IsServer servers copy.server)
  pub failed : Each (IsServer servers) row.state.failed

-- a grant is an actor's, under a lease that was given: 0, below each of them, for a put
pub record IsGrant (next_lease : ℕ) (grant : Grant) : Type 0 where
  pub actor : IsActor grant.actor
  pub lease : grant.lease < next_lease

-- only a slot of a closed file has a current copy
abbrev pub IsCurrentOfClosed : List TreeRow → SlotRow → Type 0
IsCurrentOfClosed tree row = OnSome row.state.current (IsTrue (is_some (closed_file row.block.file tree)))

-- a table of slots of the files of a tree
pub record IsSlotTable (servers next_lease : ℕ) (tree : List TreeRow) (slots : List SlotRow) : Type 0 where
  pub in_order : IsRising slot_cmp slots
  pub slot_numbers : Each (λ (row : SlotRow). row.slot < SLOTS) slots
  pub of_files : Each (λ (row : SlotRow). IsTrue (file_stands row.block.file tree)) slots
  pub current_of_closed : Each (IsCurrentOfClosed tree) slots
  pub on_servers : Each (NamesServers servers) slots
  pub grants : Each (λ (row : SlotRow). IfSome row.state.grant (IsGrant next_lease)) slots
  pub failed_in_order : Each (λ (row : SlotRow). IsRising nat_cmp row.state.failed) slots

-- leases, whose numbers are below the next one
pub record IsLeaseList (next_lease : ℕ) (leases : List Lease) : Type 0 where
  pub in_order : IsRising lease_cmp leases
  pub numbers : Each (λ (lease : Lease). lease.lease < next_lease) leases
  pub actors : Each (λ (lease : Lease). IsActor lease.actor) leases

-- the blockers of a condemned copy are the live leases on its file below some number
abbrev pub HasBlockers : List Lease → CondemnedRow → Type 0
HasBlockers leases row =
    (bound : ℕ) × (row.blockers ≡ filter (λ lease. nat_lt lease bound) (leases_on row.condemned.block.file leases))

-- condemned copies, whose numbers are below the next one
pub record IsCondemnedList (servers next : ℕ) (leases : List Lease) (rows : List CondemnedRow) : Type 0 where
  pub in_order : IsRising condemned_cmp rows
  pub numbers : Each (λ (row : CondemnedRow). row.condemned.number < next) rows
  pub slot_numbers : Each (λ (row : CondemnedRow). row.condemned.slot < SLOTS) rows
  pub on_servers : Each (λ (row : CondemnedRow). IsServer servers row.condemned.copy.server) rows
  pub blockers : Each (HasBlockers leases) rows

-- an entry of the file history that an image spells: its paths are paths, and its numbers are in their widths
abbrev pub IsEntry : Entry → Type 0
IsEntry (Wrote.Mkdir path) = IsPath path
IsEntry (Wrote.Rmdir path) = IsPath path
IsEntry (Wrote.Created file path) = (file ≤ LAST_U32) × IsPath path
IsEntry (Wrote.Closed file actor command) = (file ≤ LAST_U32) × IsActor actor × (command ≤ LAST_U16)
IsEntry (Wrote.Aborted file) = file ≤ LAST_U32
IsEntry (Wrote.Removed path) = IsPath path
IsEntry (Wrote.Renamed from to) = IsPath from × IsPath to

-- the actors that were dropped
pub record IsDroppedList (dropped : List DroppedActor) : Type 0 where
  pub in_order : IsRising dropped_cmp dropped
  pub actors : Each (λ (d : DroppedActor). IsActor d.actor) dropped

-- a state whose lists fit together, whatever its counters are: so it is between the changes of a request
pub record FitsImage (m : MetaImage) : Type 0 where
  pub some_server : 1 ≤ length m.servers
  pub few_servers : length m.servers ≤ MOST_SERVERS
  pub first_file : 1 ≤ m.next_file
  pub first_lease : 1 ≤ m.next_lease
  pub first_condemned : 1 ≤ m.next_condemned
  pub tree : IsTree m.next_file m.tree
  pub slots : IsSlotTable (length m.servers) m.next_lease m.tree m.slots
  pub leases : IsLeaseList m.next_lease m.leases
  pub condemned : IsCondemnedList (length m.servers) m.next_condemned m.leases m.condemned
  pub dropped : IsDroppedList m.dropped
  pub history : Each IsEntry m.history

-- a state that an image spells
pub record IsImage (m : MetaImage) : Type 0 where
  pub fits : FitsImage m
  pub counters : IsTrue (counters_fit m)
