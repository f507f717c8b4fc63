-- The rules of an image as tests that compute.
use Rattle.std.specs.Prelude.{ℕ, ◌&&◌, ◌==◌, not, nat_le, nat_lt, nat_eq, Bool, true, false, List, [], ◌∷◌, length, Option, Some, None, is_some}
use Rattle.std.specs.List.{list_all, list_any}
use Rattle.std.specs.Ordering.{is_lt, nat_cmp}
use Rattle.std.specs.declared.cmp.Ordering.{Ordering}
use Rattle.qfs_base.specs.NameTree.{Standing, kind_at, parents_of, row_cmp}
use Rattle.qfs_base.specs.Sizes.{MOST_FILE_BYTES, MOST_SERVERS, SLOTS}
use Rattle.qfs_base.specs.declared.chunk.Copy.{Copy}
use Rattle.qfs_base.specs.declared.history.Entry.{Entry}
use Rattle.qfs_base.specs.declared.history.Entry.TheVariants as Wrote
use Rattle.qfs_base.specs.declared.image.CondemnedRow.{CondemnedRow}
use Rattle.qfs_base.specs.declared.image.DroppedActor.{DroppedActor}
use Rattle.qfs_base.specs.declared.image.Grant.{Grant}
use Rattle.qfs_base.specs.declared.image.Lease.{Lease}
use Rattle.qfs_base.specs.declared.image.MetaImage.{MetaImage}
use Rattle.qfs_base.specs.declared.image.SlotRow.{SlotRow}
use Rattle.qfs_base.specs.declared.image.TreeRow.{TreeRow}
use Rattle.qfs_base.specs.declared.lists.NameKind.{NameKind}
use Rattle.qfs_base.specs.declared.lists.NameKind.TheVariants as Is
use Rattle.qfs_model_meta.specs.Condemned.{condemned_cmp}
use Rattle.qfs_model_meta.specs.Counters.{counters_fit}
use Rattle.qfs_model_meta.specs.Dropped.{dropped_cmp}
use Rattle.qfs_model_meta.specs.Grammar.{files_in}
use Rattle.qfs_model_meta.specs.Leases.{lease_cmp, leases_on}
use Rattle.qfs_model_meta.specs.Slots.{granted_copy, slot_cmp}
use Rattle.qfs_model_meta.specs.TreeRows.{closed_file, file_stands, row_path, standing}

-- rows in order, without repeats; and numbers that differ
unfoldable pub are_rising : {X : Type 0} → (X → X → Ordering) → List X → Bool
are_rising order [] = true
are_rising order (row ∷ rows) = list_all (λ later. is_lt (order row later)) rows && are_rising order rows

unfoldable pub are_distinct : List ℕ → Bool
are_distinct [] = true
are_distinct (n ∷ ns) = not (list_any (nat_eq n) ns) && are_distinct ns

-- a test of what may be absent
unfoldable pub if_any : {X : Type 0} → (X → Bool) → Option X → Bool
if_any test None = true
if_any test (Some x) = test x

-- ---- the name tree

unfoldable pub is_directory : Option NameKind → Bool
is_directory None = false
is_directory (Some Is.Directory) = true
is_directory (Some Is.Unclosed) = false
is_directory (Some Is.Closed) = false

-- every directory that a row lies in is there
unfoldable pub has_parents : List Standing → TreeRow → Bool
has_parents tree row = list_all (λ parent. is_directory (kind_at tree parent)) (parents_of row.path)

-- a directory was made by no command, and has no length; a file was made by an actor's command
unfoldable pub is_plain : TreeRow → Bool
is_plain row = not row.closed && row.actor == 0 && row.command == 0 && row.len == 0

unfoldable pub has_maker : Bool → TreeRow → Bool
has_maker true row = is_plain row
has_maker false row = nat_le 1 row.actor

unfoldable pub is_row : ℕ → List Standing → TreeRow → Bool
is_row next_file tree row =
    nat_lt 0 (length row.path) && has_parents tree row && nat_le row.len MOST_FILE_BYTES
    && (nat_lt row.file next_file && has_maker (row.file == 0) row)

unfoldable pub is_tree : ℕ → List TreeRow → Bool
is_tree next_file tree =
    are_rising (row_cmp row_path) tree
    && list_all (is_row next_file (standing tree)) tree
    && are_distinct (files_in tree)

-- ---- slots

-- a number is that of one of so many servers
unfoldable pub is_server_of : ℕ → ℕ → Bool
is_server_of servers number = nat_le 1 number && nat_le number servers

unfoldable pub is_copy_on : ℕ → Copy → Bool
is_copy_on servers copy = is_server_of servers copy.server

unfoldable pub is_grant_under : ℕ → Grant → Bool
is_grant_under next_lease grant = nat_le 1 grant.actor && nat_lt grant.lease next_lease

-- a slot is one of a file of the tree, on servers that are there; only that of a closed file has a current copy
unfoldable pub is_slot_row : ℕ → ℕ → List TreeRow → SlotRow → Bool
is_slot_row servers next_lease tree row =
    nat_lt row.slot SLOTS && file_stands row.block.file tree
    && if_any (is_copy_on servers) row.state.current
    && if_any (is_copy_on servers) (granted_copy row.state.grant)
    && list_all (is_server_of servers) row.state.failed
    && are_rising nat_cmp row.state.failed
    && if_any (is_grant_under next_lease) row.state.grant
    && if_any (λ (copy : Copy). is_some (closed_file row.block.file tree)) row.state.current

unfoldable pub is_slot_table : ℕ → ℕ → List TreeRow → List SlotRow → Bool
is_slot_table servers next_lease tree slots =
    are_rising slot_cmp slots && list_all (is_slot_row servers next_lease tree) slots

-- ---- leases and condemned copies

unfoldable pub is_lease_row : ℕ → Lease → Bool
is_lease_row next_lease lease = nat_lt lease.lease next_lease && nat_le 1 lease.actor

unfoldable pub is_lease_list : ℕ → List Lease → Bool
is_lease_list next_lease leases = are_rising lease_cmp leases && list_all (is_lease_row next_lease) leases

-- blockers are the first of the live leases on the file: those below some number
unfoldable pub are_first : List ℕ → List ℕ → Bool
are_first [] leases = true
are_first (b ∷ blockers) [] = false
are_first (b ∷ blockers) (lease ∷ leases) = b == lease && are_first blockers leases

unfoldable pub is_condemned_row : ℕ → ℕ → List Lease → CondemnedRow → Bool
is_condemned_row servers next leases row =
    nat_lt row.condemned.number next && nat_lt row.condemned.slot SLOTS && is_copy_on servers row.condemned.copy
    && are_first row.blockers (leases_on row.condemned.block.file leases)

unfoldable pub is_condemned_list : ℕ → ℕ → List Lease → List CondemnedRow → Bool
is_condemned_list servers next leases rows =
    are_rising condemned_cmp rows && list_all (is_condemned_row servers next leases) rows

-- ---- the whole

unfoldable pub is_dropped_list : List DroppedActor → Bool
is_dropped_list dropped =
    are_rising dropped_cmp dropped && list_all (λ (d : DroppedActor). nat_le 1 d.actor) dropped

-- an entry that closed a file names an actor
unfoldable pub is_entry : Entry → Bool
is_entry (Wrote.Closed file actor command) = nat_le 1 actor
is_entry entry = true

unfoldable pub starts_from_one : MetaImage → Bool
starts_from_one m = nat_le 1 m.next_file && nat_le 1 m.next_lease && nat_le 1 m.next_condemned

unfoldable pub has_servers : MetaImage → Bool
has_servers m = nat_le 1 (length m.servers) && nat_le (length m.servers) MOST_SERVERS

-- whether an image spells a state, whose numbers are in their widths and whose paths are paths
unfoldable pub is_image : MetaImage → Bool
is_image m =
    has_servers m && starts_from_one m && counters_fit m
    && is_tree m.next_file m.tree
    && is_slot_table (length m.servers) m.next_lease m.tree m.slots
    && is_lease_list m.next_lease m.leases
    && is_condemned_list (length m.servers) m.next_condemned m.leases m.condemned
    && is_dropped_list m.dropped
    && list_all is_entry m.history
