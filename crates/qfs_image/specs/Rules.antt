-- The rules of an image as the program tests them: only those that a value which was read may break, neighbours in place of
-- all pairs, and look-ups by number.
use Rattle.std.specs.Prelude.{ℕ, ◌-◌, ◌&&◌, ◌||◌, ◌==◌, nat_le, nat_lt, Bool, true, false, List, [], ◌∷◌, length, take, Option, Some, None}
use Rattle.std.specs.List.{list_all}
use Rattle.std.specs.Ordering.{is_lt, nat_cmp}
use Rattle.qfs_base.specs.KeyMap.{has_key, value_at}
use Rattle.qfs_base.specs.NameTree.{PathNames, is_within, row_cmp}
use Rattle.qfs_base.specs.Sizes.{MOST_FILE_BYTES}
use Rattle.qfs_base.specs.declared.chunk.Copy.{Copy}
use Rattle.qfs_base.specs.declared.image.CondemnedRow.{CondemnedRow}
use Rattle.qfs_base.specs.declared.image.DroppedActor.{DroppedActor}
use Rattle.qfs_base.specs.declared.image.Grant.{Grant}
use Rattle.qfs_base.specs.declared.image.Lease.{Lease}
use Rattle.qfs_base.specs.declared.image.MetaImage.{MetaImage}
use Rattle.qfs_base.specs.declared.image.SlotRow.{SlotRow}
use Rattle.qfs_base.specs.declared.image.TreeRow.{TreeRow}
use Rattle.qfs_model_disks.specs.Tests.{has_maker, has_servers, if_any, starts_from_one}
use Rattle.qfs_model_meta.specs.Slots.{slot_cmp}
use Rattle.qfs_model_meta.specs.TreeRows.{row_path}
use Rattle.qfs_image.specs.Files.{Blocking, Files, begin_leases, is_closed_in, with_files, with_leases}

-- ---- neighbours

-- each row may stand right before the next
unfoldable pub follow_from : {X : Type 0} → (X → X → Bool) → X → List X → Bool
follow_from before row [] = true
follow_from before row (next ∷ rows) = before row next && follow_from before next rows

unfoldable pub follow : {X : Type 0} → (X → X → Bool) → List X → Bool
follow before [] = true
follow before (row ∷ rows) = follow_from before row rows

abbrev pub lease_before : Lease → Lease → Bool
lease_before a b = nat_lt a.lease b.lease

abbrev pub condemned_before : CondemnedRow → CondemnedRow → Bool
condemned_before a b = nat_lt a.condemned.number b.condemned.number

abbrev pub dropped_before : DroppedActor → DroppedActor → Bool
dropped_before a b = nat_lt a.actor b.actor

abbrev pub slot_before : SlotRow → SlotRow → Bool
slot_before a b = is_lt (slot_cmp a b)

-- ---- the name tree

-- the directory that a path lies in
abbrev pub directory_of : PathNames → PathNames
directory_of path = take (length path - 1) path

-- a row's directory is that of the row before, or one above that, or stands there itself
unfoldable pub is_near : TreeRow → TreeRow → Bool
is_near last row =
    is_within (directory_of row.path) last.path
    && (nat_lt (length row.path - 1) (length last.path) || (last.file == 0))

abbrev pub tree_before : TreeRow → TreeRow → Bool
tree_before a b = is_lt (row_cmp row_path a b) && is_near a b

-- the first row lies in the root
unfoldable pub begins_at_top : List TreeRow → Bool
begins_at_top [] = true
begins_at_top (row ∷ rows) = nat_le (length row.path) 1

unfoldable pub bears_tree_row : ℕ → TreeRow → Bool
bears_tree_row next_file row =
    nat_lt 0 (length row.path) && nat_le row.len MOST_FILE_BYTES && nat_lt row.file next_file
    && has_maker (row.file == 0) row

unfoldable pub bears_tree : ℕ → List TreeRow → Bool
bears_tree next_file tree =
    begins_at_top tree && follow tree_before tree && list_all (bears_tree_row next_file) tree

-- ---- slots

-- a copy on one of so many servers, and only of a closed file
unfoldable pub is_current_of : ℕ → Bool → Copy → Bool
is_current_of servers closed copy = closed && nat_le copy.server servers

unfoldable pub is_grant_below : ℕ → ℕ → Grant → Bool
is_grant_below servers next_lease grant = nat_le grant.copy.server servers && nat_lt grant.lease next_lease

abbrev pub on_servers : ℕ → List ℕ → Bool
on_servers servers failed = list_all (λ server. nat_le server servers) failed

unfoldable pub bears_slot : ℕ → ℕ → Files → SlotRow → Bool
bears_slot servers next_lease files row =
    has_key nat_cmp files row.block.file
    && if_any (is_current_of servers (is_closed_in (value_at nat_cmp files row.block.file))) row.state.current
    && if_any (is_grant_below servers next_lease) row.state.grant
    && on_servers servers row.state.failed

unfoldable pub bears_slots : ℕ → ℕ → Option Files → List SlotRow → Bool
bears_slots servers next_lease None slots = false
bears_slots servers next_lease (Some files) slots =
    follow slot_before slots && list_all (bears_slot servers next_lease files) slots

-- ---- leases and condemned copies

unfoldable pub bears_leases : ℕ → List Lease → Bool
bears_leases next_lease leases =
    follow lease_before leases && list_all (λ (lease : Lease). nat_lt lease.lease next_lease) leases

unfoldable pub bears_condemned_row : ℕ → ℕ → Blocking → CondemnedRow → Bool
bears_condemned_row servers next blocking row =
    nat_lt row.condemned.number next && nat_le row.condemned.copy.server servers
    && begin_leases blocking row.condemned.block.file row.blockers

unfoldable pub bears_condemned : ℕ → ℕ → List Lease → List CondemnedRow → Bool
bears_condemned servers next leases rows =
    follow condemned_before rows && list_all (bears_condemned_row servers next (with_leases [] leases)) rows

-- ---- the whole

-- what is tested without memory
unfoldable pub keeps_alone : MetaImage → Bool
keeps_alone m =
    has_servers m && starts_from_one m && bears_tree m.next_file m.tree && bears_leases m.next_lease m.leases
    && follow dropped_before m.dropped

unfoldable pub keeps_rules : MetaImage → Bool
keeps_rules m =
    keeps_alone m && bears_slots (length m.servers) m.next_lease (with_files [] m.tree) m.slots
    && bears_condemned (length m.servers) m.next_condemned m.leases m.condemned
