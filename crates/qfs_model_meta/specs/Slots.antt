-- The slots of blocks: the copy that is current, the grant that is pending, and which versions and
-- servers were tried. The table holds the slots that were ever granted, by file, index and slot.
use Rattle.std.specs.Prelude.{ℕ, ◌+◌, ◌==◌, Bool, ◌&&◌, List, [], ◌++◌, filter, flat_map, find, count_by, Option, Some, None, unwrap_or}
use Rattle.std.specs.Option.{option_map, option_to_list}
use Rattle.std.specs.declared.cmp.Ordering.{Ordering}
use Rattle.std.specs.Ordering.{nat_cmp, ordering_then}
use Rattle.qfs_base.specs.declared.chunk.BlockId.{BlockId}
use Rattle.qfs_base.specs.declared.chunk.Copy.{Copy}
use Rattle.qfs_base.specs.declared.image.Grant.{Grant}
use Rattle.qfs_base.specs.declared.image.SlotRecord.{SlotRecord}
use Rattle.qfs_base.specs.declared.image.SlotRow.{SlotRow}
use Rattle.qfs_base.specs.declared.request.SlotId.{SlotId}
use Rattle.qfs_base.specs.Key.{block_cmp}
use Rattle.qfs_base.specs.NumberSet.{with_member}
use Rattle.qfs_base.specs.Sizes.{LAST_U32}
use Rattle.qfs_base.specs.Table.{has_key, without, change_where, place}
use Rattle.qfs_model_meta.specs.Counters.{risen}

-- a slot that was never granted: versions start at 1
unfoldable pub never_granted : SlotRecord
never_granted = record { next = 1; current = None; grant = None; failed = [] }

-- whether two blocks, or two copies, are the same
unfoldable pub same_block : BlockId → BlockId → Bool
same_block a b = (a.file == b.file) && (a.index == b.index)

unfoldable pub same_copy : Copy → Copy → Bool
same_copy a b = (a.server == b.server) && (a.life == b.life) && (a.version == b.version)

-- a row's slot
unfoldable pub slot_id : SlotRow → SlotId
slot_id row = record { block = row.block; slot = row.slot }

-- the order of slots: by file, index and slot
abbrev pub slot_id_cmp : SlotId → SlotId → Ordering
slot_id_cmp a b = ordering_then (block_cmp a.block b.block) (nat_cmp a.slot b.slot)

unfoldable pub slot_cmp : SlotRow → SlotRow → Ordering
slot_cmp a b = ordering_then (block_cmp a.block b.block) (nat_cmp a.slot b.slot)

-- where a row stands to a slot, to a block's slots, and to those of a file
abbrev pub slot_order : SlotId → SlotRow → Ordering
slot_order id row = ordering_then (block_cmp id.block row.block) (nat_cmp id.slot row.slot)

abbrev pub block_order : BlockId → SlotRow → Ordering
block_order block row = block_cmp block row.block

abbrev pub file_order : ℕ → SlotRow → Ordering
file_order file row = nat_cmp file row.block.file

-- whether a row is that of a slot, of a block, or of a file
unfoldable pub is_slot : BlockId → ℕ → SlotRow → Bool
is_slot block slot row = has_key (slot_order (record { block = block; slot = slot })) row

unfoldable pub is_of_block : BlockId → SlotRow → Bool
is_of_block block row = has_key (block_order block) row

unfoldable pub is_of_file : ℕ → SlotRow → Bool
is_of_file file row = has_key (file_order file) row

-- what is known of a slot
unfoldable pub slot_at : List SlotRow → BlockId → ℕ → SlotRecord
slot_at slots block slot =
    unwrap_or (option_map (λ (row : SlotRow). row.state) (find (is_slot block slot) slots)) never_granted

-- the slots of a file
unfoldable pub slots_of : ℕ → List SlotRow → List SlotRow
slots_of file slots = filter (is_of_file file) slots

-- the copy that a pending grant allows
unfoldable pub granted_copy : Option Grant → Option Copy
granted_copy grant = option_map (λ (g : Grant). g.copy) grant

-- the copies that are granted, and those that are current or granted, among the slots of a block
unfoldable pub grants_of_block : BlockId → List SlotRow → List Copy
grants_of_block block slots =
    flat_map (λ (row : SlotRow). option_to_list (granted_copy row.state.grant)) (filter (is_of_block block) slots)

unfoldable pub copies_of_block : BlockId → List SlotRow → List Copy
copies_of_block block slots =
    flat_map
    (λ (row : SlotRow). option_to_list row.state.current ++ option_to_list (granted_copy row.state.grant))
    (filter (is_of_block block) slots)

-- a slot with a new grant: its version is the next one
unfoldable pub granted_slot : ℕ → ℕ → ℕ → ℕ → SlotRecord → SlotRecord
granted_slot server life actor lease slot =
    let copy : Copy = record { server = server; life = life; version = slot.next } in
    record slot {
      next = risen LAST_U32 slot.next;
      grant = Some (record { copy = copy; actor = actor; lease = lease });
    }

-- a slot whose pending grant is gone
unfoldable pub ungranted_slot : SlotRecord → SlotRecord
ungranted_slot slot = record slot { grant = None }

-- a slot one of whose servers failed a put
unfoldable pub failed_slot : ℕ → SlotRecord → SlotRecord
failed_slot server slot = record slot { failed = with_member slot.failed server }

-- a slot whose pending grant became current
unfoldable pub confirmed_slot : SlotRecord → SlotRecord
confirmed_slot slot = record slot { current = granted_copy slot.grant; grant = None }

-- a slot of a file that was closed: its grant is current, and no server counts as failed any more
unfoldable pub sealed_slot : SlotRecord → SlotRecord
sealed_slot slot = record slot { current = granted_copy slot.grant; grant = None; failed = [] }

-- a slot that has no copies any more
unfoldable pub emptied_slot : SlotRecord → SlotRecord
emptied_slot slot = record slot { current = None; grant = None }

-- the row of a slot after a change
unfoldable pub change_state : (SlotRecord → SlotRecord) → SlotRow → SlotRow
change_state change row = record row { state = change row.state }

-- the table with this record of a slot, which may be its first
unfoldable pub with_slot : BlockId → ℕ → SlotRecord → List SlotRow → List SlotRow
with_slot block slot state slots =
    place slot_cmp (record { block = block; slot = slot; state = state }) slots

-- the table after a slot's record changed, if it has one
unfoldable pub change_slot : BlockId → ℕ → (SlotRecord → SlotRecord) → List SlotRow → List SlotRow
change_slot block slot change slots = change_where (is_slot block slot) (change_state change) slots

-- the table with the pending grant of a slot left out, if it has one
unfoldable pub without_grant : BlockId → ℕ → List SlotRow → Option Grant → List SlotRow
without_grant block slot slots None = slots
without_grant block slot slots (Some grant) = change_slot block slot ungranted_slot slots

-- the table after all grants of a file became current
unfoldable pub seal_file : ℕ → List SlotRow → List SlotRow
seal_file file slots = change_where (is_of_file file) (change_state sealed_slot) slots

-- the table without the slots of a file
unfoldable pub forget_file : ℕ → List SlotRow → List SlotRow
forget_file file slots = without (is_of_file file) slots

-- how many current copies and grants stand on a server in a life
abbrev pub is_on : ℕ → ℕ → Copy → Bool
is_on server life copy = (copy.server == server) && (copy.life == life)

unfoldable pub count_on : ℕ → ℕ → List SlotRow → ℕ
count_on server life slots =
    count_by (is_on server life) (flat_map (λ (row : SlotRow). option_to_list row.state.current) slots)
    + count_by (is_on server life) (flat_map (λ (row : SlotRow). option_to_list (granted_copy row.state.grant)) slots)
