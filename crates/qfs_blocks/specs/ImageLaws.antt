-- What the changes of the tables are in the metaserver's state: where its slots and condemned
-- copies are those of the tables, each change of the tables is the definition's change of the state.
use Rattle.std.proofs.Common.{◌≡◌, ◌∙◌, ◌<◌, ◌+◌, ap, refl, arith, ℕ, nat_lt, Bool}
use Rattle.std.proofs.Common.{true, false, not, ◌==◌, ◌&&◌, cond, List, [], ◌∷◌, ◌++◌, map}
use Rattle.std.proofs.Common.{filter, Option, Some, None}
use Rattle.std.proofs.lemmas.Bool.Decides.{nat_tests}
use Rattle.qfs_base.specs.declared.chunk.BlockId.{BlockId}
use Rattle.qfs_base.specs.declared.chunk.Copy.{Copy}
use Rattle.qfs_base.specs.declared.image.CondemnedEntry.{CondemnedEntry}
use Rattle.qfs_base.specs.declared.image.CondemnedRow.{CondemnedRow}
use Rattle.qfs_base.specs.declared.image.Grant.{Grant}
use Rattle.qfs_base.specs.declared.image.Lease.{Lease}
use Rattle.qfs_base.specs.declared.image.MetaImage.{MetaImage}
use Rattle.qfs_base.specs.declared.image.SlotRecord.{SlotRecord}
use Rattle.qfs_base.specs.Table.{Each}
use Rattle.qfs_laws_tables.specs.EachRow.{each_of_all}
use Rattle.qfs_laws_tables.specs.Placed.{map-changed, map-filter}
use Rattle.qfs_model_meta.specs.Apply.{confirm_slot, empty_slot, fail_grant, give_up, change_record}
use Rattle.qfs_model_meta.specs.Apply.{with_slots}
use Rattle.qfs_model_meta.specs.Condemned.{condemn, condemn_any, condemned_row, is_numbered}
use Rattle.qfs_model_meta.specs.Condemned.{list_if_live, mark_ordered, sweep}
use Rattle.qfs_model_meta.specs.Leases.{leases_on}
use Rattle.qfs_model_meta.specs.Servers.{is_live}
use Rattle.qfs_model_meta.specs.Slots.{confirmed_slot, emptied_slot, failed_slot, granted_copy}
use Rattle.qfs_model_meta.specs.Slots.{ungranted_slot}
use Rattle.qfs_blocks.specs.BlockTables.{BlockTables, copy_condemned, entry_listed, grant_confirmed}
use Rattle.qfs_blocks.specs.BlockTables.{grant_failed, grant_given_up, record_changed, slot_emptied}
use Rattle.qfs_blocks.specs.Entries.{is_entry, is_swept, mark_entry, new_entry, ordered_entry}
use Rattle.qfs_blocks.specs.Entries.{row_of_entry, rows_of_entries, sweep_entry}

-- the state whose slots and condemned copies are those of the tables
abbrev pub with_blocks : BlockTables → MetaImage → MetaImage
with_blocks t m =
    record m {
      slots = t.slots;
      condemned = rows_of_entries m.leases t.condemned;
      next_condemned = t.next;
    }

-- the next lease gets a number above those of all that are live
abbrev pub IsNextLease : ℕ → List Lease → Type 0
IsNextLease next leases = Each (λ (lease : Lease). lease.lease < next) leases

rows_of_push : (leases : List Lease) (entries : List CondemnedEntry) (new : CondemnedEntry)
    → rows_of_entries leases (entries ++ new ∷ [])
    ≡ rows_of_entries leases entries ++ row_of_entry leases new ∷ []
rows_of_push leases [] new = refl
rows_of_push leases (entry ∷ entries) new =
    ap (λ rows. row_of_entry leases entry ∷ rows) (rows_of_push leases entries new)

-- all live leases on its file block a copy that is condemned now
all_block : (next file : ℕ) (leases : List Lease) → IsNextLease next leases
    → filter (λ lease. nat_lt lease next) (leases_on file leases) ≡ leases_on file leases
unfolding leases_on
all_block next file [] each = refl
all_block next file (lease ∷ leases) each =
    let rest = all_block next file leases each.1 in
    let low : lease.lease < next = each.0 in
    let on = λ (l : Lease). l.file == file in
    let within : nat_lt lease.lease next ≡ true = grind (arith, nat_tests) in
    elim (lease.file == file) as (λ b. filter (λ n. nat_lt n next)
    (map (λ (l : Lease). l.lease) (cond b (lease ∷ filter on leases) (filter on leases)))
    ≡ map (λ (l : Lease). l.lease) (cond b (lease ∷ filter on leases) (filter on leases))) [
      | true ↦ ap (λ b. cond b
          (lease.lease ∷ filter (λ n. nat_lt n next)
          (map (λ (l : Lease). l.lease) (filter on leases)))
          (filter (λ n. nat_lt n next) (map (λ (l : Lease). l.lease) (filter on leases)))) within
          ∙ ap (λ ns. lease.lease ∷ ns) rest
      | false ↦ rest
    ]

module _ (m : MetaImage) (next : ℕ) (above : IsNextLease next m.leases) (block : BlockId)
    (slot : ℕ) where
  new_row : (number : ℕ) (copy : Copy)
      → row_of_entry m.leases (new_entry number block slot copy next)
      ≡ condemned_row number block slot copy m.leases
  unfolding condemned_row
  new_row number copy =
      let blockers = all_block next block.file m.leases above in
      λ i. record {
        condemned = record { number = number; block = block; slot = slot; copy = copy };
        ordered = false;
        blockers = blockers i;
      }

  listed_is : (t : BlockTables) (copy : Copy) (live : Bool)
      → with_blocks (entry_listed next block slot copy t live) m
      ≡ list_if_live (condemned_row t.next block slot copy m.leases) (with_blocks t m) live
  unfolding list_if_live
  listed_is t copy false = refl
  listed_is t copy true =
      let rows = rows_of_push m.leases t.condemned (new_entry t.next block slot copy next)
      ∙ ap (λ row. rows_of_entries m.leases t.condemned ++ row ∷ []) (new_row t.next copy) in
      λ i. record m { slots = t.slots; condemned = rows i; next_condemned = t.next + 1 }

  pub condemned_is : (t : BlockTables) (found : Option Copy)
      → with_blocks (copy_condemned m.servers next block slot t found) m
      ≡ condemn_any block slot (with_blocks t m) found
  unfolding condemn_any condemn
  condemned_is t None = refl
  condemned_is t (Some copy) = listed_is t copy (is_live m.servers copy)

  changed_is : (change : SlotRecord → SlotRecord) (t : BlockTables)
      → with_blocks (record_changed block slot change t) m
      ≡ change_record block slot change (with_blocks t m)
  unfolding change_record with_slots
  changed_is change t = refl

  pub given_up_is : (t : BlockTables) (grant : Option Grant)
      → with_blocks (grant_given_up m.servers next block slot t grant) m
      ≡ give_up block slot (with_blocks t m) grant
  unfolding give_up condemn_any
  given_up_is t None = refl
  given_up_is t (Some grant) =
      changed_is ungranted_slot (copy_condemned m.servers next block slot t (Some grant.copy))
      ∙ ap (change_record block slot ungranted_slot) (condemned_is t (Some grant.copy))

  pub failed_is : (t : BlockTables) (grant : Option Grant)
      → with_blocks (grant_failed m.servers next block slot t grant) m
      ≡ fail_grant block slot (with_blocks t m) grant
  unfolding fail_grant
  failed_is t None = refl
  failed_is t (Some grant) =
      changed_is (failed_slot grant.copy.server)
      (grant_given_up m.servers next block slot t (Some grant))
      ∙ ap (change_record block slot (failed_slot grant.copy.server)) (given_up_is t (Some grant))

  pub confirmed_is : (t : BlockTables) (state : SlotRecord)
      → with_blocks (grant_confirmed m.servers next block slot t state) m
      ≡ confirm_slot block slot (with_blocks t m) state
  unfolding confirm_slot
  confirmed_is t state =
      changed_is confirmed_slot (copy_condemned m.servers next block slot t state.current)
      ∙ ap (change_record block slot confirmed_slot) (condemned_is t state.current)

  pub emptied_is : (t : BlockTables) (state : SlotRecord)
      → with_blocks (slot_emptied m.servers next block slot t state) m
      ≡ empty_slot block slot (with_blocks t m) state
  unfolding empty_slot
  emptied_is t state =
      let once = copy_condemned m.servers next block slot t state.current in
      changed_is emptied_slot
      (copy_condemned m.servers next block slot once (granted_copy state.grant))
      ∙ ap (change_record block slot emptied_slot) (condemned_is once (granted_copy state.grant)
      ∙ ap (λ m. condemn_any block slot m (granted_copy state.grant))
      (condemned_is t state.current))

-- a copy is marked, and swept
pub marked_is : (number : ℕ) (leases : List Lease) (entries : List CondemnedEntry)
    → rows_of_entries leases (mark_entry number entries)
    ≡ mark_ordered number (rows_of_entries leases entries)
unfolding mark_ordered is_numbered
marked_is number leases entries =
    map-changed (row_of_entry leases) (is_entry number) (is_numbered number) ordered_entry
    (λ (row : CondemnedRow). record row { ordered = true }) entries
    (each_of_all _ (λ entry. (refl, λ _. refl)) entries)

pub swept_is : (number : ℕ) (leases : List Lease) (entries : List CondemnedEntry)
    → rows_of_entries leases (sweep_entry number entries)
    ≡ sweep number (rows_of_entries leases entries)
unfolding sweep is_numbered
swept_is number leases entries =
    map-filter (row_of_entry leases) (λ entry. not (is_swept number entry))
    (λ (row : CondemnedRow). not (is_numbered number row && row.ordered)) entries
    (each_of_all _ (λ entry. refl) entries)
