-- Copies that are condemned one after another, and what giving a file up changes.
use Rattle.std.proofs.Common.{◌≡◌, ℕ, ◌+◌, ◌==◌, Bool, true, false, cond, not, List, [], ◌∷◌, ◌++◌, length, map, Option, Some, None, refl, sym, ap, ◌∙◌, append_assoc, length-append, arith}
use Rattle.std.specs.Bool.{then_some}
use Rattle.std.specs.List.{cons_option}
use Rattle.std.specs.Option.{option_to_list}
use Rattle.std.proofs.lemmas.List.{append-nil}
use Rattle.std.specs.Ordering.{nat_cmp, is_eq}
use Rattle.std.specs.declared.cmp.Ordering.TheVariants.{Less}
use Rattle.qfs_base.specs.declared.chunk.BlockId.{BlockId}
use Rattle.qfs_base.specs.declared.chunk.Copy.{Copy}
use Rattle.qfs_base.specs.declared.history.Entry.TheVariants as Wrote
use Rattle.qfs_base.specs.declared.image.Grant.{Grant}
use Rattle.qfs_base.specs.declared.image.Lease.{Lease}
use Rattle.qfs_base.specs.declared.image.MetaImage.{MetaImage}
use Rattle.qfs_base.specs.declared.image.SlotRecord.{SlotRecord}
use Rattle.qfs_base.specs.declared.image.SlotRow.{SlotRow}
use Rattle.qfs_base.specs.declared.request.SlotId.{SlotId}
use Rattle.qfs_base.specs.Table.{Each, IsRising, change_row, change_where}
use Rattle.qfs_model_meta.specs.Apply.{apply, apply_all, write_entry, with_slots, change_record, give_up}
use Rattle.qfs_base.specs.declared.change.Change.{Change}
use Rattle.qfs_base.specs.declared.change.Change.TheVariants.{GiveUp, AbortFile}
use Rattle.qfs_model_meta.specs.Condemned.{condemn, condemned_row, list_if_live}
use Rattle.qfs_model_meta.specs.PutRequests.{abort_changes}
use Rattle.qfs_model_meta.specs.Servers.{is_live}
use Rattle.qfs_model_meta.specs.Slots.{is_slot, is_of_file, slot_at, slot_cmp, slots_of, change_slot, change_state, forget_file, never_granted, ungranted_slot}
use Rattle.qfs_model_meta.specs.TreeRows.{take_file}
use Rattle.qfs_meta.specs.Condemning.{condemned_rows, condemning, live_granted, live_grants, aborting}
use Rattle.qfs_meta.specs.declared.condemning.SlotCopy.{SlotCopy}
use Rattle.qfs_meta.proofs.StepLaws.{last_change}
use Rattle.qfs_base.specs.EachLaws.{each_filter, each_weaker}
use Rattle.qfs_laws_tables.specs.EachRow.{each_both, each_passes}
use Rattle.qfs_laws_tables.specs.InOrder.{filter_rises}
use Rattle.qfs_laws_tables.specs.Keys.{less-not}
use Rattle.qfs_laws_slots.specs.Slots.{changed-other, is_slot-is, not_slot, of_file-is, rows-found}

-- ---- one after another

condemned_rows-append : (leases : List Lease) (number : ℕ) (xs ys : List SlotCopy) →
    condemned_rows leases number (xs ++ ys) ≡ condemned_rows leases number xs ++ condemned_rows leases (number + length xs) ys
condemned_rows-append leases number [] ys =
    let e : number ≡ number + 0 = omega arith in
    ap (λ n. condemned_rows leases n ys) e
condemned_rows-append leases number (it ∷ xs) ys =
    let e : number + 1 + length xs ≡ number + length (it ∷ xs) = omega arith in
    ap (λ rows. condemned_row number it.id.block it.id.slot it.copy leases ∷ rows)
    (condemned_rows-append leases (number + 1) xs ys ∙ ap (λ n. condemned_rows leases (number + 1) xs ++ condemned_rows leases n ys) e)

-- no copy condemned
condemning-none : (m : MetaImage) → condemning [] m ≡ m
condemning-none m =
    let next : m.next_condemned + 0 ≡ m.next_condemned = omega arith in
    λ i. record m { condemned = append-nil m.condemned i; next_condemned = next i }

-- copies condemned after others, with these slots in between and those at the end
condemning-more : (xs ys : List SlotCopy) (m : MetaImage) (between after : List SlotRow) →
    record (condemning ys (record (condemning xs m) { slots = between })) { slots = after }
    ≡ record (condemning (xs ++ ys) m) { slots = after }
condemning-more xs ys m between after =
    let rows = append_assoc m.condemned (condemned_rows m.leases m.next_condemned xs) (condemned_rows m.leases (m.next_condemned + length xs) ys)
    ∙ ap (λ rows. m.condemned ++ rows) (sym (condemned_rows-append m.leases m.next_condemned xs ys)) in
    let next : m.next_condemned + length xs + length ys ≡ m.next_condemned + length (xs ++ ys) = omega (arith, length-append xs ys) in
    λ i. record m { slots = after; condemned = rows i; next_condemned = next i }

-- ---- one grant

-- condemning a copy of a slot lists it where it is live
pub condemn-is : (id : SlotId) (grant : Grant) (m : MetaImage) → condemn id.block id.slot grant.copy m ≡ condemning (option_to_list (live_granted m.servers id (Some grant))) m
unfolding condemn list_if_live
condemn-is id grant m =
    elim (is_live m.servers grant.copy) as (λ b.
    list_if_live (condemned_row m.next_condemned id.block id.slot grant.copy m.leases) m b
    ≡ condemning (option_to_list (then_some b (record { id = id; copy = grant.copy }))) m) [
      | true ↦ refl
      | false ↦ sym (condemning-none m)
    ]

-- a slot's grant given up: it is condemned where it is live, and pending no more
give_up-is : (id : SlotId) (grant : Grant) (m : MetaImage) →
    give_up id.block id.slot m (Some grant)
    ≡ record (condemning (option_to_list (live_granted m.servers id (Some grant))) m) { slots = change_slot id.block id.slot ungranted_slot m.slots }
unfolding give_up change_record with_slots
give_up-is id grant m =
    ap (λ (n : MetaImage). record n { slots = change_slot id.block id.slot ungranted_slot n.slots }) (condemn-is id grant m)

-- ---- the grants of a file

-- a row under the key of another one is of its file
same_file : (file : ℕ) (row other : SlotRow) → is_of_file file row ≡ true → is_slot row.block row.slot other ≡ true → is_of_file file other ≡ true
same_file file row other of is =
    of_file-is file other ∙ ap (λ (block : BlockId). block.file == file) (is_slot-is row.block row.slot other is).0 ∙ sym (of_file-is file row) ∙ of

forget_at : (file : ℕ) (row other : SlotRow) (b : Bool) (xs ys : List SlotRow) → is_of_file file row ≡ true → (is_slot row.block row.slot other ≡ b) →
    forget_file file xs ≡ forget_file file ys →
    forget_file file (change_row (change_state ungranted_slot) other b ∷ xs) ≡ forget_file file (other ∷ ys)
unfolding forget_file is_of_file change_state
forget_at file row other true xs ys of is rest =
    let gone : is_eq (nat_cmp file other.block.file) ≡ true = same_file file row other of is in
    ap (λ b. cond (not b) (change_row (change_state ungranted_slot) other true ∷ forget_file file xs) (forget_file file xs)) gone
    ∙ rest
    ∙ sym (ap (λ b. cond (not b) (other ∷ forget_file file ys) (forget_file file ys)) gone)
forget_at file row other false xs ys of is rest = λ i. cond (not (is_eq (nat_cmp file other.block.file))) (other ∷ rest i) (rest i)

-- a change of a slot of a file leaves the slots of the others
forget_changed : (file : ℕ) (row : SlotRow) (slots : List SlotRow) → is_of_file file row ≡ true →
    forget_file file (change_slot row.block row.slot ungranted_slot slots) ≡ forget_file file slots
unfolding change_slot
forget_changed file row [] of = refl
forget_changed file row (other ∷ slots) of =
    forget_at file row other (is_slot row.block row.slot other) (change_where (is_slot row.block row.slot) (change_state ungranted_slot) slots) slots of refl (forget_changed file row slots of)

-- and leaves what is known of a slot above it
still_known : (slots : List SlotRow) (row later : SlotRow) → slot_cmp row later ≡ Less →
    slot_at (change_slot row.block row.slot ungranted_slot slots) later.block later.slot ≡ slot_at slots later.block later.slot
unfolding slot_cmp
still_known slots row later above =
    changed-other row.block later.block row.slot later.slot ungranted_slot slots
    (not_slot row (record { block = later.block; slot = later.slot; state = never_granted }) Less above less-not)

-- grants of slots of a file are given up one after another: the live ones are condemned, and the slots of other files
-- stay
record GivesUp (file : ℕ) (rows : List SlotRow) (m : MetaImage) : Type 0 where
  slots : List SlotRow
  others : forget_file file slots ≡ forget_file file m.slots
  is : apply_all (map (λ (row : SlotRow). GiveUp row.block row.slot) rows) m ≡ record (condemning (live_grants m.servers rows) m) { slots = slots }

listed_first : (o : Option SlotCopy) (xs : List SlotCopy) → option_to_list o ++ xs ≡ cons_option o xs
listed_first None xs = refl
listed_first (Some x) xs = refl

gives_up : (file : ℕ) (rows : List SlotRow) (m : MetaImage) → IsRising slot_cmp rows → Each (λ row. slot_at m.slots row.block row.slot ≡ row.state) rows →
    Each (λ row. is_of_file file row ≡ true) rows → GivesUp file rows m
unfolding apply_all apply give_up
gives_up file [] m rising found of = record { slots = m.slots; others = refl; is = sym (condemning-none m) }
gives_up file (row ∷ rows) m rising found of =
    let id : SlotId = record { block = row.block; slot = row.slot } in
    let changes : List Change = map (λ (row : SlotRow). GiveUp row.block row.slot) rows in
    let pending : (slot_at m.slots row.block row.slot).grant ≡ row.state.grant = ap (λ (state : SlotRecord). state.grant) found.0 in
    elim row.state.grant as (λ grant. row.state.grant ≡ grant → GivesUp file (row ∷ rows) m) [
      | None ↦ λ none.
          let rest = gives_up file rows m rising.1 found.1 of.1 in
          record {
            slots = rest.slots;
            others = rest.others;
            is = ap (λ grant. apply_all changes (give_up row.block row.slot m grant)) (pending ∙ none)
                ∙ rest.is
                ∙ (λ i. record (condemning (cons_option (live_granted m.servers id (sym none i)) (live_grants m.servers rows)) m) { slots = rest.slots });
          }
      | Some grant ↦ λ some.
          let between : List SlotRow = change_slot row.block row.slot ungranted_slot m.slots in
          let first : List SlotCopy = option_to_list (live_granted m.servers id (Some grant)) in
          let now : MetaImage = record (condemning first m) { slots = between } in
          let still = each_weaker _ _ (λ later both. still_known m.slots row later both.0 ∙ both.1) rows
          (each_both (λ later. slot_cmp row later ≡ Less) (λ later. slot_at m.slots later.block later.slot ≡ later.state) rows rising.0 found.1) in
          let rest = gives_up file rows now rising.1 still of.1 in
          record {
            slots = rest.slots;
            others = rest.others ∙ forget_changed file row m.slots of.0;
            is = ap (λ grant. apply_all changes (give_up row.block row.slot m grant)) (pending ∙ some)
                ∙ ap (apply_all changes) (give_up-is id grant m)
                ∙ rest.is
                ∙ condemning-more first (live_grants m.servers rows) m between rest.slots
                ∙ (λ i. record (condemning (listed_first (live_granted m.servers id (Some grant)) (live_grants m.servers rows) i) m) { slots = rest.slots })
                ∙ (λ i. record (condemning (cons_option (live_granted m.servers id (sym some i)) (live_grants m.servers rows)) m) { slots = rest.slots });
          }
    ] refl

-- ---- a file that is given up

pub abort-is : (file : ℕ) (m : MetaImage) → IsRising slot_cmp m.slots → apply_all (abort_changes file m.slots) m ≡ aborting file m
unfolding abort_changes apply_all apply write_entry with_slots slots_of
abort-is file m rising =
    let rows : List SlotRow = slots_of file m.slots in
    let done = gives_up file rows m (filter_rises slot_cmp (is_of_file file) m.slots rising) (each_filter _ (is_of_file file) m.slots (rows-found m.slots rising)) (each_passes (is_of_file file) m.slots) in
    last_change m (map (λ (row : SlotRow). GiveUp row.block row.slot) rows) (AbortFile file)
    ∙ ap (λ (n : MetaImage). apply n (AbortFile file)) done.is
    ∙ (λ i. record (condemning (live_grants m.servers rows) m) {
      slots = done.others i;
      tree = take_file file m.tree;
      history = m.history ++ Wrote.Aborted file ∷ [];
    })

-- ---- one copy

-- a copy that isn't live is forgotten
pub condemn-dead : (id : SlotId) (copy : Copy) (m : MetaImage) → is_live m.servers copy ≡ false → condemn id.block id.slot copy m ≡ m
unfolding condemn list_if_live
condemn-dead id copy m dead = ap (list_if_live (condemned_row m.next_condemned id.block id.slot copy m.leases) m) dead

-- a live one is listed
pub condemn-live : (id : SlotId) (copy : Copy) (m : MetaImage) → is_live m.servers copy ≡ true → condemn id.block id.slot copy m ≡ condemning (record { id = id; copy = copy } ∷ []) m
unfolding condemn list_if_live
condemn-live id copy m live = ap (list_if_live (condemned_row m.next_condemned id.block id.slot copy m.leases) m) live
