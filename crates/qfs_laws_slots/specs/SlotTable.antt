-- The table of slots is one of the files of the tree: every change keeps it. Cited by the laws of
-- the tree and of the metaserver.
use Rattle.qfs_base.specs.Table.{Each, IsRising, without}
use Rattle.qfs_base.specs.declared.change.Change.{Change}
use Rattle.qfs_base.specs.declared.change.Change.TheVariants.{ConfirmSlot, EmptySlot, FailGrant}
use Rattle.qfs_base.specs.declared.change.Change.TheVariants.{GiveUp}
use Rattle.qfs_base.specs.declared.chunk.BlockId.{BlockId}
use Rattle.qfs_base.specs.declared.chunk.Copy.{Copy}
use Rattle.qfs_base.specs.declared.image.Grant.{Grant}
use Rattle.qfs_base.specs.declared.image.MetaImage.{MetaImage}
use Rattle.qfs_base.specs.declared.image.SlotRecord.{SlotRecord}
use Rattle.qfs_base.specs.declared.image.SlotRow.{SlotRow}
use Rattle.qfs_base.specs.declared.image.TreeRow.{TreeRow}
use Rattle.qfs_model_meta.specs.Apply.{apply, change_record, confirm_slot, empty_slot, fail_grant}
use Rattle.qfs_model_meta.specs.Apply.{give_up, grant_slot, with_slots}
use Rattle.qfs_model_meta.specs.Condemned.{condemn_any}
use Rattle.qfs_model_meta.specs.Grammar.{IsCurrentOfClosed, IsGrant, IsServer, IsSlotTable}
use Rattle.qfs_model_meta.specs.Grammar.{NamesServers}
use Rattle.qfs_model_meta.specs.Past.{Past}
use Rattle.qfs_model_meta.specs.Slots.{change_slot, change_state, confirmed_slot, emptied_slot}
use Rattle.qfs_model_meta.specs.Slots.{failed_slot, forget_file, granted_copy, granted_slot}
use Rattle.qfs_model_meta.specs.Slots.{is_of_file, is_slot, never_granted, seal_file, sealed_slot}
use Rattle.qfs_model_meta.specs.Slots.{slot_at, slot_cmp, ungranted_slot, with_slot}
use Rattle.qfs_model_meta.specs.TreeRows.{closed_file, file_stands}
use Rattle.std.proofs.Common.{List, None, Option, Some, ap, arith, false, length, not, refl, subst}
use Rattle.std.proofs.Common.{sym, true, ℕ, ◌<◌, ◌==◌, ◌∙◌, ◌≡◌, ◌≤◌}
use Rattle.std.proofs.lemmas.Bool.{eqb-true, not-true, true≢false}
use Rattle.std.specs.Option.{option_to_list}
use Rattle.std.specs.Ordering.{nat_cmp}
use Rattle.std.specs.Prelude.{IfSome, IsTrue, OnSome, is_some}
use Rattle.qfs_laws_slots.specs.Changes.{MayGrant, MayMake}
use Rattle.qfs_laws_slots.specs.Losing.{IsLosing, condemned-slots}
use Rattle.qfs_laws_slots.specs.Slots.{Bare, is_slot-is, of_file-is, slot_cmp_total, slot_has}
use Rattle.qfs_base.specs.EachLaws.{each_filter, each_weaker}
use Rattle.qfs_laws_tables.specs.EachRow.{each_both, each_change, each_passes, each_place}
use Rattle.qfs_laws_tables.specs.InOrder.{change_rises, each_inserted, filter_rises, inserted_rises}
use Rattle.qfs_laws_tables.specs.InOrder.{place_rises}

-- ---- what a row has

-- a record of a slot of a file: only a closed file has current copies, and the servers that it
-- names are there
pub record StateFits (servers next : ℕ) (tree : List TreeRow) (file : ℕ) (state : SlotRecord) : Type
    0 where
  pub current : Each (λ (copy : Copy). IsServer servers copy.server × IsTrue
      (is_some (closed_file file tree))) (option_to_list state.current)
  pub pending : Each (λ (copy : Copy). IsServer servers copy.server)
      (option_to_list (granted_copy state.grant))
  pub grant : Each (IsGrant next) (option_to_list state.grant)
  pub failed : Each (IsServer servers) state.failed
  pub rising : IsRising nat_cmp state.failed

pub record RowFits (servers next : ℕ) (tree : List TreeRow) (row : SlotRow) : Type 0 where
  pub small : row.slot < 9
  pub of_file : IsTrue (file_stands row.block.file tree)
  pub state : StateFits servers next tree row.block.file row.state

pub record HasTable (servers next : ℕ) (tree : List TreeRow) (slots : List SlotRow) : Type 0 where
  pub in_order : IsRising slot_cmp slots
  pub rows : Each (RowFits servers next tree) slots

if-each : {X : Type 0} (P : X → Type 0) (o : Option X) → IfSome o P → Each P (option_to_list o)
if-each P None h = tt
if-each P (Some c) h = (h, tt)

each-if : {X : Type 0} (P : X → Type 0) (o : Option X) → Each P (option_to_list o) → IfSome o P
each-if P None h = tt
each-if P (Some c) h = h.0

on-each : (P : Type 0) (o : Option Copy) → OnSome o P → Each (λ (_ : Copy). P) (option_to_list o)
on-each P None h = tt
on-each P (Some c) h = (h, tt)

each-on : (P : Type 0) (o : Option Copy) → Each (λ (_ : Copy). P) (option_to_list o) → OnSome o P
each-on P None h = tt
each-on P (Some c) h = h.0

pub table-of : (servers next : ℕ) (tree : List TreeRow) (slots : List SlotRow)
    → IsSlotTable servers next tree slots → HasTable servers next tree slots
table-of servers next tree slots h = record {
  in_order = h.in_order;
  rows = each_weaker _ _
      (λ row f. record {
        small = f.0.0;
        of_file = f.0.1;
        state = record {
          current = each_both (λ (copy : Copy). IsServer servers copy.server)
              (λ _. IsTrue (is_some (closed_file row.block.file tree)))
              (option_to_list row.state.current) (if-each _ _ f.1.1.0.current) (on-each _ _ f.1.0);
          pending = if-each _ _ f.1.1.0.granted;
          grant = if-each _ _ f.1.1.1.0;
          failed = f.1.1.0.failed;
          rising = f.1.1.1.1;
        };
      })
      slots
      (each_both (λ (row : SlotRow). (row.slot < 9) × IsTrue (file_stands row.block.file tree))
      (λ (row : SlotRow). IsCurrentOfClosed tree row
      × (NamesServers servers row × (IfSome row.state.grant (IsGrant next) × IsRising nat_cmp
      row.state.failed))) slots
      (each_both (λ (row : SlotRow). row.slot < 9)
      (λ (row : SlotRow). IsTrue (file_stands row.block.file tree)) slots h.slot_numbers h.of_files)
      (each_both (IsCurrentOfClosed tree)
      (λ (row : SlotRow). NamesServers servers row
      × (IfSome row.state.grant (IsGrant next) × IsRising nat_cmp row.state.failed)) slots
      h.current_of_closed
      (each_both (NamesServers servers)
      (λ (row : SlotRow). IfSome row.state.grant (IsGrant next) × IsRising nat_cmp row.state.failed)
      slots h.on_servers
      (each_both (λ (row : SlotRow). IfSome row.state.grant (IsGrant next))
      (λ (row : SlotRow). IsRising nat_cmp row.state.failed) slots h.grants
      h.failed_in_order))));
}

pub of-table : (servers next : ℕ) (tree : List TreeRow) (slots : List SlotRow)
    → HasTable servers next tree slots → IsSlotTable servers next tree slots
of-table servers next tree slots h = record {
  in_order = h.in_order;
  slot_numbers = each_weaker (RowFits servers next tree) (λ (row : SlotRow). row.slot < 9)
      (λ row f. f.small) slots h.rows;
  of_files = each_weaker (RowFits servers next tree)
      (λ (row : SlotRow). IsTrue (file_stands row.block.file tree)) (λ row f. f.of_file) slots
      h.rows;
  current_of_closed = each_weaker (RowFits servers next tree) (IsCurrentOfClosed tree)
      (λ row f. each-on _ row.state.current
      (each_weaker _ _ (λ c p. p.1) (option_to_list row.state.current) f.state.current)) slots
      h.rows;
  on_servers = each_weaker (RowFits servers next tree) (NamesServers servers)
      (λ row f. record {
        current = each-if _ row.state.current
            (each_weaker _ _ (λ c p. p.0) (option_to_list row.state.current) f.state.current);
        granted =
            each-if _ (granted_copy row.state.grant) f.state.pending;
        failed = f.state.failed;
      }) slots
      h.rows;
  grants = each_weaker (RowFits servers next tree)
      (λ (row : SlotRow). IfSome row.state.grant (IsGrant next))
      (λ row f. each-if _ row.state.grant f.state.grant) slots h.rows;
  failed_in_order = each_weaker (RowFits servers next tree)
      (λ (row : SlotRow). IsRising nat_cmp row.state.failed) (λ row f. f.state.rising) slots h.rows;
}

-- what is known of a slot
never-fits : (servers next : ℕ) (tree : List TreeRow) (file : ℕ)
    → StateFits servers next tree file never_granted
unfolding never_granted granted_copy
never-fits servers next tree file =
    record { current = tt; pending = tt; grant = tt; failed = tt; rising = tt }

pub slot-fits : (servers next : ℕ) (tree : List TreeRow) (slots : List SlotRow) (block : BlockId)
    (slot : ℕ)
    → HasTable servers next tree slots
    → StateFits servers next tree block.file (slot_at slots block slot)
slot-fits servers next tree slots block slot h =
    slot_has (StateFits servers next tree block.file) slots block slot
    (never-fits servers next tree block.file)
    (each_weaker (RowFits servers next tree) _
    (λ row f b _. subst (λ (k : BlockId). StateFits servers next tree k.file row.state) b f.state)
    slots h.rows)

-- a slot that has a copy is one of nine
pub slot-small : (servers next : ℕ) (tree : List TreeRow) (slots : List SlotRow) (block : BlockId)
    (slot : ℕ) (found : SlotRecord → Option Copy)
    → found never_granted ≡ None → (copy : Copy) → HasTable servers next tree slots
    → found (slot_at slots block slot) ≡ Some copy → slot < 9
slot-small servers next tree slots block slot found none copy h at =
    slot_has (λ state. found state ≡ Some copy → slot < 9) slots block slot
    (λ e. absurd (let f : Some copy ≡ None = sym e ∙ none in cc))
    (each_weaker (RowFits servers next tree) _ (λ row f _ s _. subst (λ k. k < 9) s f.small) slots
    h.rows) at

-- ---- changes of one slot

-- a change of a record that fits
abbrev pub KeepsFit : ℕ → ℕ → List TreeRow → BlockId → (SlotRecord → SlotRecord) → Type 0
KeepsFit servers next tree block change =
    (state : SlotRecord) → StateFits servers next tree block.file state → StateFits servers next
    tree block.file (change state)

pub table-changed : (servers next : ℕ) (tree : List TreeRow) (block : BlockId) (slot : ℕ)
    (change : SlotRecord → SlotRecord) (slots : List SlotRow)
    → KeepsFit servers next tree block change
    → HasTable servers next tree slots → HasTable servers next tree
    (change_slot block slot change slots)
unfolding change_slot change_state slot_cmp
table-changed servers next tree block slot change slots fits h = record {
  in_order = change_rises slot_cmp (is_slot block slot) (change_state change) (λ a b. refl)
      (λ a b. refl) slots h.in_order;
  rows = each_change (RowFits servers next tree) _ (is_slot block slot) (change_state change)
      (λ row is f. let k = is_slot-is block slot row is in record {
        small = f.small;
        of_file = f.of_file;
        state = subst
            (λ (k : BlockId). StateFits servers next tree k.file (change row.state)) (sym k.0)
            (fits row.state (subst (λ (k : BlockId). StateFits servers next tree k.file row.state)
            k.0
            f.state));
      })
      (λ row _ f. f) slots h.rows;
}

ungranted-fits : (servers next : ℕ) (tree : List TreeRow) (block : BlockId)
    → KeepsFit servers next tree block ungranted_slot
unfolding ungranted_slot granted_copy
ungranted-fits servers next tree block state f =
    record { current = f.current; pending = tt; grant = tt; failed = f.failed; rising = f.rising }

failed-fits : (servers next : ℕ) (tree : List TreeRow) (block : BlockId) (server : ℕ)
    → IsServer servers server → KeepsFit servers next tree block (failed_slot server)
unfolding failed_slot
failed-fits servers next tree block server is state f =
    record {
      current = f.current;
      pending = f.pending;
      grant = f.grant;
      failed = each_inserted
          (IsServer servers) state.failed server is f.failed;
      rising = inserted_rises state.failed server
          f.rising;
    }

confirmed-fits : (servers next : ℕ) (tree : List TreeRow) (block : BlockId)
    → IsTrue (is_some (closed_file block.file tree))
    → KeepsFit servers next tree block confirmed_slot
unfolding confirmed_slot granted_copy
confirmed-fits servers next tree block closed state f =
    record {
      current = each_weaker _ _ (λ c is. (is, closed))
          (option_to_list (granted_copy state.grant)) f.pending;
      pending = tt;
      grant = tt;
      failed =
          f.failed;
      rising = f.rising;
    }

emptied-fits : (servers next : ℕ) (tree : List TreeRow) (block : BlockId)
    → KeepsFit servers next tree block emptied_slot
unfolding emptied_slot granted_copy
emptied-fits servers next tree block state f =
    record { current = tt; pending = tt; grant = tt; failed = f.failed; rising = f.rising }

given_up-table : (servers next : ℕ) (tree : List TreeRow) (block : BlockId) (slot : ℕ)
    (m : MetaImage) (found : Option Grant)
    → HasTable servers next tree m.slots
    → HasTable servers next tree (give_up block slot m found).slots
unfolding give_up change_record with_slots condemn_any
given_up-table servers next tree block slot m None h = h
given_up-table servers next tree block slot m (Some grant) h =
    table-changed servers next tree block slot ungranted_slot _
    (ungranted-fits servers next tree block)
    (subst (HasTable servers next tree) (sym (condemned-slots block slot m (Some grant.copy))) h)

failed-table : (servers next : ℕ) (tree : List TreeRow) (block : BlockId) (slot : ℕ) (m : MetaImage)
    (found : Option Grant)
    → (slot_at m.slots block slot).grant ≡ found → HasTable servers next tree m.slots
    → HasTable servers next tree (fail_grant block slot m found).slots
unfolding fail_grant change_record with_slots granted_copy
failed-table servers next tree block slot m None is h = h
failed-table servers next tree block slot m (Some grant) is h =
    let pending : Each (λ (copy : Copy). IsServer servers copy.server)
    (option_to_list (granted_copy (Some grant))) = subst
    (λ g. Each (λ (copy : Copy). IsServer servers copy.server)
    (option_to_list (granted_copy g))) is
    (slot-fits servers next tree m.slots block slot h).pending in
    table-changed servers next tree block slot (failed_slot grant.copy.server) _
    (failed-fits servers next tree block grant.copy.server pending.0)
    (given_up-table servers next tree block slot m (Some grant) h)

pub table-losing : (past : Past) (m : MetaImage) (change : Change) → IsLosing change
    → MayMake past m change → HasTable (length m.servers) m.next_lease m.tree m.slots
    → HasTable (length m.servers) m.next_lease m.tree (apply m change).slots
unfolding apply confirm_slot empty_slot change_record with_slots
table-losing past m (FailGrant block slot) is may h =
    failed-table (length m.servers) m.next_lease m.tree block slot m _ refl h
table-losing past m (GiveUp block slot) is may h =
    given_up-table (length m.servers) m.next_lease m.tree block slot m _ h
table-losing past m (ConfirmSlot block slot) is may h =
    table-changed (length m.servers) m.next_lease m.tree block slot confirmed_slot _
    (confirmed-fits (length m.servers) m.next_lease m.tree block may)
    (subst (HasTable (length m.servers) m.next_lease m.tree)
    (sym (condemned-slots block slot m (slot_at m.slots block slot).current)) h)
table-losing past m (EmptySlot block slot) is may h =
    table-changed (length m.servers) m.next_lease m.tree block slot emptied_slot _
    (emptied-fits (length m.servers) m.next_lease m.tree block)
    (subst (HasTable (length m.servers) m.next_lease m.tree)
    (sym (condemned-slots block slot (condemn_any block slot m (slot_at m.slots block slot).current)
    (granted_copy (slot_at m.slots block slot).grant) ∙ condemned-slots block slot m
    (slot_at m.slots block slot).current)) h)
table-losing past m _ is may h = absurd is

pub table-granted : (block : BlockId) (slot server actor lease : ℕ) (m : MetaImage)
    → MayGrant m block slot server actor lease
    → HasTable (length m.servers) m.next_lease m.tree m.slots
    → HasTable (length m.servers) m.next_lease m.tree
    (grant_slot block slot server actor lease m).slots
unfolding grant_slot with_slots with_slot granted_slot granted_copy
table-granted block slot server actor lease m may h =
    let old = slot-fits (length m.servers) m.next_lease m.tree m.slots block slot h in
    record {
      in_order = place_rises slot_cmp_total _ m.slots h.in_order;
      rows = each_place (RowFits (length m.servers) m.next_lease m.tree) slot_cmp _ m.slots
          (record {
            small = may.slot_number;
            of_file = may.stands;
            state = record {
              current = old.current;
              pending = (may.server_number, tt);
              grant =
                  (record { actor = may.is_actor; lease = may.lease_given }, tt);
              failed = old.failed;
              rising = old.rising;
            };
          }) h.rows;
    }

-- ---- the tree changes

-- files that stood still stand, and closed ones are closed
abbrev pub Onward : List TreeRow → List TreeRow → ℕ → Type 0
Onward tree more file =
    (IsTrue (file_stands file tree) → IsTrue (file_stands file more))
    × (IsTrue (is_some (closed_file file tree)) → IsTrue (is_some (closed_file file more)))

onward-fits : (servers next : ℕ) (tree more : List TreeRow) (row : SlotRow)
    → Onward tree more row.block.file → RowFits servers next tree row
    → RowFits servers next more row
onward-fits servers next tree more row on f = record {
  small = f.small;
  of_file = on.0 f.of_file;
  state = record {
    current = each_weaker _ _ (λ c p. (p.0, on.1 p.1))
        (option_to_list row.state.current) f.state.current;
    pending = f.state.pending;
    grant =
        f.state.grant;
    failed = f.state.failed;
    rising = f.state.rising;
  };
}

pub table-onward : (servers next : ℕ) (tree more : List TreeRow) (slots : List SlotRow)
    → ((file : ℕ) → Onward tree more file) → HasTable servers next tree slots
    → HasTable servers next more slots
table-onward servers next tree more slots on h =
    record {
      in_order = h.in_order;
      rows = each_weaker (RowFits servers next tree)
          (RowFits servers next more)
          (λ row. onward-fits servers next tree more row (on row.block.file))
          slots h.rows;
    }

-- more leases may be given
pub table-later : (servers next more : ℕ) (tree : List TreeRow) (slots : List SlotRow) → next ≤ more
    → HasTable servers next tree slots → HasTable servers more tree slots
table-later servers next more tree slots less h = record {
  in_order = h.in_order;
  rows = each_weaker (RowFits servers next tree) (RowFits servers more tree)
      (λ row f. record {
        small = f.small;
        of_file = f.of_file;
        state = record {
          current = f.state.current;
          pending = f.state.pending;
          grant = each_weaker (IsGrant next) (IsGrant more)
              (λ g is. record { actor = is.actor; lease = later _ is.lease })
              (option_to_list row.state.grant) f.state.grant;
          failed = f.state.failed;
          rising = f.state.rising;
        };
      }) slots h.rows;
}
  where
    later : (lease : ℕ) → lease < next → lease < more
    later lease l = omega arith

pub table-sealed : (servers next file : ℕ) (tree more : List TreeRow) (slots : List SlotRow)
    → ((file : ℕ) → Onward tree more file) → IsTrue (is_some (closed_file file more))
    → HasTable servers next tree slots → HasTable servers next more (seal_file file slots)
unfolding seal_file change_state slot_cmp sealed_slot granted_copy
table-sealed servers next file tree more slots on closed h = record {
  in_order = change_rises slot_cmp (is_of_file file) (change_state sealed_slot) (λ a b. refl)
      (λ a b. refl) slots h.in_order;
  rows =
      each_change (RowFits servers next tree) (RowFits servers next more) (is_of_file file)
      (change_state sealed_slot)
      (λ row is f. record {
        small = f.small;
        of_file = (on row.block.file).0 f.of_file;
        state = record {
          current = each_weaker _ _
              (λ c s. (
                s,
                subst (λ k. IsTrue (is_some (closed_file k more)))
                    (sym (eqb-true row.block.file file (sym (of_file-is file row) ∙ is))) closed,
              ))
              (option_to_list (granted_copy row.state.grant)) f.state.pending;
          pending = tt;
          grant =
              tt;
          failed = tt;
          rising = tt;
        };
      })
      (λ row _ f. onward-fits servers next tree more row (on row.block.file) f) slots h.rows;
}

pub table-forgotten : (servers next file : ℕ) (tree more : List TreeRow) (slots : List SlotRow)
    → ((other : ℕ) → (other == file) ≡ false → Onward tree more other)
    → HasTable servers next tree slots → HasTable servers next more (forget_file file slots)
unfolding forget_file
table-forgotten servers next file tree more slots on h = record {
  in_order = filter_rises slot_cmp (λ (row : SlotRow). not (is_of_file file row)) slots h.in_order;
  rows =
      each_weaker (λ (row : SlotRow). (not (is_of_file file row) ≡ true) × RowFits servers next tree
      row) (RowFits servers next more)
      (λ row b. onward-fits servers next tree more row
      (on row.block.file (sym (of_file-is file row) ∙ not-true _ b.0)) b.1)
      (without (is_of_file file) slots)
      (each_both _ (RowFits servers next tree) (without (is_of_file file) slots)
      (each_passes (λ (row : SlotRow). not (is_of_file file row)) slots)
      (each_filter (RowFits servers next tree) (λ (row : SlotRow). not (is_of_file file row))
      slots h.rows));
}

-- a file that isn't closed has no current copies
pub bare-of : (m : MetaImage) (file : ℕ) → HasTable (length m.servers) m.next_lease m.tree m.slots
    → is_some (closed_file file m.tree) ≡ false → Bare m file
bare-of m file h still_open block slot own =
    none _ (slot-fits (length m.servers) m.next_lease m.tree m.slots block slot h).current
  where
    none : (o : Option Copy)
        → Each (λ (copy : Copy). IsServer (length m.servers) copy.server × IsTrue
        (is_some (closed_file block.file m.tree))) (option_to_list o)
        → o ≡ None
    none None each = refl
    none (Some copy) each =
        absurd (true≢false (sym each.0.1 ∙ ap (λ f. is_some (closed_file f m.tree)) own
        ∙ still_open))
