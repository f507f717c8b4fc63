-- The parts of a state fit together still where the slots of a file were sealed or went.
use Rattle.std.proofs.Common.{◌≡◌, ◌∙◌, ◌<◌, ap, sym, subst, refl, ℕ, List, not, fold, length}
use Rattle.qfs_base.specs.declared.image.DroppedActor.{DroppedActor}
use Rattle.qfs_base.specs.declared.image.Load.{Load}
use Rattle.qfs_base.specs.declared.image.MetaImage.{MetaImage}
use Rattle.qfs_base.specs.declared.image.ServerView.{ServerView}
use Rattle.qfs_base.specs.declared.image.SlotRow.{SlotRow}
use Rattle.qfs_base.specs.EachLaws.{each_filter}
use Rattle.qfs_base.specs.Sizes.{SLOTS}
use Rattle.qfs_blocks.specs.BlockTables.{BlockTables}
use Rattle.qfs_laws_tables.specs.EachRow.{each_change}
use Rattle.qfs_laws_tables.specs.InOrder.{change_rises, filter_rises}
use Rattle.qfs_lease.specs.LiveLeases.{LiveLeases}
use Rattle.qfs_model_meta.specs.Apply.{apply, with_slots, write_entry}
use Rattle.qfs_model_meta.specs.Grammar.{NamesServers}
use Rattle.qfs_model_meta.specs.Placing.{census}
use Rattle.qfs_model_meta.specs.Slots.{change_state, forget_file, granted_copy, is_of_file, seal_file}
use Rattle.qfs_model_meta.specs.Slots.{sealed_slot, slot_cmp, slots_of}
use Rattle.qfs_namespace.specs.Namespaces.{Namespace}
use Rattle.qfs_place.specs.ChangeLaws.{closed_census, forgotten_slots}
use Rattle.qfs_place.specs.Loads.{uncount_live, uncount_row}
use Rattle.qfs_state.specs.Held.{AreSlots, IsHeld, image_of}

forgotten_fit : (servers file : ℕ) (slots : List SlotRow) → AreSlots servers slots
    → AreSlots servers (forget_file file slots)
unfolding forget_file
forgotten_fit servers file slots are = record {
  in_order = filter_rises slot_cmp (λ row. not (is_of_file file row)) slots are.in_order;
  slot_numbers = each_filter _ (λ row. not (is_of_file file row)) slots are.slot_numbers;
  on_servers = each_filter _ (λ row. not (is_of_file file row)) slots are.on_servers;
}

sealed_names : (servers : ℕ) (row : SlotRow) → NamesServers servers row
    → NamesServers servers (change_state sealed_slot row)
unfolding change_state sealed_slot granted_copy
sealed_names servers row names =
    record { current = names.granted; granted = tt; failed = tt }

sealed_fit : (servers file : ℕ) (slots : List SlotRow) → AreSlots servers slots
    → AreSlots servers (seal_file file slots)
unfolding seal_file change_state slot_cmp
sealed_fit servers file slots are = record {
  in_order = change_rises slot_cmp (is_of_file file) (change_state sealed_slot) (λ a b. refl)
      (λ a b. refl) slots are.in_order;
  slot_numbers = each_change (λ (row : SlotRow). row.slot < SLOTS)
      (λ (row : SlotRow). row.slot < SLOTS) (is_of_file file) (change_state sealed_slot)
      (λ row _ low. low) (λ row _ low. low) slots are.slot_numbers;
  on_servers = each_change (NamesServers servers) (NamesServers servers) (is_of_file file)
      (change_state sealed_slot) (λ row _ names. sealed_names servers row names)
      (λ row _ names. names) slots are.on_servers;
}

module _ (servers : List ServerView) (before : BlockTables) (leases : LiveLeases)
    (dropped : List DroppedActor) (loads : List Load)
    (held : IsHeld servers before leases dropped loads) (file : ℕ) where
  -- other slots, which fit and whose copies are counted
  refitted : (slots : List SlotRow) (later : List Load) → AreSlots (length servers) slots
      → later ≡ census servers slots
      → IsHeld servers (record before { slots = slots }) leases dropped later
  refitted slots later fit counted = record {
    servers_fit = held.servers_fit;
    slots_fit = fit;
    next_lease = held.next_lease;
    below = held.below;
    dropped_in_order = held.dropped_in_order;
    counted = counted;
  }

  pub forgotten_held : (after : BlockTables) (later : List Load)
      → after ≡ record before { slots = forget_file file before.slots }
      → later ≡ fold (uncount_row servers) loads (slots_of file before.slots)
      → IsHeld servers after leases dropped later
  forgotten_held after later is uncounted =
      subst (λ blocks. IsHeld servers blocks leases dropped later) (sym is)
      (refitted (forget_file file before.slots) later
      (forgotten_fit (length servers) file before.slots held.slots_fit)
      (uncounted
      ∙ ap (λ loads. fold (uncount_row servers) loads (slots_of file before.slots)) held.counted
      ∙ sym (forgotten_slots servers file before.slots)))

  sealed_census : (m : MetaImage)
      → census m.servers (seal_file file m.slots)
      ≡ fold (λ loads (row : SlotRow). uncount_live m.servers row.state.current loads)
      (census m.servers m.slots) (slots_of file m.slots)
  unfolding apply write_entry with_slots
  sealed_census m = closed_census m file 0 0

  pub sealed_held : (names : Namespace) (after : BlockTables) (later : List Load)
      → after ≡ record before { slots = seal_file file before.slots }
      → later ≡ fold (λ loads (row : SlotRow). uncount_live servers row.state.current loads) loads
      (slots_of file before.slots)
      → IsHeld servers after leases dropped later
  sealed_held names after later is uncounted =
      subst (λ blocks. IsHeld servers blocks leases dropped later) (sym is)
      (refitted (seal_file file before.slots) later
      (sealed_fit (length servers) file before.slots held.slots_fit)
      (uncounted
      ∙ ap (λ loads. fold (λ loads (row : SlotRow). uncount_live servers row.state.current loads)
      loads (slots_of file before.slots)) held.counted
      ∙ sym (sealed_census (image_of 0 0 servers names before leases dropped))))
