-- Changes of a slot's record that give it no copy. Cited by the laws of the metaserver.
use Rattle.qfs_base.specs.Table.{Each}
use Rattle.qfs_base.specs.declared.chunk.BlockId.{BlockId}
use Rattle.qfs_base.specs.declared.chunk.Copy.{Copy}
use Rattle.qfs_base.specs.declared.image.SlotRecord.{SlotRecord}
use Rattle.qfs_base.specs.declared.image.SlotRow.{SlotRow}
use Rattle.qfs_model_meta.specs.Slots.{change_slot, confirmed_slot, emptied_slot, failed_slot}
use Rattle.qfs_model_meta.specs.Slots.{granted_copy, never_granted, sealed_slot, slot_at}
use Rattle.qfs_model_meta.specs.Slots.{ungranted_slot}
use Rattle.std.proofs.Common.{List, arith, refl, ℕ, ◌+◌, ◌≡◌, ◌≤◌}
use Rattle.std.specs.Option.{option_to_list}
use Rattle.qfs_laws_slots.specs.Slots.{slot-cases}
use Rattle.qfs_laws_tables.specs.Sums.{total}

abbrev pub current_in : List SlotRow → BlockId → ℕ → List Copy
current_in slots block slot = option_to_list (slot_at slots block slot).current

abbrev pub pending_in : List SlotRow → BlockId → ℕ → List Copy
pending_in slots block slot = option_to_list (granted_copy (slot_at slots block slot).grant)

-- a change of a record that keeps the next version, and gives the slot no copy
pub record Loses (change : SlotRecord → SlotRecord) : Type 1 where
  pub next : (state : SlotRecord) → (change state).next ≡ state.next
  pub current : (P : Copy → Type 0) (state : SlotRecord) → Each P (option_to_list state.current)
      → Each P (option_to_list (granted_copy state.grant))
      → Each P (option_to_list (change state).current)
  pub pending : (P : Copy → Type 0) (state : SlotRecord) → Each P (option_to_list state.current)
      → Each P (option_to_list (granted_copy state.grant))
      → Each P (option_to_list (granted_copy (change state).grant))
  pub fewer : (w : Copy → ℕ) (state : SlotRecord)
      → total w (option_to_list (change state).current) + total w
      (option_to_list (granted_copy (change state).grant)) ≤ total w
      (option_to_list state.current) + total w (option_to_list (granted_copy state.grant))

pub loses-current : (P : BlockId → ℕ → Copy → Type 0) (change : SlotRecord → SlotRecord)
    → Loses change → (block other : BlockId) (slot number : ℕ) (slots : List SlotRow)
    → Each (P other number) (current_in slots other number) → Each (P other number)
    (pending_in slots other number)
    → Each (P other number) (current_in (change_slot block slot change slots) other number)
unfolding never_granted
loses-current P change loses block other slot number slots c g =
    slot-cases (λ state. Each (P other number) (option_to_list state.current)) block other slot
    number change slots
    (λ _. tt) (λ _ _. loses.current (P other number) _ c g) (λ _. c)

pub loses-pending : (P : BlockId → ℕ → Copy → Type 0) (change : SlotRecord → SlotRecord)
    → Loses change → (block other : BlockId) (slot number : ℕ) (slots : List SlotRow)
    → Each (P other number) (current_in slots other number) → Each (P other number)
    (pending_in slots other number)
    → Each (P other number) (pending_in (change_slot block slot change slots) other number)
unfolding never_granted granted_copy
loses-pending P change loses block other slot number slots c g =
    slot-cases (λ state. Each (P other number) (option_to_list (granted_copy state.grant))) block
    other slot number change slots
    (λ _. tt) (λ _ _. loses.pending (P other number) _ c g) (λ _. g)

-- the changes of a record
pub ungranted-loses : Loses ungranted_slot
unfolding ungranted_slot granted_copy
ungranted-loses =
    record {
      next = λ _. refl;
      current = λ P state c g. c;
      pending = λ P state c g. tt;
      fewer =
          λ w state. omega arith;
    }

pub failed-loses : (server : ℕ) → Loses (failed_slot server)
unfolding failed_slot
failed-loses server =
    record {
      next = λ _. refl;
      current = λ P state c g. c;
      pending = λ P state c g. g;
      fewer =
          λ w state. omega arith;
    }

pub confirmed-loses : Loses confirmed_slot
unfolding confirmed_slot granted_copy
confirmed-loses =
    record {
      next = λ _. refl;
      current = λ P state c g. g;
      pending = λ P state c g. tt;
      fewer =
          λ w state. omega arith;
    }

pub emptied-loses : Loses emptied_slot
unfolding emptied_slot granted_copy
emptied-loses =
    record {
      next = λ _. refl;
      current = λ P state c g. tt;
      pending = λ P state c g. tt;
      fewer =
          λ w state. omega arith;
    }

-- a file that is sealed: its grants are as many as they were
pub sealed-loses : Loses sealed_slot
unfolding sealed_slot granted_copy
sealed-loses =
    record {
      next = λ _. refl;
      current = λ P state c g. g;
      pending = λ P state c g. tt;
      fewer =
          λ w state. omega arith;
    }
