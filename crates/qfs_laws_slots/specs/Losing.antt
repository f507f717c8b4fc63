-- The changes by which slots lose copies: what they leave alone, and what they do to the table of
-- slots. Cited by the laws of the metaserver, and for the metaserver in memory.
use Rattle.qfs_base.specs.declared.change.Change.{Change}
use Rattle.qfs_base.specs.declared.change.Change.TheVariants.{ConfirmSlot, EmptySlot, FailGrant}
use Rattle.qfs_base.specs.declared.change.Change.TheVariants.{GiveUp}
use Rattle.qfs_base.specs.declared.chunk.BlockId.{BlockId}
use Rattle.qfs_base.specs.declared.chunk.ChunkKey.{ChunkKey}
use Rattle.qfs_base.specs.declared.chunk.Copy.{Copy}
use Rattle.qfs_base.specs.declared.image.Grant.{Grant}
use Rattle.qfs_base.specs.declared.image.MetaImage.{MetaImage}
use Rattle.qfs_base.specs.declared.image.SlotRecord.{SlotRecord}
use Rattle.qfs_base.specs.declared.image.SlotRow.{SlotRow}
use Rattle.qfs_model_meta.specs.Apply.{apply, change_record, condemn_stray, condemn_unknown}
use Rattle.qfs_model_meta.specs.Apply.{confirm_slot, empty_slot, fail_grant, give_up, with_slots}
use Rattle.qfs_model_meta.specs.Condemned.{condemn, condemn_any}
use Rattle.qfs_model_meta.specs.Slots.{change_slot, confirmed_slot, emptied_slot, failed_slot}
use Rattle.qfs_model_meta.specs.Slots.{granted_copy, slot_at, ungranted_slot}
use Rattle.std.proofs.Common.{Bool, List, None, Option, Some, ap, false, refl, subst, sym, true, ℕ}
use Rattle.std.proofs.Common.{◌∙◌, ◌≡◌}
use Rattle.std.specs.Prelude.{⊤}
use Rattle.qfs_laws_slots.specs.Condemning.{condemn-cases, condemn_any-cases, condemn_any-frame}
use Rattle.qfs_laws_slots.specs.Losses.{Loses, confirmed-loses, emptied-loses, failed-loses}
use Rattle.qfs_laws_slots.specs.Losses.{ungranted-loses}

-- the changes by which a slot loses copies
abbrev pub IsLosing : Change → Type 0
IsLosing (FailGrant block slot) = ⊤
IsLosing (GiveUp block slot) = ⊤
IsLosing (ConfirmSlot block slot) = ⊤
IsLosing (EmptySlot block slot) = ⊤
IsLosing change = ⊥

-- only the slots, the condemned copies and their next number change
pub record IsSlotFrame (m n : MetaImage) : Type 0 where
  pub is : n ≡ record m {
    slots = n.slots;
    condemned = n.condemned;
    next_condemned =
        n.next_condemned;
  }

pub condemned-slots : (block : BlockId) (slot : ℕ) (m : MetaImage) (found : Option Copy)
    → (condemn_any block slot m found).slots ≡ m.slots
condemned-slots block slot m found =
    condemn_any-cases (λ n. n.slots ≡ m.slots) block slot m found (λ _. refl) (λ _ _ _. refl)
    (λ _ _ _. refl)

changed-frame : (block : BlockId) (slot : ℕ) (m : MetaImage) (found : Option Copy)
    (change : SlotRecord → SlotRecord)
    → IsSlotFrame m (change_record block slot change (condemn_any block slot m found))
unfolding change_record with_slots
changed-frame block slot m found change =
    condemn_any-cases (λ n. IsSlotFrame m
    (record n { slots = change_slot block slot change n.slots })) block slot m found
    (λ _. record { is = refl }) (λ _ _ _. record { is = refl }) (λ _ _ _. record { is = refl })

given_up-frame : (block : BlockId) (slot : ℕ) (m : MetaImage) (found : Option Grant)
    → IsSlotFrame m (give_up block slot m found)
unfolding give_up condemn_any
given_up-frame block slot m None = record { is = refl }
given_up-frame block slot m (Some grant) =
    changed-frame block slot m (Some grant.copy) ungranted_slot

failed-frame : (block : BlockId) (slot : ℕ) (m : MetaImage) (found : Option Grant)
    → IsSlotFrame m (fail_grant block slot m found)
unfolding fail_grant change_record with_slots
failed-frame block slot m None = record { is = refl }
failed-frame block slot m (Some grant) =
    record {
      is = ap (λ (n : MetaImage). record n {
        slots = change_slot block slot (failed_slot grant.copy.server)
            (give_up block slot m (Some grant)).slots;
      }) (given_up-frame block slot m (Some grant)).is;
    }

pub losing-frame : (m : MetaImage) (change : Change) → IsLosing change
    → IsSlotFrame m (apply m change)
unfolding apply confirm_slot empty_slot change_record with_slots
losing-frame m (FailGrant block slot) is = failed-frame block slot m _
losing-frame m (GiveUp block slot) is = given_up-frame block slot m _
losing-frame m (ConfirmSlot block slot) is = changed-frame block slot m _ confirmed_slot
losing-frame m (EmptySlot block slot) is =
    let state : SlotRecord = slot_at m.slots block slot in
    let n : MetaImage = condemn_any block slot m state.current in
    let o : MetaImage = condemn_any block slot n (granted_copy state.grant) in
    let frame : o ≡ record m { condemned = o.condemned; next_condemned = o.next_condemned } =
    (condemn_any-frame block slot n (granted_copy state.grant)).is
    ∙ ap (λ (k : MetaImage). record k
    { condemned = o.condemned; next_condemned = o.next_condemned })
    (condemn_any-frame block slot m state.current).is in
    record {
      is = ap (λ (k : MetaImage). record k
          { slots = change_slot block slot emptied_slot o.slots }) frame;
    }
losing-frame m _ is = absurd is

-- a property of the table that each loss of a slot keeps
module _ (Q : List SlotRow → Type 0) (keeps : (change : SlotRecord → SlotRecord) → Loses change
    → (block : BlockId) (slot : ℕ) (rows : List SlotRow) → Q rows
    → Q (change_slot block slot change rows)) where
  given_up-slots : (block : BlockId) (slot : ℕ) (m : MetaImage) (found : Option Grant) → Q m.slots
      → Q (give_up block slot m found).slots
  unfolding give_up change_record with_slots condemn_any
  given_up-slots block slot m None q = q
  given_up-slots block slot m (Some grant) q =
      keeps ungranted_slot ungranted-loses block slot (condemn block slot grant.copy m).slots
      (subst Q (sym (condemned-slots block slot m (Some grant.copy))) q)

  failed-slots : (block : BlockId) (slot : ℕ) (m : MetaImage) (found : Option Grant) → Q m.slots
      → Q (fail_grant block slot m found).slots
  unfolding fail_grant change_record with_slots
  failed-slots block slot m None q = q
  failed-slots block slot m (Some grant) q =
      keeps (failed_slot grant.copy.server) (failed-loses grant.copy.server) block slot
      (give_up block slot m (Some grant)).slots (given_up-slots block slot m (Some grant) q)

  pub losing-slots : (m : MetaImage) (change : Change) → IsLosing change → Q m.slots
      → Q (apply m change).slots
  unfolding apply confirm_slot empty_slot change_record with_slots
  losing-slots m (FailGrant block slot) is q = failed-slots block slot m _ q
  losing-slots m (GiveUp block slot) is q = given_up-slots block slot m _ q
  losing-slots m (ConfirmSlot block slot) is q =
      keeps confirmed_slot confirmed-loses block slot _
      (subst Q (sym (condemned-slots block slot m (slot_at m.slots block slot).current)) q)
  losing-slots m (EmptySlot block slot) is q =
      keeps emptied_slot emptied-loses block slot _
      (subst Q (sym (condemned-slots block slot
      (condemn_any block slot m (slot_at m.slots block slot).current)
      (granted_copy (slot_at m.slots block slot).grant) ∙ condemned-slots block slot m
      (slot_at m.slots block slot).current)) q)
  losing-slots m _ is q = absurd is

-- a stray copy changes no slot
pub stray-frame : (server life : ℕ) (key : ChunkKey) (m : MetaImage)
    → (condemn_stray server life key m) ≡ record m {
      condemned = (condemn_stray server life key m).condemned;
      next_condemned =
          (condemn_stray server life key m).next_condemned;
    }
unfolding condemn_stray condemn_unknown
stray-frame server life key m = one _
  where
    copy : Copy
    copy = record { server = server; life = life; version = key.version }

    one : (b : Bool)
        → condemn_unknown key.block key.slot copy m b ≡ record m {
          condemned = (condemn_unknown key.block key.slot copy m b).condemned;
          next_condemned =
              (condemn_unknown key.block key.slot copy m b).next_condemned;
        }
    one true = refl
    one false =
        condemn-cases (λ n. n ≡ record m
        { condemned = n.condemned; next_condemned = n.next_condemned }) key.block key.slot copy m
        (λ _. refl) (λ _. refl)
