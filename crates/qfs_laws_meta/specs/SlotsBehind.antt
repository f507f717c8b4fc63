-- What is known of each slot behind each change: a change touches one slot, or the slots of one
-- file, and leaves all others. Cited by the laws of what a step tells of slots and grants.
use Rattle.qfs_base.specs.declared.change.Change.TheVariants.{AbortFile, AddDirectory, CloseFile}
use Rattle.qfs_base.specs.declared.change.Change.TheVariants.{CondemnStray, ConfirmSlot, EmptySlot}
use Rattle.qfs_base.specs.declared.change.Change.TheVariants.{FailGrant, GiveUp, GrantSlot}
use Rattle.qfs_base.specs.declared.change.Change.TheVariants.{RemoveFile}
use Rattle.qfs_base.specs.declared.change.Change.{Change}
use Rattle.qfs_base.specs.declared.chunk.BlockId.{BlockId}
use Rattle.qfs_base.specs.declared.image.Grant.{Grant}
use Rattle.qfs_base.specs.declared.image.MetaImage.{MetaImage}
use Rattle.qfs_base.specs.declared.image.SlotRecord.{SlotRecord}
use Rattle.qfs_base.specs.declared.image.SlotRow.{SlotRow}
use Rattle.qfs_laws_slots.specs.Losing.{condemned-slots, stray-frame}
use Rattle.qfs_laws_slots.specs.Slots.{changed-other, failed_change, forgotten-cases, is_slot-is}
use Rattle.qfs_laws_slots.specs.Slots.{is_slot-self}
use Rattle.qfs_laws_slots.specs.Slots.{placed-cases, placed-same, sealed-cases}
use Rattle.qfs_laws_slots.specs.Slots.{slot-cases, slot_cases}
use Rattle.qfs_model_meta.specs.Apply.{add_file, apply, bring_up, change_record, confirm_slot}
use Rattle.qfs_model_meta.specs.Apply.{empty_slot, fail_grant, finish_lease, give_up, grant_slot}
use Rattle.qfs_model_meta.specs.Apply.{with_slots, write_entry}
use Rattle.qfs_model_meta.specs.Condemned.{condemn, condemn_any}
use Rattle.qfs_model_meta.specs.Servers.{server_at}
use Rattle.qfs_model_meta.specs.Slots.{change_slot, confirmed_slot, emptied_slot}
use Rattle.qfs_model_meta.specs.Slots.{failed_slot, granted_copy, granted_slot, is_slot}
use Rattle.qfs_model_meta.specs.Slots.{never_granted, sealed_slot, slot_at, ungranted_slot}
use Rattle.std.proofs.Common.{Bool, List, None, Option, Some, ap, false, inl, inr}
use Rattle.std.proofs.Common.{refl, subst, sym, true, ℕ, ◌==◌, ◌∙◌, ◌≡◌, ◌⊎◌}
use Rattle.std.proofs.lemmas.Bool.{eq-eqb, eqb-true, true≢false}

-- the slots that a change touches
abbrev pub Touches : Change → BlockId → ℕ → Type 0
Touches (CloseFile file actor command) block slot = block.file ≡ file
Touches (AbortFile file) block slot = block.file ≡ file
Touches (RemoveFile path file) block slot = block.file ≡ file
Touches (GrantSlot other at server actor lease) block slot = (other ≡ block) × (at ≡ slot)
Touches (FailGrant other at) block slot = (other ≡ block) × (at ≡ slot)
Touches (GiveUp other at) block slot = (other ≡ block) × (at ≡ slot)
Touches (ConfirmSlot other at) block slot = (other ≡ block) × (at ≡ slot)
Touches (EmptySlot other at) block slot = (other ≡ block) × (at ≡ slot)
Touches change block slot = ⊥

-- a slot whose grant's server failed its put, if it has a grant
unfoldable pub failed_record : SlotRecord → Option Grant → SlotRecord
failed_record state None = state
failed_record state (Some grant) = failed_slot grant.copy.server (ungranted_slot state)

-- what is known behind a change of a slot that it touches
abbrev pub touched : Change → MetaImage → SlotRecord → SlotRecord
touched (CloseFile file actor command) m state = sealed_slot state
touched (AbortFile file) m state = never_granted
touched (RemoveFile path file) m state = never_granted
touched (GrantSlot block slot server actor lease) m state =
    granted_slot server (server_at m.servers server).life actor lease state
touched (FailGrant block slot) m state = failed_record state state.grant
touched (GiveUp block slot) m state = ungranted_slot state
touched (ConfirmSlot block slot) m state = confirmed_slot state
touched (EmptySlot block slot) m state = emptied_slot state
touched change m state = state

-- ---- which slots a change touches

same-slot : (block other : BlockId) (slot at : ℕ)
    → ((other ≡ block) × (at ≡ slot)) ⊎ (((other ≡ block) × (at ≡ slot)) → ⊥)
same-slot block other slot at =
    slot_cases _ other at (record { block = block; slot = slot; state = never_granted })
    (λ b s. inl (sym b, sym s))
    (λ off. inr (λ same. true≢false (sym (is_slot-self (record
    { block = other; slot = at; state = never_granted })) ∙ ap (λ b. is_slot other at (record
    { block = b; slot = at; state = never_granted })) same.0 ∙ ap (λ s. is_slot other at (record
    { block = block; slot = s; state = never_granted })) same.1 ∙ off)))

same-file_of : (block : BlockId) (file : ℕ) → (block.file ≡ file) ⊎ (block.file ≡ file → ⊥)
same-file_of block file =
    (elim (block.file == file) as (λ b. (block.file == file) ≡ b → (block.file ≡ file)
    ⊎ (block.file ≡ file → ⊥)) [
      | true ↦ λ is. inl (eqb-true block.file file is)
      | false ↦ λ off. inr (λ e. true≢false (sym (eq-eqb block.file file e) ∙ off))
    ]) refl

pub touches-or : (change : Change) (block : BlockId) (slot : ℕ)
    → Touches change block slot ⊎ (Touches change block slot → ⊥)
touches-or (CloseFile file actor command) block slot = same-file_of block file
touches-or (AbortFile file) block slot = same-file_of block file
touches-or (RemoveFile path file) block slot = same-file_of block file
touches-or (GrantSlot other at server actor lease) block slot = same-slot block other slot at
touches-or (FailGrant other at) block slot = same-slot block other slot at
touches-or (GiveUp other at) block slot = same-slot block other slot at
touches-or (ConfirmSlot other at) block slot = same-slot block other slot at
touches-or (EmptySlot other at) block slot = same-slot block other slot at
touches-or (AddDirectory path) block slot = inr (λ e. e)
touches-or _ block slot = inr (λ e. e)

-- ---- one slot changes

-- the rows after one slot's record changed, seen at each slot
changed-here : (change : SlotRecord → SlotRecord) → change never_granted ≡ never_granted
    → (block : BlockId) (slot : ℕ) (rows : List SlotRow)
    → slot_at (change_slot block slot change rows) block slot ≡ change (slot_at rows block slot)
changed-here change none block slot rows =
    slot-cases (λ state. state ≡ change (slot_at rows block slot)) block block slot slot change rows
    (λ e. sym none ∙ e) (λ _ _. refl) (λ off. absurd (true≢false (sym (is_slot-self (record
    { block = block; slot = slot; state = never_granted })) ∙ off)))

changed-there : (change : SlotRecord → SlotRecord) (block : BlockId) (slot : ℕ)
    (rows : List SlotRow)
    (other : BlockId) (at : ℕ)
    → (((block ≡ other) × (slot ≡ at)) → ⊥)
    → slot_at (change_slot block slot change rows) other at ≡ slot_at rows other at
changed-there change block slot rows other at apart =
    changed-other block other slot at change rows (off (is_slot block slot (record
    { block = other; slot = at; state = never_granted })) refl)
  where
    off : (b : Bool)
        → is_slot block slot (record { block = other; slot = at; state = never_granted }) ≡ b
        → b ≡ false
    off true is = let k = is_slot-is block slot _ is in absurd (apart (sym k.0, sym k.1))
    off false is = refl

-- a grant that is given up, or whose server failed
given_up-here : (block : BlockId) (slot : ℕ) (m : MetaImage) (found : Option Grant)
    → (slot_at m.slots block slot).grant ≡ found
    → slot_at (give_up block slot m found).slots block slot ≡ ungranted_slot
    (slot_at m.slots block slot)
unfolding give_up change_record with_slots condemn_any ungranted_slot never_granted
given_up-here block slot m None is =
    ap (λ g. record (slot_at m.slots block slot) { grant = g }) is
given_up-here block slot m (Some grant) is =
    changed-here ungranted_slot refl block slot (condemn block slot grant.copy m).slots
    ∙ ap (λ rows. ungranted_slot (slot_at rows block slot))
    (condemned-slots block slot m (Some grant.copy))

given_up-there : (block : BlockId) (slot : ℕ) (m : MetaImage) (found : Option Grant)
    (other : BlockId) (at : ℕ)
    → (((block ≡ other) × (slot ≡ at)) → ⊥)
    → slot_at (give_up block slot m found).slots other at ≡ slot_at m.slots other at
unfolding give_up change_record with_slots condemn_any
given_up-there block slot m None other at apart = refl
given_up-there block slot m (Some grant) other at apart =
    changed-there ungranted_slot block slot (condemn block slot grant.copy m).slots other at apart
    ∙ ap (λ rows. slot_at rows other at) (condemned-slots block slot m (Some grant.copy))

failed-here : (block : BlockId) (slot : ℕ) (m : MetaImage) (found : Option Grant)
    → (slot_at m.slots block slot).grant ≡ found
    → slot_at (fail_grant block slot m found).slots block slot ≡ failed_record
    (slot_at m.slots block slot) found
unfolding fail_grant give_up change_record with_slots condemn_any failed_record
failed-here block slot m None is = refl
failed-here block slot m (Some grant) is =
    ap (λ rows. slot_at (change_slot block slot (failed_slot grant.copy.server)
    (change_slot block slot ungranted_slot rows)) block slot)
    (condemned-slots block slot m (Some grant.copy))
    ∙ failed_change grant.copy.server block slot m.slots grant is

failed-there : (block : BlockId) (slot : ℕ) (m : MetaImage) (found : Option Grant)
    (other : BlockId) (at : ℕ)
    → (((block ≡ other) × (slot ≡ at)) → ⊥)
    → slot_at (fail_grant block slot m found).slots other at ≡ slot_at m.slots other at
unfolding fail_grant change_record with_slots
failed-there block slot m None other at apart = refl
failed-there block slot m (Some grant) other at apart =
    changed-there (failed_slot grant.copy.server) block slot
    (give_up block slot m (Some grant)).slots other at apart
    ∙ given_up-there block slot m (Some grant) other at apart

emptied-slots : (block : BlockId) (slot : ℕ) (m : MetaImage)
    → (condemn_any block slot (condemn_any block slot m (slot_at m.slots block slot).current)
    (granted_copy (slot_at m.slots block slot).grant)).slots ≡ m.slots
emptied-slots block slot m =
    condemned-slots block slot (condemn_any block slot m (slot_at m.slots block slot).current)
    (granted_copy (slot_at m.slots block slot).grant)
    ∙ condemned-slots block slot m (slot_at m.slots block slot).current

-- ---- every change

same-blocks : (P : BlockId → ℕ → Type 0) (other block : BlockId) (at slot : ℕ)
    → ((other ≡ block) × (at ≡ slot)) → P other at → P block slot
same-blocks P other block at slot same p =
    subst (λ b. P b slot) same.0 (subst (P other) same.1 p)

-- a slot that a change touches
pub slot-touched : (m : MetaImage) (change : Change) (block : BlockId) (slot : ℕ)
    → Touches change block slot
    → slot_at (apply m change).slots block slot ≡ touched change m (slot_at m.slots block slot)
unfolding apply write_entry with_slots grant_slot confirm_slot empty_slot change_record
slot-touched m (CloseFile file actor command) block slot is =
    sealed-cases (λ state. state ≡ sealed_slot (slot_at m.slots block slot)) file block slot m.slots
    (λ none. sealed-never ∙ ap sealed_slot (sym none)) (λ _. refl)
    (λ off. absurd (true≢false (sym (eq-eqb block.file file is) ∙ off)))
  where
    sealed-never : never_granted ≡ sealed_slot never_granted
    sealed-never = unfold never_granted sealed_slot granted_copy in refl
slot-touched m (AbortFile file) block slot is =
    forgotten-cases (λ state. state ≡ never_granted) file block slot m.slots (λ _. refl)
    (λ off. absurd (true≢false (sym (eq-eqb block.file file is) ∙ off)))
slot-touched m (RemoveFile path file) block slot is =
    forgotten-cases (λ state. state ≡ never_granted) file block slot m.slots (λ _. refl)
    (λ off. absurd (true≢false (sym (eq-eqb block.file file is) ∙ off)))
slot-touched m (GrantSlot other at server actor lease) block slot is =
    same-blocks (λ b s. slot_at (apply m (GrantSlot other at server actor lease)).slots b s
    ≡ touched (GrantSlot other at server actor lease) m (slot_at m.slots b s)) other block at slot
    is (placed-same other at _ m.slots)
slot-touched m (FailGrant other at) block slot is =
    same-blocks (λ b s. slot_at (apply m (FailGrant other at)).slots b s
    ≡ touched (FailGrant other at) m (slot_at m.slots b s)) other block at slot is
    (failed-here other at m (slot_at m.slots other at).grant refl)
slot-touched m (GiveUp other at) block slot is =
    same-blocks (λ b s. slot_at (apply m (GiveUp other at)).slots b s
    ≡ touched (GiveUp other at) m (slot_at m.slots b s)) other block at slot is
    (given_up-here other at m (slot_at m.slots other at).grant refl)
slot-touched m (ConfirmSlot other at) block slot is =
    same-blocks (λ b s. slot_at (apply m (ConfirmSlot other at)).slots b s
    ≡ touched (ConfirmSlot other at) m (slot_at m.slots b s)) other block at slot is
    (changed-here confirmed_slot confirmed-never other at _ ∙ ap (λ rows. confirmed_slot
    (slot_at rows other at)) (condemned-slots other at m (slot_at m.slots other at).current))
  where
    confirmed-never : confirmed_slot never_granted ≡ never_granted
    confirmed-never = unfold never_granted confirmed_slot granted_copy in refl
slot-touched m (EmptySlot other at) block slot is =
    same-blocks (λ b s. slot_at (apply m (EmptySlot other at)).slots b s
    ≡ touched (EmptySlot other at) m (slot_at m.slots b s)) other block at slot is
    (changed-here emptied_slot emptied-never other at _ ∙ ap (λ rows. emptied_slot
    (slot_at rows other at)) (emptied-slots other at m))
  where
    emptied-never : emptied_slot never_granted ≡ never_granted
    emptied-never = unfold never_granted emptied_slot in refl
slot-touched m _ block slot is = absurd is

-- the slots that a change doesn't touch
pub slot-untouched : (m : MetaImage) (change : Change) (block : BlockId) (slot : ℕ)
    → (Touches change block slot → ⊥)
    → slot_at (apply m change).slots block slot ≡ slot_at m.slots block slot
unfolding apply write_entry add_file with_slots grant_slot confirm_slot empty_slot change_record
    finish_lease bring_up
slot-untouched m (CloseFile file actor command) block slot apart =
    sealed-cases (λ state. state ≡ slot_at m.slots block slot) file block slot m.slots
    (λ none. sym none) (λ own. absurd (apart (eqb-true block.file file own))) (λ _. refl)
slot-untouched m (AbortFile file) block slot apart =
    forgotten-cases (λ state. state ≡ slot_at m.slots block slot) file block slot m.slots
    (λ own. absurd (apart (eqb-true block.file file own))) (λ _. refl)
slot-untouched m (RemoveFile path file) block slot apart =
    forgotten-cases (λ state. state ≡ slot_at m.slots block slot) file block slot m.slots
    (λ own. absurd (apart (eqb-true block.file file own))) (λ _. refl)
slot-untouched m (GrantSlot other at server actor lease) block slot apart =
    placed-cases (λ state. state ≡ slot_at m.slots block slot) other block at slot _ m.slots
    (λ b s. absurd (apart (b, s))) (λ _. refl)
slot-untouched m (FailGrant other at) block slot apart =
    failed-there other at m (slot_at m.slots other at).grant block slot apart
slot-untouched m (GiveUp other at) block slot apart =
    given_up-there other at m (slot_at m.slots other at).grant block slot apart
slot-untouched m (ConfirmSlot other at) block slot apart =
    changed-there confirmed_slot other at _ block slot apart
    ∙ ap (λ rows. slot_at rows block slot)
    (condemned-slots other at m (slot_at m.slots other at).current)
slot-untouched m (EmptySlot other at) block slot apart =
    changed-there emptied_slot other at _ block slot apart
    ∙ ap (λ rows. slot_at rows block slot) (emptied-slots other at m)
slot-untouched m (CondemnStray server life key) block slot apart =
    ap (λ (n : MetaImage). slot_at n.slots block slot) (stray-frame server life key m)
slot-untouched m (AddDirectory path) block slot apart = refl
slot-untouched m _ block slot apart = refl
