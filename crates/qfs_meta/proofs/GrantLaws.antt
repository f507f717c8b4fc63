-- How the grant of a slot is served, by what the code finds out.
use Rattle.std.proofs.Common.{◌≡◌, ℕ, nat_lt, Bool, true, false, List, [], ◌∷◌, ◌++◌, Option, Some, None, refl, sym, ap, ◌∙◌, subst}
use Rattle.qfs_base.specs.declared.change.Change.TheVariants.{GrantSlot, FailGrant}
use Rattle.qfs_base.specs.declared.history.Outcome.TheVariants as Ended
use Rattle.qfs_base.specs.declared.image.Grant.{Grant}
use Rattle.qfs_base.specs.declared.image.MetaImage.{MetaImage}
use Rattle.qfs_base.specs.declared.image.SlotRecord.{SlotRecord}
use Rattle.qfs_base.specs.declared.image.SlotRow.{SlotRow}
use Rattle.qfs_base.specs.declared.image.TreeRow.{TreeRow}
use Rattle.qfs_base.specs.declared.reply.Granted.{Granted}
use Rattle.qfs_base.specs.declared.reply.MetaReply.{MetaReply}
use Rattle.qfs_base.specs.declared.reply.MetaReply.TheVariants as Told
use Rattle.qfs_base.specs.declared.request.SlotId.{SlotId}
use Rattle.qfs_base.specs.Outcome.{meta_outcome}
use Rattle.qfs_base.specs.Shape.{Shape}
use Rattle.qfs_base.specs.Table.{IsRising}
use Rattle.qfs_model_meta.specs.Apply.{apply, apply_all, change_record, fail_grant, give_up, grant_slot, with_slots}
use Rattle.qfs_model_meta.specs.Condemned.{condemn, condemn_any}
use Rattle.qfs_model_meta.specs.Lists.{block_count, no_sources, new_grant}
use Rattle.qfs_model_meta.specs.PutRequests.{decide_grant, grant_in, grant_for_put, chosen_for_put, put_granted, taken_refusal, failed_grant}
use Rattle.qfs_model_meta.specs.Servers.{server_at}
use Rattle.qfs_model_meta.specs.Slots.{is_slot, slot_at, slot_cmp, with_slot, change_slot, failed_slot, granted_copy, granted_slot, ungranted_slot}
use Rattle.qfs_model_meta.specs.Step.{next_turn}
use Rattle.qfs_model_meta.specs.TreeRows.{unclosed_file}
use Rattle.qfs_meta.specs.Granting.{freed, granted_in, granting, grant_chosen}
use Rattle.qfs_meta.specs.Kept.{IsKept}
use Rattle.qfs_meta.specs.Serving.{Serves}
use Rattle.qfs_laws_slots.specs.Condemning.{condemn_any-frame}
use Rattle.qfs_laws_slots.specs.Losing.{condemned-slots}
use Rattle.qfs_laws_slots.specs.Slots.{failed_change}
use Rattle.qfs_meta.proofs.FreedLaws.{placed_again}
use Rattle.qfs_meta.proofs.SlotLaws.{changed_rises}
use Rattle.qfs_meta.proofs.StepLaws.{tells, makes, served_as, refuse_some, refuse_none, unless_true, unless_false, need_some, need_none}

-- the slot gets its grant
grant-is : (m : MetaImage) (id : SlotId) (server actor : ℕ) →
    apply m (GrantSlot id.block id.slot server actor 0)
    ≡ record m { slots = with_slot id.block id.slot (granted_slot server (server_at m.servers server).life actor 0 (slot_at m.slots id.block id.slot)) m.slots }
unfolding apply grant_slot with_slots
grant-is m id server actor = refl

-- what is left once the server of a slot's pending grant failed the put
failed-is : (id : SlotId) (grant : Grant) (m : MetaImage) → (slot_at m.slots id.block id.slot).grant ≡ Some grant →
    apply m (FailGrant id.block id.slot)
    ≡ record (condemn id.block id.slot grant.copy m) { slots = change_slot id.block id.slot (failed_slot grant.copy.server) (change_slot id.block id.slot ungranted_slot m.slots) }
unfolding apply fail_grant give_up change_record with_slots condemn_any
failed-is id grant m pending =
    ap (fail_grant id.block id.slot m) pending
    ∙ (λ i. record (condemn id.block id.slot grant.copy m) {
      slots = change_slot id.block id.slot (failed_slot grant.copy.server)
          (change_slot id.block id.slot ungranted_slot (condemned-slots id.block id.slot m (Some grant.copy) i));
    })

-- in place of a pending one, which is condemned
granted-again : (id : SlotId) (server actor : ℕ) (m : MetaImage) (grant : Grant) → IsRising slot_cmp m.slots → (slot_at m.slots id.block id.slot).grant ≡ Some grant →
    apply (apply m (FailGrant id.block id.slot)) (GrantSlot id.block id.slot server actor 0)
    ≡ record (condemn id.block id.slot grant.copy m) {
      slots = with_slot id.block id.slot
          (granted_slot server (server_at m.servers server).life actor 0 (freed (Some grant) (slot_at m.slots id.block id.slot))) m.slots;
    }
unfolding with_slot change_slot condemn_any
granted-again id server actor m grant rising pending =
    let ungranted : List SlotRow = change_slot id.block id.slot ungranted_slot m.slots in
    let slots : List SlotRow = change_slot id.block id.slot (failed_slot grant.copy.server) ungranted in
    let state = failed_change grant.copy.server id.block id.slot m.slots grant pending in
    let granted : SlotRecord = granted_slot server (server_at m.servers server).life actor 0 (freed (Some grant) (slot_at m.slots id.block id.slot)) in
    let placed = placed_again id (failed_slot grant.copy.server) granted ungranted (changed_rises ungranted_slot (is_slot id.block id.slot) m.slots rising)
    ∙ placed_again id ungranted_slot granted m.slots rising in
    let servers = ap (λ (n : MetaImage). n.servers) (condemn_any-frame id.block id.slot m (Some grant.copy)).is in
    ap (λ n. apply n (GrantSlot id.block id.slot server actor 0)) (failed-is id grant m pending)
    ∙ grant-is (record (condemn id.block id.slot grant.copy m) { slots = slots }) id server actor
    ∙ (λ i. record (condemn id.block id.slot grant.copy m) { slots = with_slot id.block id.slot (granted_slot server (server_at (servers i) server).life actor 0 (state i)) slots })
    ∙ (λ i. record (condemn id.block id.slot grant.copy m) { slots = placed i })

pub granting-is : (id : SlotId) (server actor : ℕ) (m : MetaImage) → IsRising slot_cmp m.slots →
    apply_all (failed_grant id.block id.slot (slot_at m.slots id.block id.slot).grant ++ GrantSlot id.block id.slot server actor 0 ∷ []) m ≡ granting id server actor m
unfolding apply_all failed_grant granted_copy condemn_any
granting-is id server actor m rising =
    let state : SlotRecord = slot_at m.slots id.block id.slot in
    let life : ℕ = (server_at m.servers server).life in
    elim state.grant as (λ pending. state.grant ≡ pending →
    apply_all (failed_grant id.block id.slot pending ++ GrantSlot id.block id.slot server actor 0 ∷ []) m
    ≡ record (condemn_any id.block id.slot m (granted_copy pending)) { slots = with_slot id.block id.slot (granted_slot server life actor 0 (freed pending state)) m.slots }) [
      | None ↦ λ _. grant-is m id server actor
      | Some grant ↦ λ pending. granted-again id server actor m grant rising pending
    ] refl

module _ (layout : Shape) (actor len : ℕ) (id : SlotId) (m : MetaImage) where
  -- no server is open for the slot
  pub chosen-none : chosen_for_put id.block id.slot m.servers m.slots (slot_at m.slots id.block id.slot) ≡ None →
      Serves m (grant_chosen layout actor len id m) m (Told.NoServer id.block id.slot)
  unfolding meta_outcome
  chosen-none none = served_as m _ _ m _ (need_none (Told.NoServer id.block id.slot) _ _ none) (tells m (Told.NoServer id.block id.slot) refl)

  -- one is, and the slot is granted on it
  pub chosen-granted : (server : ℕ) (new : MetaImage) (told : Granted) → IsRising slot_cmp m.slots →
      chosen_for_put id.block id.slot m.servers m.slots (slot_at m.slots id.block id.slot) ≡ Some server →
      told ≡ new_grant layout len id.block id.slot server 0 no_sources m →
      new ≡ next_turn (granting id server actor m) → IsKept new →
      Serves m (grant_chosen layout actor len id m) new (Told.Granted told)
  unfolding grant_for_put put_granted meta_outcome
  chosen-granted server new told rising chosen told_is made kept =
      let pending : Option Grant = (slot_at m.slots id.block id.slot).grant in
      subst (λ t. Serves m (grant_chosen layout actor len id m) new (Told.Granted t)) (sym told_is)
      (served_as m _ _ new _ (need_some (Told.NoServer id.block id.slot) (grant_for_put layout actor len id.block id.slot m pending) _ server chosen)
      (makes m (failed_grant id.block id.slot pending ++ GrantSlot id.block id.slot server actor 0 ∷ [])
      (Told.Granted (new_grant layout len id.block id.slot server 0 no_sources m)) new refl
      (made ∙ ap next_turn (sym (granting-is id server actor m rising))) kept))

module _ (layout : Shape) (actor : ℕ) (id : SlotId) (again : Bool) (m : MetaImage) where
  pub grant-gone : unclosed_file actor id.block.file m.tree ≡ None → Serves m (decide_grant layout actor id.block id.slot again m) m Told.Gone
  unfolding decide_grant meta_outcome
  grant-gone gone = served_as m _ _ m _ (need_none Told.Gone _ _ gone) (tells m Told.Gone refl)

  pub grant-no_block : (row : TreeRow) → unclosed_file actor id.block.file m.tree ≡ Some row →
      nat_lt id.block.index (block_count layout row.len) ≡ false → Serves m (decide_grant layout actor id.block id.slot again m) m Told.NoBlock
  unfolding decide_grant grant_in meta_outcome
  grant-no_block row found beyond =
      served_as m _ _ m _ (need_some Told.Gone (grant_in layout actor id.block id.slot again m (slot_at m.slots id.block id.slot)) _ row found)
      (served_as m _ _ m _ (unless_false (nat_lt id.block.index (block_count layout row.len)) Told.NoBlock _ beyond)
      (tells m Told.NoBlock refl))

  -- the slot is taken
  pub grant-taken : (row : TreeRow) (reply : MetaReply) → unclosed_file actor id.block.file m.tree ≡ Some row →
      nat_lt id.block.index (block_count layout row.len) ≡ true → taken_refusal again (slot_at m.slots id.block id.slot).grant ≡ Some reply →
      meta_outcome reply ≡ Ended.Done → Serves m (decide_grant layout actor id.block id.slot again m) m reply
  unfolding decide_grant grant_in
  grant-taken row reply found within taken told =
      served_as m _ _ m _ (need_some Told.Gone (grant_in layout actor id.block id.slot again m (slot_at m.slots id.block id.slot)) _ row found)
      (served_as m _ _ m _ (unless_true (nat_lt id.block.index (block_count layout row.len)) Told.NoBlock _ within)
      (served_as m _ _ m _ (refuse_some (taken_refusal again (slot_at m.slots id.block id.slot).grant) _ reply taken) (tells m reply told)))

  -- it isn't, or its server failed
  pub grant-open : (row : TreeRow) (new : MetaImage) (reply : MetaReply) → unclosed_file actor id.block.file m.tree ≡ Some row →
      nat_lt id.block.index (block_count layout row.len) ≡ true → taken_refusal again (slot_at m.slots id.block id.slot).grant ≡ None →
      Serves m (grant_chosen layout actor row.len id m) new reply → Serves m (decide_grant layout actor id.block id.slot again m) new reply
  unfolding decide_grant grant_in
  grant-open row new reply found within free served =
      served_as m _ _ new _ (need_some Told.Gone (grant_in layout actor id.block id.slot again m (slot_at m.slots id.block id.slot)) _ row found)
      (served_as m _ _ new _ (unless_true (nat_lt id.block.index (block_count layout row.len)) Told.NoBlock _ within)
      (served_as m _ _ new _ (refuse_none (taken_refusal again (slot_at m.slots id.block id.slot).grant) (grant_chosen layout actor row.len id m) free) served))

-- what a pending grant refuses
pub taken-pending : (again : Bool) (pending : Option Grant) (grant : Grant) → again ≡ false → pending ≡ Some grant → taken_refusal again pending ≡ Some (Told.Taken grant.copy.version)
unfolding taken_refusal
taken-pending again pending grant first is = λ i. taken_refusal (first i) (is i)

pub free-first : (again : Bool) (pending : Option Grant) → pending ≡ None → taken_refusal again pending ≡ None
unfolding taken_refusal
free-first again pending is = ap (taken_refusal again) is

pub free-again : (again : Bool) (pending : Option Grant) → again ≡ true → taken_refusal again pending ≡ None
unfolding taken_refusal
free-again again None failed = refl
free-again again (Some grant) failed = ap (λ b. taken_refusal b (Some grant)) failed

-- a slot's first grant, and one in place of a pending one
pub first-grant : (id : SlotId) (server actor : ℕ) (m : MetaImage) (slots : List SlotRow) → (slot_at m.slots id.block id.slot).grant ≡ None →
    slots ≡ granted_in m.servers m.slots id server actor → record m { slots = slots } ≡ granting id server actor m
unfolding granted_copy condemn_any
first-grant id server actor m slots none is =
    (λ i. record m { slots = is i })
    ∙ sym (ap (λ pending. record (condemn_any id.block id.slot m (granted_copy pending)) { slots = granted_in m.servers m.slots id server actor }) none)

pub next-grant : (id : SlotId) (server actor : ℕ) (m n : MetaImage) (grant : Grant) (slots : List SlotRow) → (slot_at m.slots id.block id.slot).grant ≡ Some grant →
    n ≡ condemn id.block id.slot grant.copy m → slots ≡ granted_in m.servers m.slots id server actor → record n { slots = slots } ≡ granting id server actor m
unfolding granted_copy condemn_any
next-grant id server actor m n grant slots pending condemned is =
    (λ i. record (condemned i) { slots = is i })
    ∙ sym (ap (λ pending. record (condemn_any id.block id.slot m (granted_copy pending)) { slots = granted_in m.servers m.slots id server actor }) pending)
