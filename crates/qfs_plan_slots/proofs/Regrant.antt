-- A grant of a put, after the slot's pending grant, if it has one, counted as failed.
use Rattle.std.proofs.Common.{◌≡◌, ◌∙◌, ◌<◌, ℕ, List, [], ◌∷◌, ◌++◌, length, Option, Some, None, ap, arith, refl, subst, sym}
use Rattle.qfs_base.specs.declared.change.Change.TheVariants as Made
use Rattle.qfs_base.specs.declared.chunk.BlockId.{BlockId}
use Rattle.qfs_base.specs.declared.image.Grant.{Grant}
use Rattle.qfs_base.specs.declared.image.MetaImage.{MetaImage}
use Rattle.qfs_base.specs.declared.image.SlotRecord.{SlotRecord}
use Rattle.qfs_base.specs.declared.reply.Granted.{Granted}
use Rattle.qfs_base.specs.declared.reply.MetaReply.TheVariants as Told
use Rattle.qfs_base.specs.declared.request.SlotId.{SlotId}
use Rattle.qfs_base.specs.Shape.{Shape}
use Rattle.qfs_base.specs.Table.{IsRising}
use Rattle.qfs_laws_slots.specs.Losing.{condemned-slots, losing-frame}
use Rattle.qfs_laws_slots.specs.Slots.{failed_change}
use Rattle.qfs_model_meta.specs.Apply.{apply, change_record, fail_grant, give_up, with_slots}
use Rattle.qfs_model_meta.specs.Condemned.{condemn_any}
use Rattle.qfs_model_meta.specs.Decision.{Makes}
use Rattle.qfs_model_meta.specs.Grammar.{IsServer}
use Rattle.qfs_model_meta.specs.Lists.{new_grant, no_sources}
use Rattle.qfs_model_meta.specs.Placing.{census}
use Rattle.qfs_model_meta.specs.PutRequests.{failed_grant, grant_for_put, put_granted}
use Rattle.qfs_model_meta.specs.Slots.{change_slot, failed_slot, granted_copy, slot_at, slot_cmp, ungranted_slot}
use Rattle.qfs_place.specs.ChangeLaws.{census_of, failed_grant_census}
use Rattle.qfs_place.specs.LoadLaws.{uncounted_at}
use Rattle.qfs_place.specs.Loads.{load_at}
use Rattle.qfs_plan_slots.specs.Ends.{grant_fails}
use Rattle.qfs_state.specs.declared.prepared.Prepared.{Prepared}
use Rattle.qfs_state.specs.declared.prepared.Prepared.TheVariants.{GrantSlot}
use Rattle.qfs_state.specs.Planning.{MayGrant, MayMakeAll, changes_of}

-- a slot whose grant counts as failed has no grant any more
failed_free : (m : MetaImage) (block : BlockId) (slot : ℕ) (grant : Grant)
    → (slot_at m.slots block slot).grant ≡ Some grant
    → (slot_at (apply m (Made.FailGrant block slot)).slots block slot).grant ≡ None
unfolding apply fail_grant give_up change_record with_slots condemn_any failed_slot ungranted_slot
failed_free m block slot grant pending =
    ap (λ found. (slot_at (fail_grant block slot m found).slots block slot).grant) pending
    ∙ ap (λ slots. (slot_at (change_slot block slot (failed_slot grant.copy.server)
    (change_slot block slot ungranted_slot slots)) block slot).grant)
    (condemned-slots block slot m (Some grant.copy))
    ∙ ap (λ (state : SlotRecord). state.grant)
    (failed_change grant.copy.server block slot m.slots grant pending)

-- it may be granted on any server that is there and wasn't full before
failed_may : (m : MetaImage) (id : SlotId) (server : ℕ) (grant : Grant)
    → IsRising slot_cmp m.slots → (slot_at m.slots id.block id.slot).grant ≡ Some grant
    → id.slot < 9 → IsServer (length m.servers) server
    → (load_at (census m.servers m.slots) server).count < 4294967295
    → MayGrant (apply m (Made.FailGrant id.block id.slot)) id server
failed_may m id server grant rising pending few there room =
    let frame = (losing-frame m (Made.FailGrant id.block id.slot) tt).is in
    let fewer = uncounted_at m.servers (granted_copy (slot_at m.slots id.block id.slot).grant)
    (census_of m) server in
    record {
      slot_number = few;
      server_there = subst (λ n. IsServer n server)
          (sym (ap (λ (n : MetaImage). length n.servers) frame)) there;
      free = failed_free m id.block id.slot grant pending;
      not_full = subst (λ loads. (load_at loads server).count < 4294967295)
          (sym (failed_grant_census m id.block id.slot rising)) (omega (arith, fewer, room));
    }

-- both changes may be made when their turn comes
pub regrant_may : (m : MetaImage) (id : SlotId) (server actor : ℕ) (pending : Option Grant)
    → IsRising slot_cmp m.slots → (slot_at m.slots id.block id.slot).grant ≡ pending
    → id.slot < 9 → IsServer (length m.servers) server
    → (load_at (census m.servers m.slots) server).count < 4294967295
    → MayMakeAll m (grant_fails id pending ++ GrantSlot id server actor 0 ∷ [])
regrant_may m id server actor None rising is few there room =
    (record { slot_number = few; server_there = there; free = is; not_full = room }, tt)
regrant_may m id server actor (Some grant) rising is few there room =
    (tt, (failed_may m id server grant rising is few there room, tt))

-- they are those of the definition
regrant_made : (id : SlotId) (server actor : ℕ) (pending : Option Grant)
    → failed_grant id.block id.slot pending
    ++ Made.GrantSlot id.block id.slot server actor 0 ∷ []
    ≡ changes_of (grant_fails id pending ++ GrantSlot id server actor 0 ∷ [])
unfolding failed_grant
regrant_made id server actor None = refl
regrant_made id server actor (Some grant) = refl

pub regrant_is : (layout : Shape) (actor len : ℕ) (m : MetaImage) (id : SlotId) (server : ℕ)
    (pending : Option Grant) (failed : List Prepared) (told : Granted)
    → (slot_at m.slots id.block id.slot).grant ≡ pending → failed ≡ grant_fails id pending
    → told ≡ new_grant layout len id.block id.slot server 0 no_sources m
    → grant_for_put layout actor len id.block id.slot m
    (slot_at m.slots id.block id.slot).grant server
    ≡ Makes (changes_of (failed ++ GrantSlot id server actor 0 ∷ [])) (Told.Granted told)
unfolding grant_for_put put_granted
regrant_is layout actor len m id server pending failed told is items told_is =
    (λ i. Makes (failed_grant id.block id.slot (is i)
    ++ Made.GrantSlot id.block id.slot server actor 0 ∷ []) (Told.Granted (sym told_is i)))
    ∙ (λ i. Makes (regrant_made id server actor pending i) (Told.Granted told))
    ∙ (λ i. Makes (changes_of (sym items i ++ GrantSlot id server actor 0 ∷ []))
    (Told.Granted told))
