-- The changes that end a recovery or move are those of the definition, and may always be made.
use Rattle.std.proofs.Common.{◌≡◌, ◌∙◌, ℕ, Bool, true, false, cond, List, [], ◌∷◌, ◌++◌, length, refl, subst, sym}
use Rattle.qfs_base.specs.declared.change.Change.TheVariants as Made
use Rattle.qfs_base.specs.declared.image.MetaImage.{MetaImage}
use Rattle.qfs_base.specs.declared.reply.MetaReply.TheVariants as Told
use Rattle.qfs_base.specs.declared.request.SlotId.{SlotId}
use Rattle.qfs_model_meta.specs.Decision.{Makes}
use Rattle.qfs_model_meta.specs.Leases.{holds_lease, is_live_lease}
use Rattle.qfs_model_meta.specs.SettleRequests.{abandon_changes, confirm_grant, decide_abandon, decide_confirm, end_live_lease, end_own_lease, give_up_own, is_own_grant, may_confirm}
use Rattle.qfs_model_meta.specs.Slots.{slot_at}
use Rattle.qfs_model_meta.specs.TreeRows.{closed_file, file_stands}
use Rattle.qfs_plan_slots.specs.Ends.{grant_ends, lease_ends}
use Rattle.qfs_planning.specs.Deciding.{plan_as, unless_true}
use Rattle.qfs_state.specs.declared.prepared.Plan.{Plan}
use Rattle.qfs_state.specs.declared.prepared.Prepared.{Prepared}
use Rattle.qfs_state.specs.declared.prepared.Prepared.TheVariants.{ConfirmSlot}
use Rattle.qfs_state.specs.Planning.{IsPlan, MayMakeAll, changes_of}

-- the lease alone
pub lease_made : (lease : ℕ) (ends : Bool)
    → cond ends (Made.EndLease lease ∷ []) [] ≡ changes_of (lease_ends lease ends)
lease_made lease true = refl
lease_made lease false = refl

pub lease_may : (m : MetaImage) (lease : ℕ) (ends : Bool) → MayMakeAll m (lease_ends lease ends)
lease_may m lease true = (tt, tt)
lease_may m lease false = tt

-- the lease, and then the grant is given up
pub both_made : (lease : ℕ) (id : SlotId) (holds own : Bool)
    → cond holds (Made.EndLease lease ∷ []) []
    ++ cond own (Made.GiveUp id.block id.slot ∷ []) []
    ≡ changes_of (lease_ends lease holds ++ grant_ends id own)
both_made lease id true true = refl
both_made lease id true false = refl
both_made lease id false true = refl
both_made lease id false false = refl

pub both_may : (m : MetaImage) (lease : ℕ) (id : SlotId) (holds own : Bool)
    → MayMakeAll m (lease_ends lease holds ++ grant_ends id own)
both_may m lease id true true = (tt, (tt, tt))
both_may m lease id true false = (tt, tt)
both_may m lease id false true = (tt, tt)
both_may m lease id false false = tt

-- the lease, and then the grant becomes current
pub confirm_made : (lease : ℕ) (id : SlotId) (ends : Bool)
    → cond ends (Made.EndLease lease ∷ []) [] ++ Made.ConfirmSlot id.block id.slot ∷ []
    ≡ changes_of (lease_ends lease ends ++ ConfirmSlot id ∷ [])
confirm_made lease id true = refl
confirm_made lease id false = refl

pub confirm_may : (m : MetaImage) (lease : ℕ) (id : SlotId) (ends : Bool)
    → MayMakeAll m (lease_ends lease ends ++ ConfirmSlot id ∷ [])
confirm_may m lease id true = (tt, (tt, tt))
confirm_may m lease id false = (tt, tt)

-- the plan of a recovery or move that is given up
pub abandoned : (m : MetaImage) (actor : ℕ) (id : SlotId) (version lease : ℕ) (holds own : Bool)
    (plan : Plan) → holds_lease actor lease m.leases ≡ holds
    → is_own_grant actor version lease (slot_at m.slots id.block id.slot).grant ≡ own
    → plan.changes.items ≡ lease_ends lease holds ++ grant_ends id own
    → plan.reply ≡ Told.Done (length m.history)
    → IsPlan m (decide_abandon actor id.block id.slot version lease m) plan
unfolding decide_abandon abandon_changes end_own_lease give_up_own
abandoned m actor id version lease holds own plan held owned items reply =
    record {
      decided =
          (λ i. Makes (cond (held i) (Made.EndLease lease ∷ []) []
          ++ cond (owned i) (Made.GiveUp id.block id.slot ∷ []) []) (sym reply i))
          ∙ (λ i. Makes (both_made lease id holds own i) plan.reply)
          ∙ (λ i. Makes (changes_of (sym items i)) plan.reply);
      may = subst (MayMakeAll m) (sym items) (both_may m lease id holds own);
    }

-- the plan of one whose file stands no more
pub vanished : (m : MetaImage) (actor : ℕ) (id : SlotId) (version lease : ℕ) (holds : Bool)
    (plan : Plan) → holds_lease actor lease m.leases ≡ holds
    → plan.changes.items ≡ lease_ends lease holds → plan.reply ≡ Told.Vanished
    → IsPlan m (confirm_grant actor id.block id.slot version lease m false) plan
unfolding confirm_grant end_own_lease
vanished m actor id version lease holds plan held items reply =
    record {
      decided =
          (λ i. Makes (cond (held i) (Made.EndLease lease ∷ []) []) (sym reply i))
          ∙ (λ i. Makes (lease_made lease holds i) plan.reply)
          ∙ (λ i. Makes (changes_of (sym items i)) plan.reply);
      may = subst (MayMakeAll m) (sym items) (lease_may m lease holds);
    }

-- the plan of one whose grant becomes current
pub confirmed : (m : MetaImage) (actor : ℕ) (id : SlotId) (version lease : ℕ) (live : Bool)
    (ended : List Prepared) (plan : Plan) → file_stands id.block.file m.tree ≡ true
    → may_confirm actor version lease (closed_file id.block.file m.tree)
    (slot_at m.slots id.block id.slot).grant ≡ true
    → is_live_lease lease m.leases ≡ live → ended ≡ lease_ends lease live
    → (MayMakeAll m (ended ++ ConfirmSlot id ∷ [])
    → IsPlan m (Makes (changes_of (ended ++ ConfirmSlot id ∷ [])) Told.Confirmed) plan)
    → IsPlan m (decide_confirm actor id.block id.slot version lease m) plan
unfolding decide_confirm confirm_grant end_live_lease
confirmed m actor id version lease live ended plan stands may lives items planned =
    let made : IsPlan m (Makes (changes_of (lease_ends lease live ++ ConfirmSlot id ∷ []))
    Told.Confirmed) plan =
    subst (λ (front : List Prepared). MayMakeAll m (front ++ ConfirmSlot id ∷ [])
    → IsPlan m (Makes (changes_of (front ++ ConfirmSlot id ∷ [])) Told.Confirmed) plan) items
    planned (confirm_may m lease id live) in
    plan_as m _ _ plan
    ((λ i. confirm_grant actor id.block id.slot version lease m (stands i))
    ∙ unless_true _ _ _ may
    ∙ (λ i. Makes (cond (lives i) (Made.EndLease lease ∷ []) []
    ++ Made.ConfirmSlot id.block id.slot ∷ []) Told.Confirmed)
    ∙ (λ i. Makes (confirm_made lease id live i) Told.Confirmed)) made
