-- What the check leaves to show of `repairs::plan_missing`.
use Rattle.std.proofs.Common.{◌≡◌, ◌∙◌, IfOk, IfErr, List, ap, subst, sym}
use Rattle.qfs_base.specs.declared.image.MetaImage.{MetaImage}
use Rattle.qfs_base.specs.declared.image.SlotRecord.{SlotRecord}
use Rattle.qfs_base.specs.declared.image.SlotRow.{SlotRow}
use Rattle.qfs_base.specs.declared.request.SlotId.{SlotId}
use Rattle.qfs_model_meta.specs.RepairRequests.{is_missing}
use Rattle.qfs_model_meta.specs.Slots.{slot_at}
use Rattle.qfs_planning.specs.Deciding.{unless_false, unless_true}
use Rattle.qfs_state.specs.Planning.{IsPlan, IsUnplanned}
use Rattle.qfs_plan_repairs.proofs.repairs.plan_missing.Goals as goal

known : (image : MetaImage) (id : SlotId) (slots : List SlotRow) (record-of : SlotRecord)
    → record-of ≡ slot_at slots id.block id.slot → slots ≡ image.slots
    → (slot_at image.slots id.block id.slot).current ≡ record-of.current
known image id slots record-of e same =
    ap (λ (state : SlotRecord). state.current)
    (sym (e ∙ ap (λ rows. slot_at rows id.block id.slot) same))

pub returns-then-not-is_missing-clause-err : goal.returns-then-not-is_missing-clause-err
returns-then-not-is_missing-clause-err c = unless_false _ _ _
    (ap (is_missing c.args.state.now.image.clock c.args.state.now.image.servers)
    (known c.args.state.now.image c.args.id c.blocks-2.result.now.slots c.slot_at-record.result
    c.slot_at-record.ensures c.blocks-2.ensures.slots)
    ∙ sym c.is_missing.ensures ∙ c.if-not-is_missing.true)

pub returns-clause-ok : goal.returns-clause-ok
returns-clause-ok c =
    subst (λ decision. IfOk c.plan_recovery.result (IsPlan c.args.state.now.image decision))
    (sym (unless_true _ _ _
    (ap (is_missing c.args.state.now.image.clock c.args.state.now.image.servers)
    (known c.args.state.now.image c.args.id c.blocks-2.result.now.slots c.slot_at-record.result
    c.slot_at-record.ensures c.blocks-2.ensures.slots)
    ∙ sym c.is_missing.ensures ∙ c.if-not-is_missing.false))) c.plan_recovery.ensures.ok

pub returns-clause-err : goal.returns-clause-err
returns-clause-err c =
    subst (λ decision. IfErr c.plan_recovery.result (IsUnplanned decision))
    (sym (unless_true _ _ _
    (ap (is_missing c.args.state.now.image.clock c.args.state.now.image.servers)
    (known c.args.state.now.image c.args.id c.blocks-2.result.now.slots c.slot_at-record.result
    c.slot_at-record.ensures c.blocks-2.ensures.slots)
    ∙ sym c.is_missing.ensures ∙ c.if-not-is_missing.false))) c.plan_recovery.ensures.err
