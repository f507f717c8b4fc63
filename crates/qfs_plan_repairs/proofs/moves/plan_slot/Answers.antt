-- What the check leaves to show of `moves::plan_slot`.
use Rattle.std.proofs.Common.{◌≡◌, ◌∙◌, IfOk, IfErr, List, Option, ap, subst, sym}
use Rattle.qfs_base.specs.declared.chunk.Copy.{Copy}
use Rattle.qfs_base.specs.declared.image.MetaImage.{MetaImage}
use Rattle.qfs_base.specs.declared.image.SlotRecord.{SlotRecord}
use Rattle.qfs_base.specs.declared.image.SlotRow.{SlotRow}
use Rattle.qfs_base.specs.declared.request.SlotId.{SlotId}
use Rattle.qfs_model_meta.specs.Slots.{slot_at}
use Rattle.qfs_planning.specs.Deciding.{need_none, need_some}
use Rattle.qfs_state.specs.Planning.{IsPlan, IsUnplanned}
use Rattle.qfs_plan_repairs.proofs.moves.plan_slot.Goals as goal

-- the current copy of a slot, as it was read
current : (image : MetaImage) (id : SlotId) (slots : List SlotRow) (read : SlotRecord)
    (copy : Option Copy) → read ≡ slot_at slots id.block id.slot → slots ≡ image.slots
    → read.current ≡ copy → (slot_at image.slots id.block id.slot).current ≡ copy
current image id slots read copy is same found =
    ap (λ (record-of : SlotRecord). record-of.current)
    (sym (is ∙ ap (λ rows. slot_at rows id.block id.slot) same)) ∙ found

pub returns-in-None-clause-err : goal.returns-in-None-clause-err
returns-in-None-clause-err c =
    need_none _ _ _ (current c.args.state.now.image c.args.id c.blocks-2.result.now.slots
    c.slot_at.result _ c.slot_at.ensures c.blocks-2.ensures.slots c.in-None.is)

pub returns-in-Some-clause-ok : goal.returns-in-Some-clause-ok
returns-in-Some-clause-ok c =
    subst (λ decision. IfOk c.plan_copy.result (IsPlan c.args.state.now.image decision))
    (sym (need_some _ _ _ c.in-Some.copy (current c.args.state.now.image c.args.id
    c.blocks-2.result.now.slots c.slot_at.result _ c.slot_at.ensures c.blocks-2.ensures.slots
    c.in-Some.is))) c.plan_copy.ensures.ok

pub returns-in-Some-clause-err : goal.returns-in-Some-clause-err
returns-in-Some-clause-err c =
    subst (λ decision. IfErr c.plan_copy.result (IsUnplanned decision))
    (sym (need_some _ _ _ c.in-Some.copy (current c.args.state.now.image c.args.id
    c.blocks-2.result.now.slots c.slot_at.result _ c.slot_at.ensures c.blocks-2.ensures.slots
    c.in-Some.is))) c.plan_copy.ensures.err
