-- What the check leaves to show of `moves::plan_copy`.
use Rattle.std.proofs.Common.{◌∙◌, IfOk, IfErr, ap, subst, sym}
use Rattle.qfs_base.specs.declared.image.SlotRecord.{SlotRecord}
use Rattle.qfs_model_meta.specs.MoveRequests.{move_copy}
use Rattle.qfs_model_meta.specs.Slots.{slot_at}
use Rattle.qfs_state.specs.Planning.{IsPlan, IsUnplanned}
use Rattle.qfs_plan_repairs.proofs.Refusals.{pending_some, pending_none}
use Rattle.qfs_plan_repairs.proofs.moves.plan_copy.Goals as goal

pub returns-in-Some-clause-err : goal.returns-in-Some-clause-err
unfolding move_copy
returns-in-Some-clause-err c = pending_some _ _ c.in-Some.grant
    (ap (λ (state : SlotRecord). state.grant)
    (sym (c.slot_at.ensures
    ∙ ap (λ slots. slot_at slots c.args.id.block c.args.id.slot) c.blocks-2.ensures.slots))
    ∙ c.in-Some.is)

pub plan_free-requires-clause-free : goal.plan_free-requires-clause-free
plan_free-requires-clause-free c =
    (ap (λ (state : SlotRecord). state.grant)
    (sym (c.slot_at.ensures
    ∙ ap (λ slots. slot_at slots c.args.id.block c.args.id.slot) c.blocks-2.ensures.slots))
    ∙ c.in-None.is)

pub returns-in-None-clause-ok : goal.returns-in-None-clause-ok
unfolding move_copy
returns-in-None-clause-ok c =
    subst (λ decision. IfOk c.plan_free.result (IsPlan c.args.state.now.image decision))
    (sym (pending_none _ _ (ap (λ (state : SlotRecord). state.grant)
    (sym (c.slot_at.ensures
    ∙ ap (λ slots. slot_at slots c.args.id.block c.args.id.slot) c.blocks-2.ensures.slots))
    ∙ c.in-None.is))) c.plan_free.ensures.ok

pub returns-in-None-clause-err : goal.returns-in-None-clause-err
unfolding move_copy
returns-in-None-clause-err c =
    subst (λ decision. IfErr c.plan_free.result (IsUnplanned decision))
    (sym (pending_none _ _ (ap (λ (state : SlotRecord). state.grant)
    (sym (c.slot_at.ensures
    ∙ ap (λ slots. slot_at slots c.args.id.block c.args.id.slot) c.blocks-2.ensures.slots))
    ∙ c.in-None.is))) c.plan_free.ensures.err
