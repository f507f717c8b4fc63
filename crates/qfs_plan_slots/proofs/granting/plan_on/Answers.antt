-- What the check leaves to show of `granting::plan_on`.
use Rattle.std.proofs.Common.{◌≡◌, ◌∙◌, ◌<◌, ◌++◌, [], ◌∷◌, IfOk, ap, arith, subst, sym}
use Rattle.qfs_base.specs.declared.image.MetaImage.{MetaImage}
use Rattle.qfs_base.specs.declared.image.SlotRecord.{SlotRecord}
use Rattle.qfs_model_meta.specs.Slots.{slot_at}
use Rattle.qfs_place.specs.Loads.{load_at}
use Rattle.qfs_plan_slots.proofs.Regrant.{regrant_is, regrant_may}
use Rattle.qfs_state.specs.declared.prepared.Prepared.TheVariants.{GrantSlot}
use Rattle.qfs_state.specs.Planning.{IsPlan, MayMakeAll}
use Rattle.qfs_plan_slots.proofs.granting.plan_on.Goals as goal

pub returns : goal.returns
returns c =
    let m : MetaImage = c.args.state.now.image in
    let pending : (slot_at m.slots c.args.id.block c.args.id.slot).grant
    ≡ c.slot_at-pending.result.grant =
    ap (λ slots. (slot_at slots c.args.id.block c.args.id.slot).grant)
    (sym c.blocks-2.ensures.slots)
    ∙ ap (λ (state : SlotRecord). state.grant) (sym c.slot_at-pending.ensures) in
    subst (λ decision. IfOk c.plan_of.result (IsPlan m decision))
    (sym (regrant_is c.args.layout.now c.args.actor c.args.len m c.args.id c.args.server
    c.slot_at-pending.result.grant c.in_ok-failed.failed.items c.in_ok-told.told pending
    c.in_ok-failed.ensures c.in_ok-told.ensures))
    (c.plan_of.ensures m
    (subst (λ failed. MayMakeAll m
    (failed ++ GrantSlot c.args.id c.args.server c.args.actor 0 ∷ []))
    (sym c.in_ok-failed.ensures)
    (regrant_may m c.args.id c.args.server c.args.actor c.slot_at-pending.result.grant
    c.blocks-2.ensures.fit.in_order pending c.requires.slot c.requires.server_there
    (subst (λ n. n < 4294967295)
    (c.on-count.ensures ∙ ap (λ loads. (load_at loads c.args.server).count) c.loads.ensures)
    (omega (arith, c.on-count.type_inv, c.if-count.false))))))
