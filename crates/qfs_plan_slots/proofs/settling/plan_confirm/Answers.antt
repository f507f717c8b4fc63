-- What the check leaves to show of `settling::plan_confirm`.
use Rattle.std.proofs.Common.{◌≡◌, ◌∙◌, true, false, ap, sym}
use Rattle.qfs_base.specs.declared.image.MetaImage.{MetaImage}
use Rattle.qfs_base.specs.declared.reply.MetaReply.TheVariants as Told
use Rattle.qfs_model_meta.specs.Decision.{Tells}
use Rattle.qfs_model_meta.specs.Leases.{is_live_lease}
use Rattle.qfs_model_meta.specs.SettleRequests.{confirm_grant, decide_confirm, pending_version}
use Rattle.qfs_model_meta.specs.Slots.{slot_at}
use Rattle.qfs_model_meta.specs.TreeRows.{file_stands}
use Rattle.qfs_plan_slots.proofs.Ended.{confirmed}
use Rattle.qfs_planning.specs.Deciding.{plan_as, unless_false}
use Rattle.qfs_plan_slots.proofs.settling.plan_confirm.Goals as goal

pub returns-then-not-file_stands-clause-ok : goal.returns-then-not-file_stands-clause-ok
unfolding decide_confirm
returns-then-not-file_stands-clause-ok c =
    let m : MetaImage = c.args.state.now.image in
    let stands : file_stands c.args.id.block.file m.tree ≡ false =
    ap (file_stands c.args.id.block.file) (sym c.names.ensures.tree)
    ∙ sym c.file_stands.ensures ∙ c.if-not-file_stands.true in
    plan_as m _ _ c.in_ok-plan.plan
    (λ i. confirm_grant c.args.actor c.args.id.block c.args.id.slot c.args.version c.args.lease m
    (stands i))
    c.in_ok-plan.ensures

pub returns-then-not-may_confirm-clause-err : goal.returns-then-not-may_confirm-clause-err
unfolding decide_confirm confirm_grant
returns-then-not-may_confirm-clause-err c =
    let m : MetaImage = c.args.state.now.image in
    let stands : file_stands c.args.id.block.file m.tree ≡ true =
    ap (file_stands c.args.id.block.file) (sym c.names.ensures.tree)
    ∙ sym c.file_stands.ensures ∙ c.if-not-file_stands.false in
    let held : pending_version (slot_at m.slots c.args.id.block c.args.id.slot).grant
    ≡ c.pending_version.result =
    ap (λ slots. pending_version (slot_at slots c.args.id.block c.args.id.slot).grant)
    (sym c.blocks-then-not-may_confirm.ensures.slots)
    ∙ (λ i. pending_version (sym c.slot_at-pending.ensures i).grant)
    ∙ sym c.pending_version.ensures in
    (λ i. confirm_grant c.args.actor c.args.id.block c.args.id.slot c.args.version c.args.lease m
    (stands i))
    ∙ unless_false _ _ _ (sym c.may_confirm.ensures ∙ c.if-not-may_confirm.true)
    ∙ (λ i. Tells (Told.Stale (held i) c.args.version))

pub returns-clause-ok : goal.returns-clause-ok
returns-clause-ok c =
    let m : MetaImage = c.args.state.now.image in
    confirmed m c.args.actor c.args.id c.args.version c.args.lease c.is_live-live.result
    c.in_ok-ended.ended.items c.in_ok-plan-2.plan
    (ap (file_stands c.args.id.block.file) (sym c.names.ensures.tree)
    ∙ sym c.file_stands.ensures ∙ c.if-not-file_stands.false)
    (sym c.may_confirm.ensures ∙ c.if-not-may_confirm.false)
    (ap (is_live_lease c.args.lease) (sym c.leases.ensures.leases)
    ∙ sym c.is_live-live.ensures)
    c.in_ok-ended.ensures
    (c.in_ok-plan-2.ensures m)
