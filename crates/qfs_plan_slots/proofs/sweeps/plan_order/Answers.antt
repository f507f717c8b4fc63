-- What the check leaves to show of `sweeps::plan_order`.
use Rattle.std.proofs.Common.{◌∙◌, [], ◌∷◌, ap, sym}
use Rattle.qfs_base.specs.declared.change.Change.TheVariants as Made
use Rattle.qfs_base.specs.declared.image.CondemnedRow.{CondemnedRow}
use Rattle.qfs_base.specs.declared.image.MetaImage.{MetaImage}
use Rattle.qfs_base.specs.declared.reply.Condemned.{Condemned}
use Rattle.qfs_base.specs.declared.reply.MetaReply.TheVariants as Told
use Rattle.qfs_model_meta.specs.Condemned.{next_to_go}
use Rattle.qfs_model_meta.specs.Decision.{Makes}
use Rattle.qfs_model_meta.specs.SweepRequests.{decide_order, order_row}
use Rattle.qfs_planning.specs.Deciding.{need_none, need_some, plan_as}
use Rattle.qfs_plan_slots.proofs.Found.{found_by, none_by}
use Rattle.qfs_plan_slots.proofs.sweeps.plan_order.Goals as goal

pub returns-in_default-clause-err : goal.returns-in_default-clause-err
unfolding decide_order
returns-in_default-clause-err c =
    let m : MetaImage = c.args.state.now.image in
    need_none Told.Nothing (order_row m.turn) _
    (none_by (λ (row : CondemnedRow). row.condemned)
    (next_to_go m.servers c.args.after m.condemned)
    (sym c.next_to_go.ensures ∙ c.in_default.is))

pub returns-clause-ok : goal.returns-clause-ok
unfolding decide_order order_row
returns-clause-ok c =
    let m : MetaImage = c.args.state.now.image in
    let found = found_by (λ (row : CondemnedRow). row.condemned)
    (next_to_go m.servers c.args.after m.condemned) c.in-Some.condemned
    (sym c.next_to_go.ensures ∙ c.in-Some.is) in
    plan_as m _ _ c.in_ok-plan.plan
    (need_some Told.Nothing (order_row m.turn) _ found.0 found.1.0
    ∙ (λ i. Makes (Made.MarkOrdered (ap (λ (it : Condemned). it.number) found.1.1 i) ∷ [])
    (Told.Ordered (found.1.1 i) (sym c.turn-turn.ensures i))))
    (c.in_ok-plan.ensures m tt)
