-- What the check leaves to show of `gets::plan_release`.
use Rattle.std.proofs.Common.{◌∙◌, [], ◌∷◌, ap, sym}
use Rattle.qfs_base.specs.declared.image.MetaImage.{MetaImage}
use Rattle.qfs_base.specs.declared.change.Change.TheVariants as Made
use Rattle.qfs_base.specs.declared.reply.MetaReply.TheVariants as Told
use Rattle.qfs_model_meta.specs.Decision.{Makes}
use Rattle.qfs_model_meta.specs.GetRequests.{decide_release}
use Rattle.qfs_model_meta.specs.Leases.{holds_lease}
use Rattle.qfs_planning.specs.Deciding.{plan_as, unless_true, unless_false}
use Rattle.qfs_plan_files.proofs.gets.plan_release.Goals as goal

pub returns-then-not-holds-clause-err : goal.returns-then-not-holds-clause-err
unfolding decide_release
returns-then-not-holds-clause-err c =
    unless_false (holds_lease c.args.actor c.args.lease c.args.state.now.image.leases) Told.Gone _
    (ap (holds_lease c.args.actor c.args.lease) (sym c.leases.ensures.leases)
    ∙ sym c.holds.ensures ∙ c.if-not-holds.true)

pub returns-clause-ok : goal.returns-clause-ok
unfolding decide_release
returns-clause-ok c =
    let m : MetaImage = c.args.state.now.image in
    plan_as m _ _ c.in_ok-plan.plan
    (unless_true (holds_lease c.args.actor c.args.lease m.leases) Told.Gone _
    (ap (holds_lease c.args.actor c.args.lease) (sym c.leases.ensures.leases)
    ∙ sym c.holds.ensures ∙ c.if-not-holds.false)
    ∙ (λ i. Makes (Made.EndLease c.args.lease ∷ []) (Told.Done (sym c.in_ok-place.ensures i))))
    (c.in_ok-plan.ensures m tt)
