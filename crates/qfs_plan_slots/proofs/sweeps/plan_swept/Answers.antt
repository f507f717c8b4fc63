-- What the check leaves to show of `sweeps::plan_swept`.
use Rattle.std.proofs.Common.{[], ◌∷◌, sym}
use Rattle.qfs_base.specs.declared.change.Change.TheVariants as Made
use Rattle.qfs_base.specs.declared.image.MetaImage.{MetaImage}
use Rattle.qfs_base.specs.declared.reply.MetaReply.TheVariants as Told
use Rattle.qfs_model_meta.specs.Decision.{Makes}
use Rattle.qfs_model_meta.specs.SweepRequests.{decide_swept}
use Rattle.qfs_planning.specs.Deciding.{plan_as}
use Rattle.qfs_plan_slots.proofs.sweeps.plan_swept.Goals as goal

pub returns-clause-ok : goal.returns-clause-ok
unfolding decide_swept
returns-clause-ok c =
    let m : MetaImage = c.args.state.now.image in
    plan_as m _ _ c.in_ok-plan.plan
    (λ i. Makes (Made.TakeCondemned c.args.number ∷ []) (Told.Done (sym c.in_ok-place.ensures i)))
    (c.in_ok-plan.ensures m tt)
