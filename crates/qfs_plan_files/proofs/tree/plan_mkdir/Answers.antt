-- What the check leaves to show of `tree::plan_mkdir`.
use Rattle.std.proofs.Common.{◌≡◌, ◌∙◌, [], ◌∷◌, None, length, ap, refl, sym}
use Rattle.qfs_base.specs.declared.image.MetaImage.{MetaImage}
use Rattle.qfs_base.specs.NameTree.{add_refusal}
use Rattle.qfs_model_meta.specs.TreeRequests.{decide_mkdir}
use Rattle.qfs_model_meta.specs.TreeRows.{standing}
use Rattle.qfs_model_meta.specs.Decision.{Makes}
use Rattle.qfs_base.specs.declared.reply.MetaReply.TheVariants as Told
use Rattle.qfs_base.specs.declared.change.Change.TheVariants as Made
use Rattle.qfs_base.specs.declared.history.Entry.TheVariants as Wrote
use Rattle.qfs_planning.specs.Deciding.{told_refused, plan_as, refuse_file_none}
use Rattle.qfs_plan_files.proofs.tree.plan_mkdir.Goals as goal

pub returns-in-Some-clause-err : goal.returns-in-Some-clause-err
unfolding decide_mkdir
returns-in-Some-clause-err c =
    let m : MetaImage = c.args.state.now.image in
    told_refused m (decide_mkdir c.args.path.now m) _ _ c.in-Some.refusal c.in_ok-place.place _ refl
    (ap (λ tree. add_refusal (standing tree) c.args.path.now) (sym c.names.ensures.tree)
    ∙ sym c.add_refusal.ensures ∙ c.in-Some.is)
    c.in_ok-place.ensures c.refused.ensures

pub returns-clause-ok : goal.returns-clause-ok
unfolding decide_mkdir
returns-clause-ok c =
    let m : MetaImage = c.args.state.now.image in
    let free : add_refusal (standing m.tree) c.args.path.now ≡ None =
    ap (λ tree. add_refusal (standing tree) c.args.path.now) (sym c.names.ensures.tree)
    ∙ sym c.add_refusal.ensures ∙ c.in_default.is in
    plan_as m _ _ c.in_ok-plan.plan
    (refuse_file_none (length m.history) _ _ free
    ∙ (λ i. Makes (Made.AddDirectory (sym c.in_ok-path.ensures i) ∷ [])
    (Told.Done (sym c.in_ok-place.ensures i))))
    (c.in_ok-plan.ensures m (
      ap (add_refusal (standing m.tree)) c.in_ok-path.ensures ∙ free,
      (λ i. Wrote.Mkdir ((c.in_ok-named.ensures ∙ sym c.in_ok-path.ensures) i)),
    ))
