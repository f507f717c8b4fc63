-- What the check leaves to show of `tree::plan_list`.
use Rattle.std.proofs.Common.{◌≡◌, ◌∙◌, None, length, ap, refl, sym}
use Rattle.qfs_base.specs.declared.image.MetaImage.{MetaImage}
use Rattle.qfs_base.specs.NameTree.{directory_refusal, names_below}
use Rattle.qfs_model_meta.specs.TreeRequests.{decide_list}
use Rattle.qfs_model_meta.specs.Decision.{Tells}
use Rattle.qfs_model_meta.specs.TreeRows.{standing}
use Rattle.qfs_base.specs.declared.reply.MetaReply.TheVariants as Told
use Rattle.qfs_planning.specs.Deciding.{told_refused, refuse_file_none}
use Rattle.qfs_plan_files.proofs.tree.plan_list.Goals as goal

pub returns-in-Some-clause-err : goal.returns-in-Some-clause-err
unfolding decide_list
returns-in-Some-clause-err c =
    let m : MetaImage = c.args.state.now.image in
    told_refused m (decide_list c.args.path.now m) _ _ c.in-Some.refusal c.in_ok-place.place _ refl
    (ap (λ tree. directory_refusal (standing tree) c.args.path.now) (sym c.names.ensures.tree)
    ∙ sym c.directory_refusal.ensures ∙ c.in-Some.is)
    c.in_ok-place.ensures c.refused.ensures

pub returns-clause-err : goal.returns-clause-err
unfolding decide_list
returns-clause-err c =
    let m : MetaImage = c.args.state.now.image in
    let free : directory_refusal (standing m.tree) c.args.path.now ≡ None =
    ap (λ tree. directory_refusal (standing tree) c.args.path.now) (sym c.names.ensures.tree)
    ∙ sym c.directory_refusal.ensures ∙ c.in_default.is in
    let names : c.in_ok-names.names ≡ names_below (standing m.tree) c.args.path.now =
    c.in_ok-names.ensures
    ∙ ap (λ tree. names_below (standing tree) c.args.path.now) c.names-2.ensures.tree in
    refuse_file_none (length m.history) _ _ free
    ∙ (λ i. Tells (Told.Names (sym c.in_ok-place.ensures i) (sym names i)))
