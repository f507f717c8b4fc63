-- What the check leaves to show of `tree::plan_rename`.
use Rattle.std.proofs.Common.{◌≡◌, ◌∙◌, [], ◌∷◌, None, length, ap, refl, sym}
use Rattle.qfs_base.specs.declared.image.MetaImage.{MetaImage}
use Rattle.std.proofs.Common.{subst}
use Rattle.qfs_base.specs.NameTree.{PathNames, rename_refusal}
use Rattle.qfs_namespace.specs.Namespaces.{IsMoved}
use Rattle.qfs_model_meta.specs.TreeRequests.{decide_rename}
use Rattle.qfs_model_meta.specs.TreeRows.{standing}
use Rattle.qfs_model_meta.specs.Decision.{Makes}
use Rattle.qfs_base.specs.declared.reply.MetaReply.TheVariants as Told
use Rattle.qfs_base.specs.declared.change.Change.TheVariants as Made
use Rattle.qfs_base.specs.declared.history.Entry.TheVariants as Wrote
use Rattle.qfs_planning.specs.Deciding.{told_refused, plan_as, refuse_file_none}
use Rattle.qfs_plan_files.proofs.tree.plan_rename.Goals as goal

pub returns-in-Some-clause-err : goal.returns-in-Some-clause-err
unfolding decide_rename
returns-in-Some-clause-err c =
    let m : MetaImage = c.args.state.now.image in
    told_refused m (decide_rename c.args.from.now c.args.to.now m) _ _ c.in-Some.refusal c.in_ok-place.place _ refl
    (ap (λ tree. rename_refusal (standing tree) c.args.from.now c.args.to.now) (sym c.names.ensures.tree)
    ∙ sym c.rename_refusal.ensures ∙ c.in-Some.is)
    c.in_ok-place.ensures c.refused.ensures

pub moved-requires : goal.moved-requires
moved-requires c =
    ap (λ tree. rename_refusal (standing tree) c.args.from.now c.args.to.now)
    (c.names-2.ensures.tree ∙ sym c.names.ensures.tree)
    ∙ sym c.rename_refusal.ensures ∙ c.in_default.is

pub returns-clause-ok : goal.returns-clause-ok
unfolding decide_rename
returns-clause-ok c =
    let m : MetaImage = c.args.state.now.image in
    let free : rename_refusal (standing m.tree) c.args.from.now c.args.to.now ≡ None =
    ap (λ tree. rename_refusal (standing tree) c.args.from.now c.args.to.now) (sym c.names.ensures.tree)
    ∙ sym c.rename_refusal.ensures ∙ c.in_default.is in
    let moved : IsMoved c.args.from.now c.args.to.now m.tree c.in_ok-moved.moved =
    subst (λ tree. IsMoved c.args.from.now c.args.to.now tree c.in_ok-moved.moved)
    c.names-2.ensures.tree c.in_ok-moved.ensures in
    plan_as m _ _ c.in_ok-plan.plan
    (refuse_file_none (length m.history) _ _ free
    ∙ (λ i. Makes (Made.MovePath (sym c.in_ok-from.ensures i) (sym c.in_ok-to.ensures i) ∷ [])
    (Told.Done (sym c.in_ok-place.ensures i))))
    (c.in_ok-plan.ensures m (record {
      free = (λ i. rename_refusal (standing m.tree) (c.in_ok-from.ensures i) (c.in_ok-to.ensures i))
          ∙ free;
      planned = subst (λ (to : PathNames). IsMoved c.in_ok-from.from to m.tree c.in_ok-moved.moved)
          (sym c.in_ok-to.ensures)
          (subst (λ (from : PathNames). IsMoved from c.args.to.now m.tree c.in_ok-moved.moved)
          (sym c.in_ok-from.ensures) moved);
      entry_is = λ i. Wrote.Renamed ((c.in_ok-old_name.ensures ∙ sym c.in_ok-from.ensures) i)
          ((c.in_ok-new_name.ensures ∙ sym c.in_ok-to.ensures) i);
    }))
