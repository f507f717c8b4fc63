-- What the check leaves to show of `puts::plan_create`.
use Rattle.std.proofs.Common.{◌≡◌, ◌∙◌, [], ◌∷◌, None, length, ap, refl, sym}
use Rattle.qfs_base.specs.declared.image.MetaImage.{MetaImage}
use Rattle.qfs_base.specs.NameTree.{add_refusal}
use Rattle.qfs_model_meta.specs.PutRequests.{decide_create}
use Rattle.qfs_model_meta.specs.TreeRows.{standing}
use Rattle.qfs_model_meta.specs.Decision.{Makes}
use Rattle.qfs_base.specs.declared.reply.MetaReply.TheVariants as Told
use Rattle.qfs_base.specs.declared.change.Change.TheVariants as Made
use Rattle.qfs_base.specs.declared.history.Entry.TheVariants as Wrote
use Rattle.qfs_planning.specs.Deciding.{told_refused, plan_as, refuse_file_none}
use Rattle.qfs_plan_files.proofs.puts.plan_create.Goals as goal

pub returns-in-Some-clause-err : goal.returns-in-Some-clause-err
unfolding decide_create
returns-in-Some-clause-err c =
    let m : MetaImage = c.args.state.now.image in
    told_refused m (decide_create c.args.actor c.args.path.now c.args.command c.args.len m) _ _ c.in-Some.refusal c.in_ok-place.place _ refl
    (ap (λ tree. add_refusal (standing tree) c.args.path.now) (sym c.names.ensures.tree)
    ∙ sym c.add_refusal.ensures ∙ c.in-Some.is)
    c.in_ok-place.ensures c.refused.ensures

pub returns-clause-ok : goal.returns-clause-ok
unfolding decide_create
returns-clause-ok c =
    let m : MetaImage = c.args.state.now.image in
    let free : add_refusal (standing m.tree) c.args.path.now ≡ None =
    ap (λ tree. add_refusal (standing tree) c.args.path.now) (sym c.names.ensures.tree)
    ∙ sym c.add_refusal.ensures ∙ c.in_default.is in
    let file : c.next_file-file.result ≡ m.next_file =
    c.next_file-file.ensures ∙ c.names-2.ensures.next_file in
    plan_as m _ _ c.in_ok-plan.plan
    (refuse_file_none (length m.history) _ _ free
    ∙ (λ i. Makes (Made.AddFile (sym c.in_ok-path.ensures i) c.args.actor c.args.command c.args.len
    ∷ []) (Told.Created (sym file i) (sym c.in_ok-place.ensures i))))
    (c.in_ok-plan.ensures m (record {
      free = ap (add_refusal (standing m.tree)) c.in_ok-path.ensures ∙ free;
      copied = c.in_ok-again.ensures ∙ sym c.in_ok-path.ensures;
      entry_is = λ i. Wrote.Created (file i) ((c.in_ok-named.ensures ∙ sym c.in_ok-path.ensures) i);
    }))
