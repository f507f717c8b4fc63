-- What the check leaves to show of `tree::plan_remove`.
use Rattle.std.proofs.Common.{◌≡◌, ◌∙◌, List, [], ◌∷◌, None, length, ap, refl, sym}
use Rattle.qfs_base.specs.declared.image.MetaImage.{MetaImage}
use Rattle.std.proofs.Common.{◌++◌, map}
use Rattle.qfs_base.specs.declared.image.SlotRow.{SlotRow}
use Rattle.qfs_base.specs.NameTree.{look_refusal}
use Rattle.qfs_model_meta.specs.Slots.{slot_id, slots_of}
use Rattle.qfs_model_meta.specs.TreeRequests.{decide_remove, remove_changes}
use Rattle.qfs_model_meta.specs.TreeRows.{row_at}
use Rattle.qfs_namespace.specs.declared.file.KnownFile.{KnownFile}
use Rattle.qfs_namespace.specs.Joined.{known_in}
use Rattle.qfs_plan_files.specs.Losing.{emptied}
use Rattle.qfs_planning.specs.Leaving.{lose_first}
use Rattle.qfs_state.specs.declared.prepared.Prepared.TheVariants.{RemoveFile}
use Rattle.qfs_model_meta.specs.TreeRows.{standing}
use Rattle.qfs_model_meta.specs.Decision.{Makes}
use Rattle.qfs_base.specs.declared.reply.MetaReply.TheVariants as Told
use Rattle.qfs_base.specs.declared.change.Change.TheVariants as Made
use Rattle.qfs_base.specs.declared.history.Entry.TheVariants as Wrote
use Rattle.qfs_planning.specs.Deciding.{told_refused, plan_as, refuse_file_none}
use Rattle.qfs_plan_files.proofs.tree.plan_remove.Goals as goal

pub returns-in-Some-clause-err : goal.returns-in-Some-clause-err
unfolding decide_remove
returns-in-Some-clause-err c =
    let m : MetaImage = c.args.state.now.image in
    told_refused m (decide_remove c.args.path.now m) _ _ c.in-Some.refusal c.in_ok-place.place _ refl
    (ap (λ tree. look_refusal (standing tree) c.args.path.now) (sym c.names.ensures.tree)
    ∙ sym c.look_refusal.ensures ∙ c.in-Some.is)
    c.in_ok-place.ensures c.refused.ensures

pub returns-clause-ok : goal.returns-clause-ok
unfolding decide_remove remove_changes slot_id
returns-clause-ok c =
    let m : MetaImage = c.args.state.now.image in
    let free : look_refusal (standing m.tree) c.args.path.now ≡ None =
    ap (λ tree. look_refusal (standing tree) c.args.path.now) (sym c.names.ensures.tree)
    ∙ sym c.look_refusal.ensures ∙ c.in_default.is in
    let file : (row_at m.tree c.args.path.now).file ≡ c.file_at-file.result.file =
    sym (ap (λ (k : KnownFile). k.file) (c.file_at-file.ensures
    ∙ ap (λ tree. known_in (row_at tree c.args.path.now)) c.names-2.ensures.tree)) in
    let rows : List SlotRow = slots_of c.file_at-file.result.file m.slots in
    let changes : c.in_ok-changes.changes.items ≡ map emptied rows =
    c.in_ok-changes.ensures
    ∙ ap (map emptied) (c.rows_of.ensures
    ∙ ap (slots_of c.file_at-file.result.file) c.blocks-2.ensures.slots) in
    let entry : Wrote.Removed c.in_ok-named.named ≡ Wrote.Removed c.in_ok-path.path =
    λ i. Wrote.Removed ((c.in_ok-named.ensures ∙ sym c.in_ok-path.ensures) i) in
    plan_as m _ _ c.in_ok-plan.plan
    (refuse_file_none (length m.history) _ _ free
    ∙ (λ i. Makes (map (λ (row : SlotRow). Made.EmptySlot row.block row.slot)
    (slots_of (file i) m.slots) ++ Made.RemoveFile (sym c.in_ok-path.ensures i) (file i) ∷ [])
    (Told.Done (sym c.in_ok-place.ensures i))))
    (lose_first emptied (λ (row : SlotRow). Made.EmptySlot row.block row.slot) (λ row. refl)
    (λ row. ((λ n. tt), tt))
    (RemoveFile c.in_ok-path.path c.file_at-file.result.file (Wrote.Removed c.in_ok-named.named))
    (Told.Done c.in_ok-place.place) rows m c.in_ok-changes.changes.items c.in_ok-plan.plan changes
    (λ n same. (
      ap (λ tree. look_refusal (standing tree) c.in_ok-path.path) same
          ∙ ap (look_refusal (standing m.tree)) c.in_ok-path.ensures ∙ free,
      entry,
    ))
    c.in_ok-plan.ensures)
