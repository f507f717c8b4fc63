-- How the requests of a put are served, by what the code finds out.
use Rattle.std.proofs.Common.{◌≡◌, ℕ, [], ◌∷◌, Some, None, length, refl, sym, ap, ◌∙◌, subst}
use Rattle.qfs_base.specs.declared.image.MetaImage.{MetaImage}
use Rattle.qfs_base.specs.declared.image.TreeRow.{TreeRow}
use Rattle.qfs_base.specs.declared.reply.MetaReply.TheVariants as Told
use Rattle.qfs_base.specs.declared.reply.TreeRefusal.{TreeRefusal}
use Rattle.qfs_base.specs.declared.request.SlotId.{SlotId}
use Rattle.qfs_base.specs.NameTree.{PathNames, add_refusal}
use Rattle.qfs_base.specs.Outcome.{meta_outcome}
use Rattle.qfs_base.specs.Shape.{Shape}
use Rattle.qfs_model_meta.specs.Apply.{apply, apply_all}
use Rattle.qfs_base.specs.declared.change.Change.TheVariants.{AddFile, CloseFile}
use Rattle.qfs_model_meta.specs.Lists.{block_count}
use Rattle.qfs_model_meta.specs.PutRequests.{decide_create, decide_close, decide_abort, abort_unclosed, abort_changes, close_complete, incomplete, first_ungranted}
use Rattle.qfs_model_meta.specs.Step.{next_turn}
use Rattle.qfs_model_meta.specs.TreeRows.{standing, unclosed_file}
use Rattle.qfs_meta.specs.Condemning.{aborting}
use Rattle.qfs_meta.specs.Kept.{IsKept}
use Rattle.qfs_meta.specs.Serving.{Serves}
use Rattle.qfs_meta.proofs.CondemnLaws.{abort-is}
use Rattle.qfs_meta.proofs.StepLaws.{tells, makes, served_as, refuse_some, refuse_none, refuse_file-some, refuse_file-none, need_some, need_none}

pub create-refused : (m : MetaImage) (actor : ℕ) (path : PathNames) (command len place : ℕ) (why : TreeRefusal) → place ≡ length m.history →
    add_refusal (standing m.tree) path ≡ Some why → Serves m (decide_create actor path command len m) m (Told.Refused why place)
unfolding decide_create meta_outcome
create-refused m actor path command len place why at refused =
    subst (λ p. Serves m (decide_create actor path command len m) m (Told.Refused why p)) (sym at)
    (served_as m _ _ m _ (refuse_file-some (length m.history) _ _ why refused) (tells m (Told.Refused why (length m.history)) refl))

pub create-made : (m : MetaImage) (actor : ℕ) (path : PathNames) (command len place : ℕ) (new : MetaImage) → place ≡ length m.history →
    add_refusal (standing m.tree) path ≡ None → new ≡ next_turn (apply m (AddFile path actor command len)) → IsKept new →
    Serves m (decide_create actor path command len m) new (Told.Created m.next_file place)
unfolding decide_create meta_outcome apply_all
create-made m actor path command len place new at free made kept =
    subst (λ p. Serves m (decide_create actor path command len m) new (Told.Created m.next_file p)) (sym at)
    (served_as m _ _ new _ (refuse_file-none (length m.history) _ _ free)
    (makes m (AddFile path actor command len ∷ []) (Told.Created m.next_file (length m.history)) new refl made kept))

pub close-gone : (layout : Shape) (actor file : ℕ) (m : MetaImage) →
    unclosed_file actor file m.tree ≡ None → Serves m (decide_close layout actor file m) m Told.Gone
unfolding decide_close meta_outcome
close-gone layout actor file m gone =
    served_as m _ _ m _ (need_none Told.Gone _ _ gone) (tells m Told.Gone refl)

pub close-incomplete : (layout : Shape) (actor file : ℕ) (m : MetaImage) (row : TreeRow) (id : SlotId) →
    unclosed_file actor file m.tree ≡ Some row → first_ungranted file (block_count layout row.len) m.slots ≡ Some id →
    Serves m (decide_close layout actor file m) m (Told.Incomplete id.block.index id.slot)
unfolding decide_close close_complete incomplete meta_outcome
close-incomplete layout actor file m row id found lacks =
    served_as m _ _ m _ (need_some Told.Gone (close_complete layout actor file m) _ row found)
    (served_as m _ _ m _ (refuse_some (incomplete (first_ungranted file (block_count layout row.len) m.slots)) _ _ (ap incomplete lacks))
    (tells m (Told.Incomplete id.block.index id.slot) refl))

pub close-made : (layout : Shape) (actor file : ℕ) (m : MetaImage) (row : TreeRow) (place : ℕ) (new : MetaImage) → place ≡ length m.history →
    unclosed_file actor file m.tree ≡ Some row → first_ungranted file (block_count layout row.len) m.slots ≡ None →
    new ≡ next_turn (apply m (CloseFile file actor row.command)) → IsKept new →
    Serves m (decide_close layout actor file m) new (Told.Done place)
unfolding decide_close close_complete incomplete meta_outcome apply_all
close-made layout actor file m row place new at found granted made kept =
    subst (λ p. Serves m (decide_close layout actor file m) new (Told.Done p)) (sym at)
    (served_as m _ _ new _ (need_some Told.Gone (close_complete layout actor file m) _ row found)
    (served_as m _ _ new _ (refuse_none (incomplete (first_ungranted file (block_count layout row.len) m.slots)) _ (ap incomplete granted))
    (makes m (CloseFile file actor row.command ∷ []) (Told.Done (length m.history)) new refl made kept)))

pub abort-gone : (actor file : ℕ) (m : MetaImage) → unclosed_file actor file m.tree ≡ None → Serves m (decide_abort actor file m) m Told.Gone
unfolding decide_abort meta_outcome
abort-gone actor file m gone =
    served_as m _ _ m _ (need_none Told.Gone _ _ gone) (tells m Told.Gone refl)

pub abort-made : (actor file : ℕ) (m : MetaImage) (row : TreeRow) (place : ℕ) (new : MetaImage) → place ≡ length m.history →
    unclosed_file actor file m.tree ≡ Some row → IsKept m → new ≡ next_turn (aborting file m) → IsKept new →
    Serves m (decide_abort actor file m) new (Told.Done place)
unfolding decide_abort abort_unclosed meta_outcome
abort-made actor file m row place new at found before made kept =
    subst (λ p. Serves m (decide_abort actor file m) new (Told.Done p)) (sym at)
    (served_as m _ _ new _ (need_some Told.Gone (abort_unclosed file m) _ row found)
    (makes m (abort_changes file m.slots) (Told.Done (length m.history)) new refl (made ∙ ap next_turn (sym (abort-is file m before.slots))) kept))
