-- How the requests of a get are served, by what the code finds out.
use Rattle.std.proofs.Common.{◌≡◌, ℕ, true, false, [], ◌∷◌, Some, None, length, refl, sym, subst}
use Rattle.qfs_base.specs.declared.image.MetaImage.{MetaImage}
use Rattle.qfs_base.specs.declared.reply.MetaReply.TheVariants as Told
use Rattle.qfs_base.specs.declared.reply.Opened.{Opened}
use Rattle.qfs_base.specs.declared.reply.TreeRefusal.{TreeRefusal}
use Rattle.qfs_base.specs.NameTree.{PathNames, look_refusal}
use Rattle.qfs_base.specs.Outcome.{meta_outcome}
use Rattle.qfs_base.specs.Shape.{Shape}
use Rattle.qfs_model_meta.specs.Apply.{apply, apply_all}
use Rattle.qfs_base.specs.declared.change.Change.TheVariants.{GiveLease, EndLease}
use Rattle.qfs_model_meta.specs.GetRequests.{decide_open, decide_release, opened}
use Rattle.qfs_model_meta.specs.Leases.{holds_lease, lease_end}
use Rattle.qfs_model_meta.specs.Step.{next_turn}
use Rattle.qfs_model_meta.specs.TreeRows.{standing, row_at}
use Rattle.qfs_meta.specs.Kept.{IsKept}
use Rattle.qfs_meta.specs.Serving.{Serves}
use Rattle.qfs_meta.proofs.StepLaws.{tells, makes, served_as, refuse_file-some, refuse_file-none, unless_true, unless_false}

pub open-refused : (layout : Shape) (term actor : ℕ) (path : PathNames) (m : MetaImage) (place : ℕ) (why : TreeRefusal) → place ≡ length m.history →
    look_refusal (standing m.tree) path ≡ Some why → Serves m (decide_open layout term actor path m) m (Told.Refused why place)
unfolding decide_open meta_outcome
open-refused layout term actor path m place why at refused =
    subst (λ p. Serves m (decide_open layout term actor path m) m (Told.Refused why p)) (sym at)
    (served_as m _ _ m _ (refuse_file-some (length m.history) _ _ why refused) (tells m (Told.Refused why (length m.history)) refl))

pub open-made : (layout : Shape) (term actor : ℕ) (path : PathNames) (m new : MetaImage) (told : Opened) →
    look_refusal (standing m.tree) path ≡ None → told ≡ opened layout (row_at m.tree path) m →
    new ≡ next_turn (apply m (GiveLease actor (row_at m.tree path).file (lease_end term m.clock))) → IsKept new →
    Serves m (decide_open layout term actor path m) new (Told.Opened told)
unfolding decide_open meta_outcome apply_all
open-made layout term actor path m new told stands tells-it made kept =
    subst (λ t. Serves m (decide_open layout term actor path m) new (Told.Opened t)) (sym tells-it)
    (served_as m _ _ new _ (refuse_file-none (length m.history) _ _ stands)
    (makes m (GiveLease actor (row_at m.tree path).file (lease_end term m.clock) ∷ []) (Told.Opened (opened layout (row_at m.tree path) m)) new refl made kept))

pub release-gone : (actor lease : ℕ) (m : MetaImage) → holds_lease actor lease m.leases ≡ false →
    Serves m (decide_release actor lease m) m Told.Gone
unfolding decide_release meta_outcome
release-gone actor lease m none =
    served_as m _ _ m _ (unless_false (holds_lease actor lease m.leases) Told.Gone _ none) (tells m Told.Gone refl)

pub release-made : (actor lease : ℕ) (m : MetaImage) (place : ℕ) (new : MetaImage) → place ≡ length m.history →
    holds_lease actor lease m.leases ≡ true → new ≡ next_turn (apply m (EndLease lease)) → IsKept new →
    Serves m (decide_release actor lease m) new (Told.Done place)
unfolding decide_release meta_outcome apply_all
release-made actor lease m place new at holds made kept =
    subst (λ p. Serves m (decide_release actor lease m) new (Told.Done p)) (sym at)
    (served_as m _ _ new _ (unless_true (holds_lease actor lease m.leases) Told.Gone _ holds)
    (makes m (EndLease lease ∷ []) (Told.Done (length m.history)) new refl made kept))
