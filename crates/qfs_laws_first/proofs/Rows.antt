-- What holds of each item of a list, by its place or its number. Cited where a world changes one
-- server or actor.
use Rattle.std.proofs.Common.{◌≡◌, ℕ, zero, suc, List, [], ◌∷◌, Some, subst}
use Rattle.std.specs.Prelude.{slice_get, slice_set}
use Rattle.qfs_base.specs.Table.{Each}
use Rattle.qfs_model_world.specs.World.{numbered, renumbered}

module _ {X : Type 0} where
  pub each_at : (P : X → Type 0) (xs : List X) (k : ℕ) (x : X) → Each P xs → slice_get xs k ≡ Some x
      → P x
  each_at P [] k x each at = absurd (cc)
  each_at P (y ∷ ys) zero x each at = let same : y ≡ x = cc in subst P same each.0
  each_at P (y ∷ ys) (suc k) x each at = each_at P ys k x each.1 at

  pub each_set : (P : X → Type 0) (xs : List X) (k : ℕ) (x : X) → Each P xs → P x
      → Each P (slice_set xs k x)
  each_set P [] k x each here = tt
  each_set P (y ∷ ys) zero x each here = (here, each.1)
  each_set P (y ∷ ys) (suc k) x each here = (each.0, each_set P ys k x each.1 here)

  pub each_numbered : (P : X → Type 0) (xs : List X) (number : ℕ) (x : X) → Each P xs
      → numbered xs number ≡ Some x → P x
  unfolding numbered
  each_numbered P xs zero x each at = absurd (cc)
  each_numbered P xs (suc k) x each at = each_at P xs k x each at

  pub each_renumbered : (P : X → Type 0) (xs : List X) (number : ℕ) (x : X) → Each P xs → P x
      → Each P (renumbered xs number x)
  unfolding renumbered
  each_renumbered P xs zero x each here = each
  each_renumbered P xs (suc k) x each here = each_set P xs k x each here
