-- An empty disk has no byte behind a gate.
use Rattle.std.proofs.Common.{refl, sym, subst, [], List, ℕ}
use Rattle.qfs_log.specs.Gates.{Staged, equals}
use Rattle.qfs_log.proofs.log.Log.over_empty.Goals as goal

pub returns-clause-empty : goal.returns-clause-empty
unfolding equals
returns-clause-empty g c = λ left_tells right_tells left right. record {
  current_tells = left_tells;
  other_tells = right_tells;
  images = λ image is. subst (λ (l : List ℕ). Staged [] (equals []) l) (sym (left image is)) (record { same = refl; behind = refl });
  other = right;
  image = tt;
}
