-- A closed file of the name tree: where the rules let it be opened its row is found. Cited by the
-- steps of a get.
use Rattle.std.proofs.Common.{◌≡◌, ℕ, zero, suc, Bool, true, false, List}
use Rattle.std.proofs.Common.{find, Some, None, refl}
use Rattle.qfs_base.specs.NameTree.{PathNames, stands_at, look_refusal}
use Rattle.qfs_base.specs.declared.image.TreeRow.{TreeRow}
use Rattle.qfs_base.specs.declared.lists.NameKind.TheVariants as Is
use Rattle.qfs_model_meta.specs.TreeRows.{kind_of, row_at, row_path, standing}
use Rattle.qfs_laws_tree.specs.Files.{closed-root}
use Rattle.qfs_laws_tree.specs.TreeFacts.{kind-row, look-closed}

-- a closed file stands at a path
pub record ClosedAt (tree : List TreeRow) (path : PathNames) : Type 0 where
  pub row : TreeRow
  pub found : find (stands_at row_path path) tree ≡ Some row
  pub closed : row.closed ≡ true

closed-kind : (file : ℕ) (closed : Bool) → kind_of file closed ≡ Is.Closed → closed ≡ true
unfolding kind_of
closed-kind zero closed is = absurd (cc)
closed-kind (suc n) true is = refl
closed-kind (suc n) false is = absurd (cc)

pub closed-at : (tree : List TreeRow) (path : PathNames) → look_refusal (standing tree) path ≡ None
    → ClosedAt tree path
closed-at tree path none =
    let at = kind-row tree path Is.Closed (closed-root tree path none)
    (look-closed (standing tree) path none) in
    record { row = at.0; found = at.1; closed = closed-kind at.0.file at.0.closed at.3 }

-- it is the row at its path
pub row-found : (tree : List TreeRow) (path : PathNames) (c : ClosedAt tree path)
    → row_at tree path ≡ c.row
unfolding row_at
row-found tree path c = rw c.found refl
