-- The name tree's rules over the rows of the metaserver's tree.
use Rattle.std.proofs.Common.{◌≡◌, ◌<◌, List, [], ◌∷◌, length, find, arith}
use Rattle.std.specs.Option.{option_map}
use Rattle.qfs_base.specs.declared.image.TreeRow.{TreeRow}
use Rattle.qfs_base.specs.NameTree.{PathNames, kind_at, stands_at}
use Rattle.qfs_model_meta.specs.TreeRows.{standing, kind_of, row_path}
use Rattle.qfs_laws_tree.specs.TreeFacts.{kind-at}

-- below the root the first row of a path tells what stands there
pub kind_at_filled : (tree : List TreeRow) (path : PathNames) → 0 < length path →
    kind_at (standing tree) path ≡ option_map (λ (row : TreeRow). kind_of row.file row.closed) (find (stands_at row_path path) tree)
kind_at_filled tree [] above = absurd (omega arith)
kind_at_filled tree (name ∷ names) above = kind-at tree name names
