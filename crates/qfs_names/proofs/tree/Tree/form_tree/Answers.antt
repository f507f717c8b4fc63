use Rattle.std.proofs.Common.{◌^◌, map, subst}
use Rattle.qfs_laws_tree.specs.Tree.{HasTree}
use Rattle.qfs_names.specs.Trees.{Contents, as_row}
use Rattle.qfs_names.proofs.tree.Tree.form_tree.Goals as goal

pub returns : goal.returns
returns c =
    subst (λ (t : Contents). HasTree (2 ^ 32) (map as_row t.rows)) c.self.view_is
    c.self.invariant.tree
