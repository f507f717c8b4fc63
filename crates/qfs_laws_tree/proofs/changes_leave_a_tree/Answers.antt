use Rattle.qfs_laws_tree.specs.Move.{move-tree}
use Rattle.qfs_laws_tree.specs.Tree.{tree-of, of-tree}
use Rattle.qfs_laws_tree.specs.TreeChanges.{tree-removed, tree-emptied}
use Rattle.qfs_laws_tree.proofs.changes_leave_a_tree.Goals as goal

pub returns : goal.returns
returns c = record {
  removed = λ next path tree looks h. of-tree next _
      (tree-removed next path tree looks (tree-of next tree h));
  emptied = λ next path tree free h. of-tree next _
      (tree-emptied next path tree free (tree-of next tree h));
  moved = λ from to tree next is free h. of-tree next _
      (move-tree from to tree next is free (tree-of next tree h));
}
