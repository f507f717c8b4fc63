-- What the check leaves to show of `tree::Tree::row_behind`.
use Rattle.std.proofs.Common.{subst}
use Rattle.qfs_base.specs.NameTree.{row_cmp}
use Rattle.qfs_base.specs.Table.{IsRising}
use Rattle.qfs_names.specs.Names.{row_path}
use Rattle.qfs_names.specs.Trees.{Contents}
use Rattle.qfs_names.proofs.NameLaws.{as-rises}
use Rattle.qfs_names.proofs.tree.Tree.row_behind.Goals as goal

pub returns-clause-rising : goal.returns-clause-rising
returns-clause-rising c =
    subst (λ (t : Contents). IsRising (row_cmp row_path) t.rows) c.self.view_is
    (as-rises c.self.inside.names.rows c.self.invariant.tree.in_order)
