-- What the check leaves to show of `tree::Tree::row_named`.
use Rattle.std.proofs.Common.{ap, ◌∙◌, find}
use Rattle.qfs_base.specs.NameTree.{stands_at}
use Rattle.qfs_names.specs.Names.{row_path}
use Rattle.qfs_names.specs.Trees.{Contents}
use Rattle.qfs_names.proofs.TreeLaws.{find_at}
use Rattle.qfs_names.proofs.tree.Tree.row_named.Goals as goal

pub returns : goal.returns
returns c =
    c.get.ensures ∙ find_at c.args.names.now c.self.inside.names.rows
    ∙ ap (λ (t : Contents). find (stands_at row_path c.args.names.now) t.rows) c.self.view_is
