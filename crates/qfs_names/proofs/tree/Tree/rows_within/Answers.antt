-- What the check leaves to show of `tree::Tree::rows_within`.
use Rattle.std.proofs.Common.{ap, ◌∙◌, filter}
use Rattle.qfs_base.specs.NameTree.{is_within}
use Rattle.qfs_names.specs.declared.row.NameRow.{NameRow}
use Rattle.qfs_names.specs.Trees.{Contents}
use Rattle.qfs_names.proofs.TreeLaws.{filter_within}
use Rattle.qfs_names.proofs.tree.Tree.rows_within.Goals as goal

pub returns : goal.returns
returns c =
    c.run.ensures ∙ filter_within c.args.names.now c.self.inside.names.rows
    ∙ ap (λ (t : Contents). filter (λ (row : NameRow). is_within c.args.names.now row.path) t.rows)
    c.self.view_is
