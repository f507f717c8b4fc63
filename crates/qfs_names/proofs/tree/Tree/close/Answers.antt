-- What the check leaves to show of `tree::Tree::close`.
use Rattle.std.proofs.Common.{ap, sym, ◌∙◌}
use Rattle.std.specs.Ordering.{is_eq}
use Rattle.qfs_base.specs.NameTree.{PathNames, path_cmp}
use Rattle.qfs_base.specs.Table.{change_where}
use Rattle.qfs_names.specs.declared.row.NameRow.{NameRow}
use Rattle.qfs_names.specs.Names.{close_file, closed_row}
use Rattle.qfs_names.specs.Trees.{Contents}
use Rattle.qfs_names.proofs.KeptLaws.{closed-rows, kept-closed}
use Rattle.qfs_names.proofs.tree.Tree.close.Goals as goal

pub invariant_of-self : goal.invariant_of-self
invariant_of-self c =
    let names = c.self.inside.names in
    let was = c.self.invariant in
    let found = c.in-Some.ensures in
    let rows = c.change.ensures.rows
    ∙ ap (λ (p : PathNames). change_where (λ (row : NameRow). is_eq (path_cmp p row.path)) closed_row names.rows)
    (c.as_slice-names.ensures ∙ c.path.view_is)
    ∙ closed-rows names c.change.new.self c.self.inside.unclosed c.self.inside.spare was
    c.args.file c.in-Some.row (sym found.row) in
    kept-closed names c.change.new.self c.self.inside.unclosed c.self.inside.spare was
    c.remove.new.self c.args.file c.in-Some.row (sym found.row) found.rows found.spare rows
    c.change.ensures.spare

pub returns-clause-rows : goal.returns-clause-rows
returns-clause-rows c =
    let names = c.self.inside.names in
    c.change.ensures.rows
    ∙ ap (λ (p : PathNames). change_where (λ (row : NameRow). is_eq (path_cmp p row.path)) closed_row names.rows)
    (c.as_slice-names.ensures ∙ c.path.view_is)
    ∙ closed-rows names c.change.new.self c.self.inside.unclosed c.self.inside.spare c.self.invariant
    c.args.file c.in-Some.row (sym c.in-Some.ensures.row)
    ∙ ap (λ (t : Contents). close_file c.args.file t.rows) c.self.view_is
