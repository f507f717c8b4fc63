-- What the check leaves to show of `tree::Tree::take`.
use Rattle.std.proofs.Common.{ap, sym, ◌∙◌}
use Rattle.std.specs.Ordering.{is_eq}
use Rattle.qfs_base.specs.NameTree.{PathNames, path_cmp}
use Rattle.qfs_base.specs.Table.{without}
use Rattle.qfs_names.specs.declared.row.NameRow.{NameRow}
use Rattle.qfs_names.specs.Names.{take_file}
use Rattle.qfs_names.specs.Trees.{Contents}
use Rattle.qfs_names.proofs.KeptLaws.{rows-without, kept-without}
use Rattle.qfs_names.proofs.tree.Tree.take.Goals as goal

pub invariant_of-self : goal.invariant_of-self
invariant_of-self c =
    let names = c.self.inside.names in
    let was = c.self.invariant in
    let found = c.in-Some.ensures in
    let rows = c.remove-in-Some.ensures.rows
    ∙ ap (λ (p : PathNames). without (λ (row : NameRow). is_eq (path_cmp p row.path)) names.rows)
    (c.as_slice-names.ensures ∙ c.path.view_is)
    ∙ rows-without names c.remove-in-Some.new.self c.self.inside.unclosed c.self.inside.spare was
    c.args.file c.in-Some.row (sym found.row) in
    kept-without names c.remove-in-Some.new.self c.self.inside.unclosed c.self.inside.spare was
    c.remove.new.self c.args.file c.in-Some.row (sym found.row) found.rows found.spare rows
    c.remove-in-Some.ensures.spare

pub returns-clause-rows : goal.returns-clause-rows
returns-clause-rows c =
    let names = c.self.inside.names in
    c.remove-in-Some.ensures.rows
    ∙ ap (λ (p : PathNames). without (λ (row : NameRow). is_eq (path_cmp p row.path)) names.rows)
    (c.as_slice-names.ensures ∙ c.path.view_is)
    ∙ rows-without names c.remove-in-Some.new.self c.self.inside.unclosed c.self.inside.spare c.self.invariant
    c.args.file c.in-Some.row (sym c.in-Some.ensures.row)
    ∙ ap (λ (t : Contents). take_file c.args.file t.rows) c.self.view_is
