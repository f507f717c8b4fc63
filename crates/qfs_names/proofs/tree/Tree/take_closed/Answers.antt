-- What the check leaves to show of `tree::Tree::take_closed`.
use Rattle.std.proofs.Common.{ap, ◌∙◌, [], find, unwrap_or, Option}
use Rattle.std.specs.Ordering.{is_eq}
use Rattle.qfs_base.specs.NameTree.{PathNames, path_cmp, look_refusal, stands_at, taken}
use Rattle.qfs_base.specs.Table.{without}
use Rattle.qfs_names.specs.declared.row.NameRow.{NameRow}
use Rattle.qfs_names.specs.Names.{directory_at, row_path, standing_of}
use Rattle.qfs_names.specs.Trees.{Contents}
use Rattle.qfs_names.proofs.KeptLaws.{kept-removed}
use Rattle.qfs_names.proofs.TreeLaws.{find_at, without_at}
use Rattle.qfs_names.proofs.tree.Tree.take_closed.Goals as goal

pub invariant_of-self : goal.invariant_of-self
unfolding taken
invariant_of-self c =
    let names = c.self.inside.names in
    let free = ap (λ (t : Contents). look_refusal (standing_of t.rows) c.args.path.now) c.self.view_is
    ∙ c.requires in
    let rows = c.remove.ensures.rows
    ∙ ap (λ (p : PathNames). without (λ (row : NameRow). is_eq (path_cmp p row.path)) names.rows)
    (c.as_slice-names.ensures ∙ c.path.view_is)
    ∙ without_at c.args.path.now names.rows in
    kept-removed names c.remove.new.self c.self.inside.unclosed c.self.inside.spare c.self.invariant
    c.args.path.now free rows c.remove.ensures.spare

pub returns-clause-rows : goal.returns-clause-rows
unfolding taken
returns-clause-rows c =
    let names = c.self.inside.names in
    c.remove.ensures.rows
    ∙ ap (λ (p : PathNames). without (λ (row : NameRow). is_eq (path_cmp p row.path)) names.rows)
    (c.as_slice-names.ensures ∙ c.path.view_is)
    ∙ without_at c.args.path.now names.rows
    ∙ ap (λ (t : Contents). without (stands_at row_path c.args.path.now) t.rows) c.self.view_is

pub returns-clause-file : goal.returns-clause-file
returns-clause-file c =
    let names = c.self.inside.names in
    c.file_of.ensures
    ∙ ap (λ (o : Option NameRow). (unwrap_or o (directory_at [])).file)
    (c.remove.ensures.row
    ∙ ap (λ (p : PathNames). find (λ (row : NameRow). is_eq (path_cmp p row.path)) names.rows)
    (c.as_slice-names.ensures ∙ c.path.view_is)
    ∙ find_at c.args.path.now names.rows
    ∙ ap (λ (t : Contents). find (stands_at row_path c.args.path.now) t.rows) c.self.view_is)
