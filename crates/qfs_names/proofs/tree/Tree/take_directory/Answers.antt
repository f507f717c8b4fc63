-- What the check leaves to show of `tree::Tree::take_directory`.
use Rattle.std.proofs.Common.{ap, ◌∙◌}
use Rattle.std.specs.Ordering.{is_eq}
use Rattle.qfs_base.specs.NameTree.{PathNames, path_cmp, rmdir_refusal, stands_at, taken}
use Rattle.qfs_base.specs.Table.{without}
use Rattle.qfs_names.specs.declared.row.NameRow.{NameRow}
use Rattle.qfs_names.specs.Names.{row_path, standing_of}
use Rattle.qfs_names.specs.Trees.{Contents}
use Rattle.qfs_names.proofs.KeptLaws.{kept-emptied}
use Rattle.qfs_names.proofs.TreeLaws.{without_at}
use Rattle.qfs_names.proofs.tree.Tree.take_directory.Goals as goal

pub invariant_of-self : goal.invariant_of-self
unfolding taken
invariant_of-self c =
    let names = c.self.inside.names in
    let free = ap (λ (t : Contents). rmdir_refusal (standing_of t.rows) c.args.path.now) c.self.view_is
    ∙ c.requires in
    let rows = c.remove.ensures.rows
    ∙ ap (λ (p : PathNames). without (λ (row : NameRow). is_eq (path_cmp p row.path)) names.rows)
    (c.as_slice-names.ensures ∙ c.path.view_is)
    ∙ without_at c.args.path.now names.rows in
    kept-emptied names c.remove.new.self c.self.inside.unclosed c.self.inside.spare c.self.invariant
    c.args.path.now free rows c.remove.ensures.spare

pub returns-clause-rows : goal.returns-clause-rows
unfolding taken
returns-clause-rows c =
    let names = c.self.inside.names in
    c.remove.ensures.rows
    ∙ ap (λ (p : PathNames). without (λ (row : NameRow). is_eq (path_cmp p row.path)) names.rows)
    (c.as_slice-names.ensures ∙ c.path.view_is)
    ∙ without_at c.args.path.now names.rows
    ∙ ap (λ (t : Contents). without (stands_at row_path c.args.path.now) t.rows) c.self.view_is
