-- What the check leaves to show of `tree::Tree::put_directory`.
use Rattle.std.proofs.Common.{ap, ◌∙◌, arith}
use Rattle.qfs_base.specs.NameTree.{add_refusal, added, row_cmp}
use Rattle.qfs_base.specs.Table.{place}
use Rattle.qfs_names.specs.Names.{row_path, directory_at, standing_of}
use Rattle.qfs_names.specs.Trees.{Contents}
use Rattle.qfs_names.proofs.KeptLaws.{kept-directory}
use Rattle.qfs_names.proofs.tree.Tree.put_directory.Goals as goal

pub invariant_of-self : goal.invariant_of-self
unfolding added
invariant_of-self c =
    let free = ap (λ (t : Contents). add_refusal (standing_of t.rows) c.args.path) c.self.view_is
    ∙ c.requires.free in
    let some = ap (λ (t : Contents). t.spare) c.self.view_is in
    kept-directory c.self.inside.names c.insert.new.self c.self.inside.unclosed c.self.inside.spare
    c.self.invariant _ c.args.path c.new_row.ensures.path free
    (c.insert.ensures.rows ∙ ap (λ row. place (row_cmp row_path) row c.self.inside.names.rows) c.new_row.ensures.row)
    c.insert.ensures.few (omega (arith, some, c.requires.room))

pub returns-clause-rows : goal.returns-clause-rows
unfolding added
returns-clause-rows c =
    c.insert.ensures.rows
    ∙ ap (λ row. place (row_cmp row_path) row c.self.inside.names.rows) c.new_row.ensures.row
    ∙ ap (λ (t : Contents). place (row_cmp row_path) (directory_at c.args.path) t.rows) c.self.view_is
