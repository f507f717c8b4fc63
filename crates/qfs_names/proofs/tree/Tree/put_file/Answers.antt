-- What the check leaves to show of `tree::Tree::put_file`.
use Rattle.std.proofs.Common.{◌≢◌, ap, sym, ◌∙◌, arith, subst}
use Rattle.qfs_base.specs.NameTree.{add_refusal, added, row_cmp}
use Rattle.qfs_base.specs.Table.{Each, place}
use Rattle.qfs_names.specs.declared.row.NameRow.{NameRow}
use Rattle.qfs_names.specs.declared.row.UnclosedRow.{UnclosedRow}
use Rattle.qfs_names.specs.Names.{row_path, file_at, standing_of}
use Rattle.qfs_names.specs.Trees.{Contents, file_cmp}
use Rattle.qfs_names.proofs.KeptLaws.{kept-file}
use Rattle.qfs_names.proofs.tree.Tree.put_file.Goals as goal

pub invariant_of-self : goal.invariant_of-self
unfolding added
invariant_of-self c =
    let free = ap (λ (t : Contents). add_refusal (standing_of t.rows) c.args.path) c.self.view_is
    ∙ c.requires.free in
    let fresh = subst (λ (t : Contents). Each (λ (row : NameRow). row.file ≢ c.args.file) t.rows)
    (sym c.self.view_is) c.requires.fresh in
    let some = ap (λ (t : Contents). t.spare) c.self.view_is in
    kept-file c.self.inside.names c.insert.new.self c.self.inside.unclosed c.self.inside.spare
    c.self.invariant c.insert-2.new.self _ c.args.path c.args.file c.new_row.ensures.path
    c.requires.some c.ranges.file.fits free fresh
    (c.insert.ensures.rows ∙ ap (λ row. place (row_cmp row_path) row c.self.inside.names.rows) c.new_row.ensures.row)
    c.insert.ensures.few
    (c.insert-2.ensures.rows ∙ ap (λ path. let row : UnclosedRow = record { file = c.args.file; path = path } in
    place file_cmp row c.self.inside.unclosed.rows) c.requires.copy)
    c.insert-2.ensures.few (omega (arith, some, c.requires.room))

pub returns-clause-rows : goal.returns-clause-rows
unfolding added
returns-clause-rows c =
    c.insert.ensures.rows
    ∙ ap (λ row. place (row_cmp row_path) row c.self.inside.names.rows) c.new_row.ensures.row
    ∙ ap (λ (t : Contents). place (row_cmp row_path) (file_at c.args.path c.args.file) t.rows) c.self.view_is
