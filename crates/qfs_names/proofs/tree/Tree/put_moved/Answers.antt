-- What the check leaves to show of `tree::Tree::put_moved`.
use Rattle.std.proofs.Common.{ap, sym, ◌∙◌, arith, length, subst}
use Rattle.std.specs.Ordering.{is_eq}
use Rattle.qfs_base.specs.NameTree.{PathNames, is_within, rename_refusal, renamed, row_cmp}
use Rattle.qfs_base.specs.Path.{IsPath}
use Rattle.qfs_base.specs.Table.{place_all, without}
use Rattle.qfs_names.specs.declared.row.NameRow.{NameRow}
use Rattle.qfs_names.specs.Moves.{IsMove}
use Rattle.qfs_names.specs.Names.{moved_rows, row_path, standing_of, within_order}
use Rattle.qfs_names.specs.Trees.{Contents, file_cmp}
use Rattle.qfs_names.proofs.KeptLaws.{kept-moved}
use Rattle.qfs_names.proofs.MoveLaws.{open-length}
use Rattle.qfs_names.proofs.TreeLaws.{without_within}
use Rattle.qfs_names.proofs.tree.Tree.put_moved.Goals as goal

pub invariant_of-self : goal.invariant_of-self
unfolding renamed
invariant_of-self c =
    let names = c.self.inside.names in
    let unclosed = c.self.inside.unclosed in
    let was = c.self.invariant in
    let plan = subst (λ (t : Contents). IsMove c.args.from.now c.args.to.now t.rows c.args.moved)
    (sym c.self.view_is) c.requires.plan in
    let free = ap (λ (t : Contents). rename_refusal (standing_of t.rows) c.args.from.now c.args.to.now)
    c.self.view_is ∙ c.requires.free in
    let some = ap (λ (t : Contents). t.spare) c.self.view_is in
    let gone = c.remove_run.ensures.rows
    ∙ ap (λ (p : PathNames). without (λ (row : NameRow). is_eq (within_order p row.path)) names.rows)
    (c.as_slice.ensures ∙ c.from.view_is)
    ∙ without_within c.args.from.now names.rows in
    kept-moved names c.place_all.new.table unclosed c.self.inside.spare was c.place_all-2.new.table _
    c.args.from.now c.args.to.now (subst IsPath c.to.view_is c.to.invariant) free
    (c.place_all.ensures.rows ∙ (λ i. place_all (row_cmp row_path) (plan.rows_then i) (gone i)))
    (c.place_all-2.ensures.rows ∙ ap (λ paths. place_all file_cmp paths unclosed.rows) plan.paths_then)
    (omega (arith, c.place_all.ensures.spare, c.remove_run.ensures.spare, was.room))
    (omega (
      arith,
      c.place_all-2.ensures.spare,
      was.index_room,
      ap length plan.paths_then,
      ap length plan.rows_then,
      open-length (moved_rows c.args.from.now c.args.to.now names.rows),
    ))

pub returns-clause-rows : goal.returns-clause-rows
unfolding renamed
returns-clause-rows c =
    let names = c.self.inside.names in
    let gone = c.remove_run.ensures.rows
    ∙ ap (λ (p : PathNames). without (λ (row : NameRow). is_eq (within_order p row.path)) names.rows)
    (c.as_slice.ensures ∙ c.from.view_is)
    ∙ without_within c.args.from.now names.rows
    ∙ ap (λ (t : Contents). without (λ (row : NameRow). is_within c.args.from.now row.path) t.rows)
    c.self.view_is in
    c.place_all.ensures.rows
    ∙ (λ i. place_all (row_cmp row_path) (c.requires.plan.rows_then i) (gone i))

pub place_all-requires-2 : goal.place_all-requires-2
place_all-requires-2 c =
    let names = c.self.inside.names in
    omega (
      arith,
      c.self.invariant.index_room,
      ap (λ (t : Contents). t.spare) c.self.view_is,
      c.requires.room,
      ap length c.requires.plan.paths_then,
      ap length c.requires.plan.rows_then,
      open-length (moved_rows c.args.from.now c.args.to.now c.args.self.now.rows),
    )
