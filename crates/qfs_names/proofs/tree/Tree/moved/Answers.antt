-- What the check leaves to show of `tree::Tree::moved`.
use Rattle.std.proofs.Common.{ap, sym, subst, ◌∙◌, length, filter}
use Rattle.qfs_base.specs.NameTree.{PathNames, is_within}
use Rattle.qfs_base.specs.Table.{Each}
use Rattle.qfs_names.specs.declared.row.NameRow.{NameRow}
use Rattle.qfs_names.specs.Moves.{CanMove}
use Rattle.qfs_names.proofs.MoveLaws.{can_move}
use Rattle.qfs_names.proofs.tree.Tree.moved.Goals as goal

pub moved_rows-requires : goal.moved_rows-requires
moved_rows-requires c =
    let from = c.args.from.now in
    let to = c.args.to.now in
    let rows = c.args.self.now.rows in
    subst (λ depth. Each (CanMove depth to) c.rows_within-within.result)
    (sym (c.len-depth.ensures ∙ ap length c.from.view_is))
    (subst (Each (CanMove (length from) to))
    (sym (c.rows_within-within.ensures
    ∙ ap (λ (p : PathNames). filter (λ (row : NameRow). is_within p row.path) rows)
    (c.as_slice.ensures ∙ c.from.view_is)))
    (can_move from to rows c.requires))
