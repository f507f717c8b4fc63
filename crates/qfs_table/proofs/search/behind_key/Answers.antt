-- What the check leaves to show of `search::behind_key`.
use Rattle.std.proofs.Common.{sym, ap, ◌∙◌}
use Rattle.std.specs.Prelude.{find}
use Rattle.qfs_table.specs.Chunks.{flat, front, back}
use Rattle.qfs_base.specs.Table.{is_behind}
use Rattle.qfs_table.proofs.FlatLaws.{flat_cut}
use Rattle.qfs_table.proofs.RowLaws.{key_cut_ge, find_behind}
use Rattle.qfs_table.proofs.search.behind_key.Goals as goal

pub first_failing-at-requires-clause-cut : goal.first_failing-at-requires-clause-cut
first_failing-at-requires-clause-cut g c =
    key_cut_ge g.T.Row.cmp (g.K.Key.order c.args.key.now) (g.met.K.Key.falls c.args.key.now)
    (flat c.args.chunks.now) c.requires.rising

pub returns : goal.returns
returns g c =
    let order = g.K.Key.order c.args.key.now in
    let chunks = c.args.chunks.now in
    let at = c.first_failing-at.result in
    let first = c.first_failing-at.ensures.first in
    c.row_at.ensures
    ∙ sym (find_behind order (front chunks at.chunk at.row)
    (back chunks at.chunk at.row) first.before first.behind)
    ∙ ap (find (is_behind order)) (sym (flat_cut chunks at.chunk at.row))
