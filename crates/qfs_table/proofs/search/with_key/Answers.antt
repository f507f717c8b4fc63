-- What the check leaves to show of `search::with_key`.
use Rattle.std.proofs.Common.{sym, ◌∙◌}
use Rattle.qfs_table.proofs.RowLaws.{found_first, free_none}
use Rattle.qfs_table.proofs.search.with_key.Goals as goal

pub row_at-requires : goal.row_at-requires
row_at-requires g c = c.in-Ok.ensures.found.placed

pub returns-in-Ok : goal.returns-in-Ok
returns-in-Ok g c =
    c.row_at.ensures
    ∙ sym (found_first (g.K.Key.order c.args.key.now) c.args.chunks.now c.in-Ok.at
    c.in-Ok.ensures.found)

pub returns-in-Err : goal.returns-in-Err
returns-in-Err g c =
    sym (free_none (g.K.Key.order c.args.key.now) c.args.chunks.now c.in-Err.field-0
    c.in-Err.ensures.free)
