-- What the check leaves to show of `search::search`.
use Rattle.std.proofs.Common.{true, false, sym, ◌∙◌}
use Rattle.qfs_table.specs.Chunks.{flat}
use Rattle.qfs_table.proofs.RowLaws.{key_cut_gt, sought}
use Rattle.qfs_table.proofs.search.search.Goals as goal

pub first_failing-at-requires-clause-cut : goal.first_failing-at-requires-clause-cut
first_failing-at-requires-clause-cut g c =
    key_cut_gt g.T.Row.cmp (g.K.Key.order c.args.key.now) (g.met.K.Key.falls c.args.key.now)
    (flat c.args.chunks.now)
    c.requires.rising

pub returns-then-has_row-clause-found : goal.returns-then-has_row-clause-found
returns-then-has_row-clause-found g c =
    sought g.T.Row.cmp (g.K.Key.order c.args.key.now)
    (g.met.K.Key.falls c.args.key.now) c.args.chunks.now
    c.requires.rising c.first_failing-at.result true c.first_failing-at.ensures.placed
    c.first_failing-at.ensures.first (sym c.has_row.ensures ∙ c.if-has_row.true)

pub returns-else-has_row-clause-free : goal.returns-else-has_row-clause-free
returns-else-has_row-clause-free g c =
    sought g.T.Row.cmp (g.K.Key.order c.args.key.now)
    (g.met.K.Key.falls c.args.key.now) c.args.chunks.now
    c.requires.rising c.first_failing-at.result false c.first_failing-at.ensures.placed
    c.first_failing-at.ensures.first (sym c.has_row.ensures ∙ c.if-has_row.false)
