-- What the loop of `changes::take_rows` keeps.
use Rattle.std.proofs.Common.{◌≡◌, fold}
use Rattle.qfs_base.specs.Table.{without}
use Rattle.qfs_files.specs.Open.{finds}
use Rattle.qfs_files.proofs.changes.take_rows.Given as goal

-- what the paths that are left make of the rows is what all make of all
abbrev pub invariant-loop-row : goal.invariant-loop-row
invariant-loop-row l =
    fold (λ rows kept. without (finds kept) rows) l.rows.rows l.row-iterator
    ≡ fold (λ rows kept. without (finds kept) rows) l.fn.rows.rows l.fn.places
