-- What the loop of `changes::close_rows` keeps.
use Rattle.std.proofs.Common.{◌≡◌, fold}
use Rattle.qfs_base.specs.Table.{change_where}
use Rattle.qfs_files.specs.Open.{finds}
use Rattle.qfs_files.specs.Rows.{closed_by}
use Rattle.qfs_files.proofs.changes.close_rows.Given as goal

-- what the paths that are left make of the rows is what all make of all
abbrev pub invariant-loop-row : goal.invariant-loop-row
invariant-loop-row l =
    fold (λ rows kept. change_where (finds kept)
    (closed_by l.close.file l.close.actor l.close.command) rows) l.rows.rows l.row-iterator
    ≡ fold (λ rows kept. change_where (finds kept)
    (closed_by l.close.file l.close.actor l.close.command) rows) l.fn.rows.rows l.fn.places
