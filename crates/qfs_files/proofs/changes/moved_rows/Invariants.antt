-- What the loop of `changes::moved_rows` keeps.
use Rattle.std.proofs.Common.{◌≡◌, ◌++◌, drop, map}
use Rattle.qfs_files.specs.declared.row.FileRow.{FileRow}
use Rattle.qfs_files.specs.Rows.{at_names}
use Rattle.qfs_files.proofs.changes.moved_rows.Given as goal

-- the rows so far and those that are left are all
abbrev pub invariant-loop-row : goal.invariant-loop-row
invariant-loop-row l =
    l.then.items
    ++ map (λ (row : FileRow). at_names (l.to ++ drop l.depth row.names) row) l.row-iterator
    ≡ map (λ (row : FileRow). at_names (l.to ++ drop l.depth row.names) row) l.fn.rows
