-- What the loop of `refusals::any_below` keeps.
use Rattle.std.proofs.Common.{◌≡◌}
use Rattle.std.specs.List.{list_any}
use Rattle.qfs_base.specs.NameTree.{is_below}
use Rattle.qfs_files.specs.declared.row.FileRow.{FileRow}
use Rattle.qfs_files.proofs.refusals.any_below.Given as goal

-- the rows that are left decide
abbrev pub invariant-loop-row : goal.invariant-loop-row
invariant-loop-row l =
    list_any (λ (row : FileRow). is_below l.top row.names) l.fn.rows
    ≡ list_any (λ (row : FileRow). is_below l.top row.names) l.row-iterator
