-- What the loop of `refusals::any_too_deep` keeps.
use Rattle.std.proofs.Common.{◌≡◌}
use Rattle.std.specs.List.{list_any}
use Rattle.qfs_files.specs.Rows.{is_deep}
use Rattle.qfs_files.proofs.refusals.any_too_deep.Given as goal

-- the rows that are left decide
abbrev pub invariant-loop-row : goal.invariant-loop-row
invariant-loop-row l =
    list_any (is_deep l.from l.to) l.fn.rows ≡ list_any (is_deep l.from l.to) l.row-iterator
