-- What the loop of `listing::names_below` keeps.
use Rattle.std.proofs.Common.{◌≡◌, ◌++◌}
use Rattle.std.specs.List.{filter_map}
use Rattle.qfs_files.specs.Rows.{child_at}
use Rattle.qfs_files.proofs.listing.names_below.Given as goal

-- the names so far and those of the rows that are left are all
abbrev pub invariant-loop-row : goal.invariant-loop-row
invariant-loop-row l =
    l.found ++ filter_map (child_at l.directory) l.row-iterator
    ≡ filter_map (child_at l.directory) l.fn.rows
