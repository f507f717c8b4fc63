-- What the loop of `scan::first_on` keeps.
use Rattle.std.proofs.Common.{◌≡◌, find}
use Rattle.qfs_blocks.specs.Records.{has_current_on}
use Rattle.qfs_blocks.proofs.scan.first_on.Given as goal

-- the rows that are left decide
abbrev pub invariant-loop-row : goal.invariant-loop-row
invariant-loop-row l =
    find (has_current_on l.server l.life) l.fn.rows
    ≡ find (has_current_on l.server l.life) l.row-iterator
