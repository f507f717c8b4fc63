-- What the loop of `scan::first_to_go` keeps.
use Rattle.std.proofs.Common.{◌≡◌, find}
use Rattle.qfs_blocks.specs.Entries.{entry_may_go}
use Rattle.qfs_blocks.proofs.scan.first_to_go.Given as goal

-- the rows that are left decide
abbrev pub invariant-loop-row : goal.invariant-loop-row
invariant-loop-row g l =
    find (entry_may_go l.servers (g.V.LeaseView.leases l.leases)) l.fn.rows
    ≡ find (entry_may_go l.servers (g.V.LeaseView.leases l.leases)) l.row-iterator
