use Rattle.std.proofs.Common.{◌≡◌, ◌+◌, ◌++◌, drop}
use Rattle.qfs_meta.specs.Condemning.{condemned_rows}
use Rattle.qfs_meta.proofs.condemning.condemned_rows.Given as goal

-- the rows so far and those of the copies that are left
abbrev pub invariant-loop-at : goal.invariant-loop-at
invariant-loop-at l =
    l.rows ++ condemned_rows l.leases (l.number + l.at) (drop l.at l.copies) ≡ condemned_rows l.leases l.number l.copies
