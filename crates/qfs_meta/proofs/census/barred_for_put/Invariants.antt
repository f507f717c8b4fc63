use Rattle.std.proofs.Common.{◌≡◌, drop}
use Rattle.qfs_model_meta.specs.Placing.{with_live_servers}
use Rattle.qfs_meta.specs.Granting.{granted_beside}
use Rattle.qfs_meta.proofs.CensusLaws.{grants_of}
use Rattle.qfs_meta.proofs.census.barred_for_put.Given as goal

-- the grants of the rows that are left are still to be barred
abbrev pub invariant-loop-row : goal.invariant-loop-row
invariant-loop-row l =
    with_live_servers l.servers l.barred (grants_of l.id.slot (drop l.row-index l.rows))
    ≡ with_live_servers l.servers l.fn.failed (granted_beside l.id l.slots)
