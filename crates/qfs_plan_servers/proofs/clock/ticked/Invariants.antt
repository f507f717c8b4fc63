-- What the loop of `clock::ticked` keeps.
use Rattle.std.proofs.Common.{◌≡◌, ◌∷◌, ◌++◌, map}
use Rattle.qfs_model_meta.specs.Leases.{leases_over}
use Rattle.qfs_state.specs.declared.prepared.Prepared.TheVariants.{ClockTicks, EndLease}
use Rattle.qfs_plan_servers.proofs.clock.ticked.Given as goal

-- the changes so far and those of the leases that are left
abbrev pub invariant-loop-row : goal.invariant-loop-row
invariant-loop-row l =
    l.changes.items ++ map EndLease (leases_over l.now l.row-iterator)
    ≡ ClockTicks ∷ map EndLease (leases_over l.now l.fn.leases)
