-- What the loop of `expire` keeps.
use Rattle.std.proofs.Common.{◌≡◌, length}
use Rattle.qfs_base.specs.Table.{without}
use Rattle.qfs_model_meta.specs.Leases.{has_run_out}
use Rattle.qfs_lease.proofs.leases.Leases.expire.Given as goal

-- what has run out is all that ended
abbrev pub invariant-loop-lease : goal.invariant-loop-lease
invariant-loop-lease l = record {
  left : without (has_run_out l.clock) l.self.leases
      ≡ without (has_run_out l.clock) l.fn.self.leases;
  next : l.self.next ≡ l.fn.self.next;
  spare : l.self.spare ≡ l.fn.self.spare;
}

abbrev pub decreases-loop-lease : goal.decreases-loop-lease
decreases-loop-lease l = length l.self.leases
