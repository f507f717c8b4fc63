-- What the loop of `drop_of` keeps.
use Rattle.std.proofs.Common.{◌≡◌, ◌-◌}
use Rattle.qfs_base.specs.Table.{without}
use Rattle.qfs_lease.specs.LiveLeases.{HasPassed, is_of_actor}
use Rattle.qfs_lease.proofs.leases.Leases.drop_of.Given as goal

-- only leases of the actor ended, and none of his is left before the number that comes next
abbrev pub invariant-loop-lease : goal.invariant-loop-lease
invariant-loop-lease l = record {
  left : without (is_of_actor l.actor) l.self.leases
      ≡ without (is_of_actor l.actor) l.fn.self.leases;
  passed : HasPassed l.actor l.from l.self.leases;
  next : l.self.next ≡ l.fn.self.next;
  spare : l.self.spare ≡ l.fn.self.spare;
}

abbrev pub decreases-loop-lease : goal.decreases-loop-lease
decreases-loop-lease l = l.self.next - l.from
