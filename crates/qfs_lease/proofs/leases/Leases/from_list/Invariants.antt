-- What the loop of `from_list` keeps.
use Rattle.std.proofs.Common.{◌≡◌, ◌++◌, ◌≤◌}
use Rattle.std.specs.Vec.Iter.{into_iter_items}
use Rattle.qfs_base.specs.declared.image.Lease.{Lease}
use Rattle.qfs_base.specs.Table.{Each}
use Rattle.qfs_lease.proofs.leases.Leases.from_list.Given as goal

-- the leases so far and those to come are those of the list, in their order
abbrev pub invariant-loop-lease : goal.invariant-loop-lease
invariant-loop-lease l = record {
  joined : l.leases.leases ++ into_iter_items l.lease-iterator ≡ l.fn.list;
  high : Each (λ (lease : Lease). l.leases.next ≤ lease.lease) (into_iter_items l.lease-iterator);
  spare : l.leases.spare ≡ 0;
}
