-- The laws of `laws::changes_of_leases`.
use Rattle.std.proofs.Common.{◌+◌}
use Rattle.qfs_model_meta.specs.Apply.{apply, finish_lease}
use Rattle.qfs_model_meta.specs.Leases.{end_lease, give_lease}
use Rattle.qfs_blocks.specs.LeaseLaws.{ended_is, given_is}
use Rattle.qfs_blocks.proofs.laws.changes_of_leases.Goals as goal

pub returns : goal.returns
unfolding apply finish_lease
returns c = record {
  given = λ m t actor file until below i. record m {
    leases = give_lease m.next_lease actor file until m.leases;
    next_lease = m.next_lease + 1;
    slots = t.slots;
    condemned = given_is m.next_lease actor file until m.leases t.condemned below i;
    next_condemned = t.next;
  };
  ended = λ m t lease i. record m {
    leases = end_lease lease m.leases;
    slots = t.slots;
    condemned = ended_is lease m.leases t.condemned i;
    next_condemned = t.next;
  };
}
