-- The laws of `laws::changes_of_condemned_copies`.
use Rattle.qfs_model_meta.specs.Apply.{apply}
use Rattle.qfs_blocks.specs.ImageLaws.{marked_is, swept_is}
use Rattle.qfs_blocks.proofs.laws.changes_of_condemned_copies.Goals as goal

pub returns : goal.returns
unfolding apply
returns c = record {
  marked = λ m t number i. record m {
    slots = t.slots;
    condemned = marked_is number m.leases t.condemned i;
    next_condemned = t.next;
  };
  swept = λ m t number i. record m {
    slots = t.slots;
    condemned = swept_is number m.leases t.condemned i;
    next_condemned = t.next;
  };
}
