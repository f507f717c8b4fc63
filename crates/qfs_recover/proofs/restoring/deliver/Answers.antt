use Rattle.std.proofs.Common.{refl}
use Rattle.qfs_recover.specs.Rest.{rest_of_recovery}
use Rattle.qfs_recover.proofs.restoring.deliver.Goals as goal
use Rattle.qfs_repair.proofs.RowGroups.{chunk-bound}
use Rattle.qfs_repair.specs.Deliveries.{rest_of_delivery}

pub returns-clause-rest : goal.returns-clause-rest
unfolding rest_of_recovery rest_of_delivery
returns-clause-rest c = rw (c.new-chunk.ensures.bytes, c.from_vec.ensures) refl

pub returns-clause-at : goal.returns-clause-at
returns-clause-at c = (
  c.requires.errand,
  (
    c.requires.slot,
    rw (c.new-chunk.ensures.bytes, c.from_vec.ensures)
        (chunk-bound c.args.layout.now.s c.args.grant.rows c.args.chunk.items c.requires.room c.requires.rows (rw (← c.stripe-most.ensures.value) c.stripe-most.ensures.most)),
  ),
)
