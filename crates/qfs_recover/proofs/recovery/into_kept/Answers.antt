use Rattle.qfs_recover.specs.Rest.{rest_of_recovery}
use Rattle.qfs_recover.proofs.Turns.{has_ended}
use Rattle.qfs_recover.proofs.recovery.into_kept.Goals as goal

pub unreachable-requires : goal.unreachable-requires
unreachable-requires c =
    has_ended c.args.layout.now c.args.stage c.requires.at c.requires.ended c.in_default.not-Ended

pub returns : goal.returns
unfolding rest_of_recovery
returns c = rw c.in-Ended.is c.into_reply.ensures
