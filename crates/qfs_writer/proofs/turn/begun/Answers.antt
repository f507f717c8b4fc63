use Rattle.std.proofs.Common.{arith}
use Rattle.qfs_writer.specs.Rest.{rest_of_put}
use Rattle.qfs_writer.proofs.Puts.{put_blocks_from-more, put_blocks_from-end}
use Rattle.qfs_writer.proofs.turn.begun.Goals as goal

pub returns-then-blocks-eq0-clause-rest : goal.returns-then-blocks-eq0-clause-rest
unfolding rest_of_put
returns-then-blocks-eq0-clause-rest c = put_blocks_from-end c.args.put.now c.args.file 0 (omega arith)

pub returns-else-blocks-eq0-clause-rest : goal.returns-else-blocks-eq0-clause-rest
returns-else-blocks-eq0-clause-rest c =
    rw c.at_slot.ensures (put_blocks_from-more c.args.put.now c.args.file 0 (omega arith))
