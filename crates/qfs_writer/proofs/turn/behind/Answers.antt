use Rattle.std.proofs.Common.{◌+◌, ◌∙◌, arith}
use Rattle.qfs_writer.specs.Rest.{rest_of_put}
use Rattle.qfs_writer.proofs.Puts.{put_blocks_from-more, put_blocks_from-end, behind-more, behind-end}
use Rattle.qfs_writer.proofs.turn.behind.Goals as goal

pub returns-then-at-lt-LAST_SLOT-clause-rest : goal.returns-then-at-lt-LAST_SLOT-clause-rest
returns-then-at-lt-LAST_SLOT-clause-rest c =
    rw c.at_slot.ensures (behind-more c.args.put.now c.args.at (omega arith))

pub returns-then-at-blocks-clause-rest : goal.returns-then-at-blocks-clause-rest
returns-then-at-blocks-clause-rest c =
    rw c.at_slot-then-at-blocks.ensures
    (put_blocks_from-more c.args.put.now c.args.at.file (c.args.at.index + 1) (omega arith)
    ∙ behind-end c.args.put.now c.args.at (omega arith))

pub returns-else-at-blocks-clause-rest : goal.returns-else-at-blocks-clause-rest
unfolding rest_of_put
returns-else-at-blocks-clause-rest c =
    put_blocks_from-end c.args.put.now c.args.at.file (c.args.at.index + 1) (omega arith)
    ∙ behind-end c.args.put.now c.args.at (omega arith)
