use Rattle.qfs_sweep.proofs.Turns.{strange_meta, strange_server}
use Rattle.qfs_sweep.proofs.turn.stage_after.Goals as goal

pub returns-in_default-clause-rest : goal.returns-in_default-clause-rest
returns-in_default-clause-rest c =
    rw (c.strange.ensures.stage, c.in-Meta.is)
    (strange_meta c.args.stage c.in-Meta.answer c.in_default.not-Ordering c.in_default.not-Saying)

pub returns-in-Erasing-clause-rest : goal.returns-in-Erasing-clause-rest
returns-in-Erasing-clause-rest c =
    rw (c.in-Erasing.is, c.in-Chunk.is) (c.after_server.ensures.rest c.in-Chunk.reply.room)

pub returns-in_default-stage-clause-rest : goal.returns-in_default-stage-clause-rest
returns-in_default-stage-clause-rest c =
    rw (c.strange-in_default-stage.ensures.stage, c.in-Chunk.is)
    (strange_server c.args.stage c.in-Chunk.reply c.in_default-stage.not-Erasing)
