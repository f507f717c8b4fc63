use Rattle.qfs_repair.proofs.turn.step_after.Goals as goal

pub returns-in-Chunk-clause-rest : goal.returns-in-Chunk-clause-rest
returns-in-Chunk-clause-rest c = λ course. rw c.in-Chunk.is (c.after_server.ensures.rest course c.in-Chunk.reply.room)
