use Rattle.qfs_writer.proofs.Turns.{ended-goes}
use Rattle.qfs_writer.proofs.turn.stage_after.Goals as goal

pub returns-in-Ended-clause-rest : goal.returns-in-Ended-clause-rest
returns-in-Ended-clause-rest c = rw c.in-Ended.is (ended-goes c.args.put.now c.in-Ended.field-0 c.args.reply.now)
