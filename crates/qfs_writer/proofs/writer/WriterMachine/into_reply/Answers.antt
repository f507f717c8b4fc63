use Rattle.qfs_writer.proofs.writer.WriterMachine.into_reply.Goals as goal

pub returns : goal.returns
returns c = rw c.ending.ensures c.into_reply.ensures
