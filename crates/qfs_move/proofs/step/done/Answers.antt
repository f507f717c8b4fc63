use Rattle.qfs_move.proofs.step.done.Goals as goal

pub returns-in-One-clause-rest : goal.returns-in-One-clause-rest
returns-in-One-clause-rest c = rw c.in-One.is (c.moved.ensures c.args.layout.now)
