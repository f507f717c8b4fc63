use Rattle.qfs_recover.proofs.step.done.Goals as goal

pub returns-in-One-clause-rest : goal.returns-in-One-clause-rest
returns-in-One-clause-rest c = rw c.in-One.is (c.recovered.ensures c.args.layout.now)
