use Rattle.qfs_model_actor.specs.Command.{work_of}
use Rattle.qfs_actor.proofs.command_machine.CommandMachine.begin.Goals as goal

pub returns-clause-rest : goal.returns-clause-rest
unfolding work_of
returns-clause-rest c = rw c.in-File.is c.begin_file.ensures.rest
