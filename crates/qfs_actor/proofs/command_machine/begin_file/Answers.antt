use Rattle.qfs_model_actor.specs.Command.{file_work}
use Rattle.qfs_actor.specs.CommandMachine.{rest_of_machine}
use Rattle.qfs_actor.proofs.command_machine.begin_file.Goals as goal

pub returns-in-Put-clause-rest : goal.returns-in-Put-clause-rest
unfolding rest_of_machine file_work
returns-in-Put-clause-rest c = rw c.in-Put.is c.new.ensures.rest

pub returns-in-Get-clause-rest : goal.returns-in-Get-clause-rest
unfolding rest_of_machine file_work
returns-in-Get-clause-rest c = rw c.in-Get.is c.new-in-Get.ensures.rest
