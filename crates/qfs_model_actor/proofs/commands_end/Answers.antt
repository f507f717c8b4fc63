use Rattle.qfs_model_actor.proofs.StepsOfCommands.{work_of-steps}
use Rattle.qfs_model_actor.proofs.commands_end.Goals as goal

pub returns : goal.returns
returns c = work_of-steps
