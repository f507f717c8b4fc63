use Rattle.qfs_model_world.proofs.OneStep.{steps-alike, steps-change-two}
use Rattle.qfs_model_world.proofs.frame.a_step_is_its_actors_and_nodes.Goals as goal

pub returns-clause-alike : goal.returns-clause-alike
returns-clause-alike c = steps-alike

pub returns-clause-two : goal.returns-clause-two
returns-clause-two c = steps-change-two
