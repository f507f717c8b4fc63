use Rattle.qfs_model_actor.proofs.Left.{left-falls, left-zero, left-starting}
use Rattle.qfs_model_actor.proofs.steps_left_fall.Goals as goal

pub returns-clause-falls : goal.returns-clause-falls
returns-clause-falls c = left-falls

pub returns-clause-finished : goal.returns-clause-finished
returns-clause-finished c = left-zero

pub returns-clause-start : goal.returns-clause-start
returns-clause-start c = left-starting
