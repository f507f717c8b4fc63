use Rattle.qfs_laws_meta.specs.StepsAnswer.{steps-answer}
use Rattle.qfs_laws_meta.proofs.steps_answer.Goals as goal

pub returns : goal.returns
returns c = steps-answer
