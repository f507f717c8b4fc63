use Rattle.std.proofs.Common.{refl}
use Rattle.qfs_model_actor.specs.Get.{attempt, attempts, get_work, reading_of}
use Rattle.qfs_model_actor.specs.Hold.{end_with}
use Rattle.qfs_model_actor.proofs.one_try_is_one_opening.Goals as goal

pub returns-clause-opens : goal.returns-clause-opens
unfolding get_work attempt attempts
returns-clause-opens c = λ layout path range. refl

pub returns-clause-too_few : goal.returns-clause-too_few
unfolding reading_of end_with
returns-clause-too_few c = λ layout o from to k causes. refl
