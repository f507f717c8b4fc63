use Rattle.std.proofs.Common.{refl}
use Rattle.qfs_model_rows.specs.Meanings.{opened_in}
use Rattle.qfs_model_rows.specs.Promised.{causes_in}
use Rattle.qfs_model_promises.proofs.OnLiterals.{promises_on_literals}
use Rattle.qfs_model_rows.proofs.promised.too_few_words.Goals as goal

pub returns : goal.returns
unfolding promises_on_literals causes_in opened_in
returns c = record { first = refl; second = refl; tries = refl; taken_away = refl }
