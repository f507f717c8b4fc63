use Rattle.std.proofs.Common.{refl}
use Rattle.qfs_model_promises.proofs.OnLiterals.{promises_on_literals}
use Rattle.qfs_model_rows.proofs.promised.lease_words.Goals as goal

pub returns : goal.returns
unfolding promises_on_literals
returns c = record { held = refl; ended = refl; before = refl }
