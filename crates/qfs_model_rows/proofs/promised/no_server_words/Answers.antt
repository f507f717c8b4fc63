use Rattle.std.proofs.Common.{refl}
use Rattle.qfs_model_promises.proofs.OnLiterals.{promises_on_literals}
use Rattle.qfs_model_rows.proofs.promised.no_server_words.Goals as goal

pub returns : goal.returns
unfolding promises_on_literals
returns c = record { granted = refl; failed = refl }
