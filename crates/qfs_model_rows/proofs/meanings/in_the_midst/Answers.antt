use Rattle.std.proofs.Common.{refl}
use Rattle.qfs_model_rows.specs.Meanings.{are_right}
use Rattle.qfs_model_promises.proofs.OnLiterals.{promises_on_literals}
use Rattle.qfs_model_rows.proofs.meanings.in_the_midst.Goals as goal

pub returns : goal.returns
unfolding promises_on_literals are_right
returns c = record { holdings = refl; right = refl }
