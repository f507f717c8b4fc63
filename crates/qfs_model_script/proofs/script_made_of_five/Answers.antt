use Rattle.std.proofs.Common.{refl}
use Rattle.qfs_model_script.proofs.OnLiterals.{scripts_on_literals}
use Rattle.qfs_model_script.proofs.script_made_of_five.Goals as goal

pub returns : goal.returns
unfolding scripts_on_literals
returns c = record { begins = refl; lines = refl; told = refl }
