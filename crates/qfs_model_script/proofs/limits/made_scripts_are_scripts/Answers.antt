use Rattle.qfs_model_script.proofs.MadeLimits.{made_limits}
use Rattle.qfs_model_script.proofs.limits.made_scripts_are_scripts.Goals as goal

pub returns : goal.returns
returns c = made_limits
