use Rattle.std.proofs.Common.{refl}
use Rattle.qfs_model_rows.specs.Upgrades.{records_on}
use Rattle.qfs_model_world.proofs.OnLiterals.{world_on_literals}
use Rattle.qfs_model_rows.proofs.upgrades.moved_to_upgraded.Goals as goal

pub returns : goal.returns
unfolding world_on_literals records_on
returns c = record { prints = record { fitting = refl; whole = refl; printed = refl }; old = refl; new = refl }
