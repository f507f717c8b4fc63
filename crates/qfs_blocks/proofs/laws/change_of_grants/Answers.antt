-- The law of `laws::change_of_grants`.
use Rattle.std.proofs.Common.{refl}
use Rattle.qfs_model_meta.specs.Apply.{apply, grant_slot, with_slots}
use Rattle.qfs_blocks.proofs.laws.change_of_grants.Goals as goal

pub returns : goal.returns
unfolding apply grant_slot with_slots
returns c m t block slot server actor lease spare = refl
