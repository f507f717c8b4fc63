use Rattle.std.proofs.Common.{refl}
use Rattle.qfs_model_slot.proofs.OnLiterals.{chunks_on_literals}
use Rattle.qfs_model_slot.proofs.small_files_have_these_chunks.Goals as goal

pub returns-clause-coded : goal.returns-clause-coded
unfolding chunks_on_literals
returns-clause-coded c = record { data_slot = refl; first_parity = refl; second_parity = refl; third_parity = refl }

pub returns-clause-filled : goal.returns-clause-filled
unfolding chunks_on_literals
returns-clause-filled c = record { first_slot = refl; second_slot = refl; first_parity = refl; third_parity = refl }

pub returns-clause-next_block : goal.returns-clause-next_block
unfolding chunks_on_literals
returns-clause-next_block c = record { first_slot = refl; third_parity = refl }
