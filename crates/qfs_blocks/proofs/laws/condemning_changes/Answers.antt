-- The laws of `laws::condemning_changes`.
use Rattle.qfs_model_meta.specs.Apply.{apply}
use Rattle.qfs_model_meta.specs.Slots.{slot_at}
use Rattle.qfs_blocks.specs.ImageLaws.{confirmed_is, emptied_is, failed_is, given_up_is}
use Rattle.qfs_blocks.proofs.laws.condemning_changes.Goals as goal

pub returns : goal.returns
unfolding apply
returns c = record {
  given_up = λ m next t block slot above.
      given_up_is m next above block slot t (slot_at t.slots block slot).grant;
  failed = λ m next t block slot above.
      failed_is m next above block slot t (slot_at t.slots block slot).grant;
  confirmed = λ m next t block slot above.
      confirmed_is m next above block slot t (slot_at t.slots block slot);
  emptied = λ m next t block slot above.
      emptied_is m next above block slot t (slot_at t.slots block slot);
}
