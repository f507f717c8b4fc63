-- What is promised of a grant in place of one whose server failed: it is decided before anything changes, and yet as the state
-- gives it in which the failed grant is condemned and its server counts as failed.
use Rattle.std.specs.Prelude.{◌≡◌, ℕ}
use Rattle.qfs_base.specs.declared.chunk.BlockId.{BlockId}
use Rattle.qfs_base.specs.declared.image.MetaImage.{MetaImage}
use Rattle.qfs_base.specs.Shape.{Shape}
use Rattle.qfs_model_meta.specs.Apply.{apply_all}
use Rattle.qfs_model_meta.specs.Placing.{census, choose, barred_for_put}
use Rattle.qfs_model_meta.specs.PutRequests.{failed_grant, chosen_for_put, put_granted}
use Rattle.qfs_model_meta.specs.Slots.{slot_at}

-- the state once the pending grant of a slot is out of the way, if it has one
abbrev pub freed : BlockId → ℕ → MetaImage → MetaImage
freed block slot m = apply_all (failed_grant block slot (slot_at m.slots block slot).grant) m

-- the server that is chosen, and what is told of the grant, are those of that state
pub record DecidesAsFreed (block : BlockId) (slot : ℕ) (m : MetaImage) : Type 0 where
  pub chosen : chosen_for_put block slot m.servers m.slots (slot_at m.slots block slot)
      ≡ choose (census (freed block slot m).servers (freed block slot m).slots)
      (barred_for_put (freed block slot m).servers (freed block slot m).slots block (slot_at (freed block slot m).slots block slot).failed)
  pub told : (layout : Shape) (len server : ℕ) → put_granted layout len block slot m server ≡ put_granted layout len block slot (freed block slot m) server
