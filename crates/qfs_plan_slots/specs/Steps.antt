-- The last step of the decision on a grant of a put, once the slot is open for it.
use Rattle.std.specs.Prelude.{ℕ}
use Rattle.qfs_base.specs.declared.image.MetaImage.{MetaImage}
use Rattle.qfs_base.specs.declared.reply.MetaReply.TheVariants as Told
use Rattle.qfs_base.specs.declared.request.SlotId.{SlotId}
use Rattle.qfs_base.specs.Shape.{Shape}
use Rattle.qfs_model_meta.specs.Decision.{Decision, need}
use Rattle.qfs_model_meta.specs.PutRequests.{chosen_for_put, grant_for_put}
use Rattle.qfs_model_meta.specs.Slots.{slot_at}

-- a slot of a file of so many bytes is granted on the server that is chosen, if there is one
abbrev pub grant_open : Shape → ℕ → ℕ → SlotId → MetaImage → Decision
grant_open layout actor len id m =
    need (Told.NoServer id.block id.slot)
    (grant_for_put layout actor len id.block id.slot m (slot_at m.slots id.block id.slot).grant)
    (chosen_for_put id.block id.slot m.servers m.slots (slot_at m.slots id.block id.slot))
