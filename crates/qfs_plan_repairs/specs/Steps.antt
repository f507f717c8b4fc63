-- The last steps of the decision on a recovery, once the slot is known.
use Rattle.std.specs.Prelude.{ℕ, nat_lt}
use Rattle.qfs_base.specs.declared.image.MetaImage.{MetaImage}
use Rattle.qfs_base.specs.declared.reply.MetaReply.TheVariants as Told
use Rattle.qfs_base.specs.declared.request.SlotId.{SlotId}
use Rattle.qfs_base.specs.NameTree.{PathNames}
use Rattle.qfs_base.specs.Shape.{Shape}
use Rattle.qfs_model_meta.specs.Decision.{Decision, refuse, unless}
use Rattle.qfs_model_meta.specs.LeasedGrants.{grant_recovery, pending_refusal}
use Rattle.qfs_model_meta.specs.Lists.{block_count}
use Rattle.qfs_model_meta.specs.RepairRequests.{is_missing}
use Rattle.qfs_model_meta.specs.Slots.{slot_at}
use Rattle.qfs_model_meta.specs.TreeRows.{row_at}

-- a slot is to be recovered, if it is missing
abbrev pub recover_missing : Shape → ℕ → ℕ → SlotId → MetaImage → Decision
recover_missing layout term actor id m =
    unless (is_missing m.clock m.servers (slot_at m.slots id.block id.slot).current) Told.Whole
    (grant_recovery layout term actor id.block id.slot m)

-- the same, if no grant of it is pending
abbrev pub recover_slot : Shape → ℕ → ℕ → SlotId → MetaImage → Decision
recover_slot layout term actor id m =
    refuse (pending_refusal (slot_at m.slots id.block id.slot).grant)
    (recover_missing layout term actor id m)

-- the same of a slot of the file at a path, if the file has such a block
abbrev pub recover_in_file : Shape → ℕ → ℕ → PathNames → ℕ → ℕ → MetaImage → Decision
recover_in_file layout term actor path index slot m =
    unless (nat_lt index (block_count layout (row_at m.tree path).len)) Told.NoBlock
    (recover_slot layout term actor
    (record { block = record { file = (row_at m.tree path).file; index = index }; slot = slot }) m)
