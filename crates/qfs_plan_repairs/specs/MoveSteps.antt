-- The last steps of the decision on a move, once the slot is known.
use Rattle.std.specs.Prelude.{ℕ, nat_lt}
use Rattle.qfs_base.specs.declared.chunk.Copy.{Copy}
use Rattle.qfs_base.specs.declared.image.MetaImage.{MetaImage}
use Rattle.qfs_base.specs.declared.reply.MetaReply.TheVariants as Told
use Rattle.qfs_base.specs.declared.request.SlotId.{SlotId}
use Rattle.qfs_base.specs.NameTree.{PathNames}
use Rattle.qfs_base.specs.Shape.{Shape}
use Rattle.qfs_model_meta.specs.Decision.{Decision, need, unless}
use Rattle.qfs_model_meta.specs.LeasedGrants.{grant_leased}
use Rattle.qfs_model_meta.specs.Lists.{block_count, one_source}
use Rattle.qfs_model_meta.specs.MoveRequests.{may_get, move_copy}
use Rattle.qfs_model_meta.specs.Servers.{is_listed}
use Rattle.qfs_model_meta.specs.Slots.{slot_at}
use Rattle.qfs_model_meta.specs.TreeRows.{row_at}

-- a copy is to move, if its new server may get it
abbrev pub move_listed : Shape → ℕ → ℕ → SlotId → ℕ → MetaImage → Copy → Decision
move_listed layout term actor id to m copy =
    unless (may_get m.servers m.slots id.block to) (Told.Barred to)
    (grant_leased layout term actor id.block id.slot (one_source id.slot copy) m to)

-- the same, if the copy is listed
abbrev pub move_free : Shape → ℕ → ℕ → SlotId → ℕ → MetaImage → Copy → Decision
move_free layout term actor id to m copy =
    unless (is_listed m.servers copy) (Told.Away copy.server)
    (move_listed layout term actor id to m copy)

-- the current copy of a slot is to move, if it has one
abbrev pub move_current : Shape → ℕ → ℕ → SlotId → ℕ → MetaImage → Decision
move_current layout term actor id to m =
    need Told.NoBlock
    (move_copy layout term actor id.block id.slot to m (slot_at m.slots id.block id.slot).grant)
    (slot_at m.slots id.block id.slot).current

-- the same of a slot of the file at a path, if the file has such a block
abbrev pub move_in_file : Shape → ℕ → ℕ → PathNames → ℕ → ℕ → ℕ → MetaImage → Decision
move_in_file layout term actor path index slot to m =
    unless (nat_lt index (block_count layout (row_at m.tree path).len)) Told.NoBlock
    (move_current layout term actor
    (record { block = record { file = (row_at m.tree path).file; index = index }; slot = slot })
    to m)
