-- The requests that grant the recovery of a missing slot.
use Rattle.std.specs.Prelude.{ℕ, nat_lt, Bool, true, not, ◌&&◌, ◌||◌, List, filter, find, flat_map, Option, Some, None}
use Rattle.qfs_base.specs.declared.chunk.BlockId.{BlockId}
use Rattle.qfs_base.specs.declared.chunk.Copy.{Copy}
use Rattle.qfs_base.specs.declared.image.MetaImage.{MetaImage}
use Rattle.qfs_base.specs.declared.image.ServerView.{ServerView}
use Rattle.qfs_base.specs.declared.image.SlotRecord.{SlotRecord}
use Rattle.qfs_base.specs.declared.image.TreeRow.{TreeRow}
use Rattle.qfs_base.specs.declared.reply.MetaReply.TheVariants as Told
use Rattle.qfs_base.specs.declared.request.SlotId.{SlotId}
use Rattle.qfs_base.specs.NameTree.{PathNames, look_refusal}
use Rattle.qfs_base.specs.Shape.{Shape}
use Rattle.qfs_model_meta.specs.Decision.{Decision, refuse, unless, need, refuse_path}
use Rattle.qfs_model_meta.specs.LeasedGrants.{pending_refusal, comes_after, closed_len, grant_recovery}
use Rattle.qfs_model_meta.specs.Lists.{block_count}
use Rattle.qfs_model_meta.specs.PutRequests.{file_slots, lacks_grant}
use Rattle.qfs_model_meta.specs.Servers.{server_at, is_live, hibernates}
use Rattle.qfs_model_meta.specs.Slots.{slot_at}
use Rattle.qfs_model_meta.specs.TreeRows.{standing, row_at, is_closed_row, rising_files, closed_file}

-- whether a server is up, or down only for a while
unfoldable pub is_expected : ℕ → ServerView → Bool
is_expected clock server = server.up || hibernates clock server

-- whether a slot is missing: it has no live current copy, or that copy's server isn't up and doesn't
-- hibernate
unfoldable pub is_missing : ℕ → List ServerView → Option Copy → Bool
is_missing clock servers None = true
is_missing clock servers (Some copy) =
    not (is_live servers copy && is_expected clock (server_at servers copy.server))

-- a missing slot of a file is to be recovered
unfoldable pub decide_recover : Shape → ℕ → ℕ → PathNames → ℕ → ℕ → MetaImage → Decision
decide_recover layout term actor path index slot m =
    let block : BlockId = record { file = (row_at m.tree path).file; index = index } in
    let state : SlotRecord = slot_at m.slots block slot in
    refuse_path (look_refusal (standing m.tree) path)
    (unless (nat_lt index (block_count layout (row_at m.tree path).len)) Told.NoBlock
    (refuse (pending_refusal state.grant)
    (unless (is_missing m.clock m.servers state.current) Told.Whole
    (grant_recovery layout term actor block slot m))))

-- the slots of a closed file, and those of all closed files, by file, index and slot
unfoldable pub slots_of_closed : Shape → List TreeRow → ℕ → List SlotId
slots_of_closed layout tree file = file_slots file (block_count layout (closed_len (closed_file file tree)))

unfoldable pub closed_slots : Shape → List TreeRow → List SlotId
closed_slots layout tree = flat_map (slots_of_closed layout tree) (rising_files (filter is_closed_row tree))

-- whether a slot is missing, and isn't being recovered or moved already
unfoldable pub is_to_heal : MetaImage → SlotId → Bool
is_to_heal m id =
    lacks_grant m.slots id && is_missing m.clock m.servers (slot_at m.slots id.block id.slot).current

-- the first such slot behind another
unfoldable pub next_to_heal : Shape → Option SlotId → MetaImage → Option SlotId
next_to_heal layout after m =
    find (λ (id : SlotId). comes_after after id && is_to_heal m id) (closed_slots layout m.tree)

-- a slot is to be recovered
unfoldable pub heal_slot : Shape → ℕ → ℕ → MetaImage → SlotId → Decision
heal_slot layout term actor m id = grant_recovery layout term actor id.block id.slot m

-- the next missing slot is to be recovered
unfoldable pub decide_heal : Shape → ℕ → ℕ → Option SlotId → MetaImage → Decision
decide_heal layout term actor after m =
    need Told.Nothing (heal_slot layout term actor m) (next_to_heal layout after m)
