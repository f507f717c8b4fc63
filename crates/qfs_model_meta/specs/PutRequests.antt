-- The requests of a put: a file is created, its slots are granted one after another, and it is closed
-- or given up.
use Rattle.std.specs.Prelude.{ℕ, nat_lt, Bool, true, false, List, [], ◌∷◌, ◌++◌, length, map, find, flat_map, Option, Some, None, is_none}
use Rattle.std.specs.List.{range_with_len}
use Rattle.qfs_base.specs.declared.change.Change.{Change}
use Rattle.qfs_base.specs.declared.change.Change.TheVariants.{AddFile, GrantSlot, FailGrant, GiveUp, CloseFile, AbortFile}
use Rattle.qfs_base.specs.declared.chunk.BlockId.{BlockId}
use Rattle.qfs_base.specs.declared.image.Grant.{Grant}
use Rattle.qfs_base.specs.declared.image.MetaImage.{MetaImage}
use Rattle.qfs_base.specs.declared.image.ServerView.{ServerView}
use Rattle.qfs_base.specs.declared.image.SlotRecord.{SlotRecord}
use Rattle.qfs_base.specs.declared.image.SlotRow.{SlotRow}
use Rattle.qfs_base.specs.declared.image.TreeRow.{TreeRow}
use Rattle.qfs_base.specs.declared.reply.MetaReply.{MetaReply}
use Rattle.qfs_base.specs.declared.reply.MetaReply.TheVariants as Told
use Rattle.qfs_base.specs.declared.request.SlotId.{SlotId}
use Rattle.qfs_base.specs.NameTree.{PathNames, add_refusal}
use Rattle.qfs_base.specs.NumberSet.{with_member}
use Rattle.qfs_base.specs.Shape.{Shape}
use Rattle.qfs_model_meta.specs.Decision.{Decision, Makes, refuse, unless, need, refuse_file}
use Rattle.qfs_base.specs.Mask.{all_slots}
use Rattle.qfs_model_meta.specs.Lists.{block_count, no_sources, new_grant}
use Rattle.qfs_model_meta.specs.Placing.{census, choose, barred_for_put}
use Rattle.qfs_model_meta.specs.Slots.{slot_id, slot_at, slots_of, without_grant}
use Rattle.qfs_model_meta.specs.TreeRows.{standing, unclosed_file}

-- a file is made that its actor has yet to write
unfoldable pub decide_create : ℕ → PathNames → ℕ → ℕ → MetaImage → Decision
decide_create actor path command len m =
    refuse_file (length m.history) (add_refusal (standing m.tree) path)
    (Makes (AddFile path actor command len ∷ []) (Told.Created m.next_file (length m.history)))

-- a second grant is taken where the first one's server failed; else the slot is taken
unfoldable pub taken_refusal : Bool → Option Grant → Option MetaReply
taken_refusal again None = None
taken_refusal true (Some grant) = None
taken_refusal false (Some grant) = Some (Told.Taken grant.copy.version)

-- what happens to a pending grant before the next one is given: its server counts as failed
unfoldable pub failed_grant : BlockId → ℕ → Option Grant → List Change
failed_grant block slot None = []
failed_grant block slot (Some grant) = FailGrant block slot ∷ []

-- the servers that failed a put of a slot, and that of its pending grant
unfoldable pub failed_with : List ℕ → Option Grant → List ℕ
failed_with failed None = failed
failed_with failed (Some grant) = with_member failed grant.copy.server

-- the server that a put of a slot is granted: a grant of it that is pending counts as failed, and no
-- more as one of the block's
unfoldable pub chosen_for_put : BlockId → ℕ → List ServerView → List SlotRow → SlotRecord → Option ℕ
chosen_for_put block slot servers slots state =
    let others : List SlotRow = without_grant block slot slots state.grant in
    choose (census servers others)
    (barred_for_put servers others block (failed_with state.failed state.grant))

-- what a put is told of its grant
unfoldable pub put_granted : Shape → ℕ → BlockId → ℕ → MetaImage → ℕ → MetaReply
put_granted layout len block slot m server =
    Told.Granted (new_grant layout len block slot server 0 no_sources m)

-- a slot is granted on a server, after the changes of a failed grant
unfoldable pub grant_for_put : Shape → ℕ → ℕ → BlockId → ℕ → MetaImage → Option Grant → ℕ → Decision
grant_for_put layout actor len block slot m pending server =
    Makes (failed_grant block slot pending ++ GrantSlot block slot server actor 0 ∷ [])
    (put_granted layout len block slot m server)

-- a slot of a file that the actor hasn't closed yet is granted, or refused
unfoldable pub grant_in : Shape → ℕ → BlockId → ℕ → Bool → MetaImage → SlotRecord → TreeRow → Decision
grant_in layout actor block slot again m state row =
    unless (nat_lt block.index (block_count layout row.len)) Told.NoBlock
    (refuse (taken_refusal again state.grant)
    (need (Told.NoServer block slot) (grant_for_put layout actor row.len block slot m state.grant)
    (chosen_for_put block slot m.servers m.slots state)))

-- a server for a slot of a file that the actor hasn't closed yet
unfoldable pub decide_grant : Shape → ℕ → BlockId → ℕ → Bool → MetaImage → Decision
decide_grant layout actor block slot again m =
    need Told.Gone (grant_in layout actor block slot again m (slot_at m.slots block slot))
    (unclosed_file actor block.file m.tree)

-- the slots of a block, and all slots of so many blocks of a file, by index and slot
unfoldable pub block_slots : BlockId → List SlotId
block_slots block = map (λ slot. record { block = block; slot = slot }) all_slots

unfoldable pub file_slots : ℕ → ℕ → List SlotId
file_slots file count =
    flat_map (λ index. block_slots (record { file = file; index = index })) (range_with_len 0 count)

-- whether a slot has no pending grant
unfoldable pub lacks_grant : List SlotRow → SlotId → Bool
lacks_grant slots id = is_none (slot_at slots id.block id.slot).grant

-- the first slot of a file without a pending grant: one of its blocks, or else one that the table
-- holds beyond them
unfoldable pub first_ungranted : ℕ → ℕ → List SlotRow → Option SlotId
first_ungranted file count slots =
    find (lacks_grant slots) (file_slots file count ++ map slot_id (slots_of file slots))

-- a file isn't closed before all of its slots are granted
unfoldable pub incomplete : Option SlotId → Option MetaReply
incomplete None = None
incomplete (Some id) = Some (Told.Incomplete id.block.index id.slot)

-- a file that the actor hasn't closed yet is closed, or refused
unfoldable pub close_complete : Shape → ℕ → ℕ → MetaImage → TreeRow → Decision
close_complete layout actor file m row =
    refuse (incomplete (first_ungranted file (block_count layout row.len) m.slots))
    (Makes (CloseFile file actor row.command ∷ []) (Told.Done (length m.history)))

-- a file is closed
unfoldable pub decide_close : Shape → ℕ → ℕ → MetaImage → Decision
decide_close layout actor file m =
    need Told.Gone (close_complete layout actor file m) (unclosed_file actor file m.tree)

-- the changes that give an unclosed file up: its grants are condemned by index and slot
unfoldable pub abort_changes : ℕ → List SlotRow → List Change
abort_changes file slots =
    map (λ (row : SlotRow). GiveUp row.block row.slot) (slots_of file slots) ++ AbortFile file ∷ []

-- a file is given up before it is closed
unfoldable pub abort_unclosed : ℕ → MetaImage → TreeRow → Decision
abort_unclosed file m row = Makes (abort_changes file m.slots) (Told.Done (length m.history))

unfoldable pub decide_abort : ℕ → ℕ → MetaImage → Decision
decide_abort actor file m = need Told.Gone (abort_unclosed file m) (unclosed_file actor file m.tree)
