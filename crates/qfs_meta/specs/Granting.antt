-- The grant of a slot for a put, over the servers and the slots alone.
use Rattle.std.specs.Prelude.{◌≡◌, ◌-◌, ℕ, cond, ◌==◌, count_by, List, [], flat_map, filter, Option, Some, None}
use Rattle.std.specs.Option.{option_to_list}
use Rattle.qfs_base.specs.declared.chunk.Copy.{Copy}
use Rattle.qfs_base.specs.declared.image.Grant.{Grant}
use Rattle.qfs_base.specs.declared.image.MetaImage.{MetaImage}
use Rattle.qfs_base.specs.declared.image.ServerView.{ServerView}
use Rattle.qfs_base.specs.declared.image.SlotRecord.{SlotRecord}
use Rattle.qfs_base.specs.declared.image.SlotRow.{SlotRow}
use Rattle.qfs_base.specs.declared.reply.MetaReply.TheVariants as Told
use Rattle.qfs_base.specs.declared.request.SlotId.{SlotId}
use Rattle.qfs_base.specs.Shape.{Shape}
use Rattle.qfs_model_meta.specs.Condemned.{condemn_any}
use Rattle.qfs_model_meta.specs.Decision.{Decision, need}
use Rattle.qfs_model_meta.specs.Placing.{census, choose}
use Rattle.qfs_model_meta.specs.PutRequests.{chosen_for_put, grant_for_put}
use Rattle.qfs_model_meta.specs.Servers.{server_at}
use Rattle.qfs_model_meta.specs.Slots.{is_on, count_on, is_of_block, with_slot, granted_copy, granted_slot, ungranted_slot, failed_slot, slot_at}
use Rattle.qfs_meta.specs.Loads.{loads_of}

-- a slot's record once its pending grant's server failed the put, if it has a grant
abbrev pub freed : Option Grant → SlotRecord → SlotRecord
freed None state = state
freed (Some grant) state = failed_slot grant.copy.server (ungranted_slot state)

-- a slot's record with a new grant in place of a pending one
abbrev pub granted_anew : ℕ → ℕ → ℕ → SlotRecord → SlotRecord
granted_anew server life actor state = granted_slot server life actor 0 (freed state.grant state)

-- the slots after one of them got a grant on a server, in the life that is known of it
abbrev pub granted_in : List ServerView → List SlotRow → SlotId → ℕ → ℕ → List SlotRow
granted_in servers slots id server actor =
    with_slot id.block id.slot
    (granted_anew server (server_at servers server).life actor (slot_at slots id.block id.slot)) slots

-- the state after a slot got a grant: a pending one is condemned
abbrev pub granting : SlotId → ℕ → ℕ → MetaImage → MetaImage
granting id server actor m =
    record (condemn_any id.block id.slot m (granted_copy (slot_at m.slots id.block id.slot).grant)) {
      slots = granted_in m.servers m.slots id server actor;
    }

-- the grant on the server that is chosen, of a slot that may be granted
abbrev pub grant_chosen : Shape → ℕ → ℕ → SlotId → MetaImage → Decision
grant_chosen layout actor len id m =
    let state : SlotRecord = slot_at m.slots id.block id.slot in
    need (Told.NoServer id.block id.slot) (grant_for_put layout actor len id.block id.slot m state.grant)
    (chosen_for_put id.block id.slot m.servers m.slots state)

-- the copy that a row's grant allows, if it is of another slot
abbrev pub granted_elsewhere : ℕ → SlotRow → List Copy
granted_elsewhere slot row = cond (row.slot == slot) [] (option_to_list (granted_copy row.state.grant))

-- the copies that the grants of a block's other slots allow
abbrev pub granted_beside : SlotId → List SlotRow → List Copy
granted_beside id slots = flat_map (granted_elsewhere id.slot) (filter (is_of_block id.block) slots)

-- the others are the slots with a copy left out
abbrev pub IsLeftOut : Option Copy → List SlotRow → List SlotRow → Type 0
IsLeftOut copy slots others =
    (server life : ℕ) → count_on server life others ≡ count_on server life slots - count_by (is_on server life) (option_to_list copy)

-- a choice by loads that count one copy more than the others' slots have: it is the one by these slots
abbrev pub IsChoice : List ServerView → List ℕ → Option Copy → List ℕ → Option ℕ → Type 0
IsChoice servers loads left_out barred choice =
    (slots others : List SlotRow) → loads ≡ loads_of servers slots → IsLeftOut left_out slots others
    → choice ≡ choose (census servers others) barred
