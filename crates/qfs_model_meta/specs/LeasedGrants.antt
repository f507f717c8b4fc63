-- What recoveries and moves share: a lease on the file, and a grant of one of its slots under it.
use Rattle.std.specs.Prelude.{ℕ, ◌==◌, nat_lt, Bool, true, false, ◌&&◌, List, [], ◌∷◌, Option, Some, None, is_none}
use Rattle.qfs_base.specs.Table.{is_behind}
use Rattle.qfs_base.specs.declared.change.Change.{Change}
use Rattle.qfs_base.specs.declared.change.Change.TheVariants.{GiveLease, GrantSlot}
use Rattle.qfs_base.specs.declared.chunk.BlockId.{BlockId}
use Rattle.qfs_base.specs.declared.chunk.Copy.{Copy}
use Rattle.qfs_base.specs.declared.image.Grant.{Grant}
use Rattle.qfs_base.specs.declared.image.MetaImage.{MetaImage}
use Rattle.qfs_base.specs.declared.image.ServerView.{ServerView}
use Rattle.qfs_base.specs.declared.image.SlotRow.{SlotRow}
use Rattle.qfs_base.specs.declared.image.TreeRow.{TreeRow}
use Rattle.qfs_base.specs.declared.reply.MetaReply.{MetaReply}
use Rattle.qfs_base.specs.declared.reply.MetaReply.TheVariants as Told
use Rattle.qfs_base.specs.declared.request.SlotId.{SlotId}
use Rattle.qfs_base.specs.Shape.{Shape}
use Rattle.qfs_model_meta.specs.Decision.{Decision, Makes, need}
use Rattle.qfs_model_meta.specs.Leases.{lease_end}
use Rattle.qfs_model_meta.specs.Lists.{NineCopies, block_count, new_grant, no_sources, one_source, listed_others}
use Rattle.qfs_model_meta.specs.Placing.{census, choose, barred_for_block}
use Rattle.qfs_model_meta.specs.Servers.{is_live}
use Rattle.qfs_model_meta.specs.Slots.{slot_id_cmp}
use Rattle.qfs_model_meta.specs.TreeRows.{closed_file}

-- a slot with a pending grant is taken
unfoldable pub pending_refusal : Option Grant → Option MetaReply
pending_refusal None = None
pending_refusal (Some grant) = Some (Told.Taken grant.copy.version)

-- a slot comes behind another, or behind none
unfoldable pub comes_after : Option SlotId → SlotId → Bool
comes_after None id = true
comes_after (Some after) id = is_behind (slot_id_cmp after) id

-- whether a file has a block of this index
unfoldable pub has_block : Shape → ℕ → Option TreeRow → Bool
has_block layout index None = false
has_block layout index (Some row) = nat_lt index (block_count layout row.len)

-- whether a row is a slot of a block of a closed file, and no grant of it is pending
unfoldable pub is_at_rest : Shape → List TreeRow → SlotRow → Bool
is_at_rest layout tree row =
    is_none row.state.grant && has_block layout row.block.index (closed_file row.block.file tree)

-- whether a current copy is live on a server
unfoldable pub is_live_on : List ServerView → ℕ → Option Copy → Bool
is_live_on servers server None = false
is_live_on servers server (Some copy) = (copy.server == server) && is_live servers copy

-- the length of a closed file in bytes, and of what is none 0
unfoldable pub closed_len : Option TreeRow → ℕ
closed_len None = 0
closed_len (Some row) = row.len

-- the changes of a recovery or move: a lease on the file, and a grant under it
unfoldable pub lease_and_grant : ℕ → ℕ → BlockId → ℕ → ℕ → ℕ → List Change
lease_and_grant lease until block slot server actor =
    GiveLease actor block.file until ∷ GrantSlot block slot server actor lease ∷ []

-- a slot of a closed file is granted on a server, under the next lease
unfoldable pub grant_leased : Shape → ℕ → ℕ → BlockId → ℕ → NineCopies → MetaImage → ℕ → Decision
grant_leased layout term actor block slot sources m server =
    let len : ℕ = closed_len (closed_file block.file m.tree) in
    let until : ℕ = lease_end term m.clock in
    Makes (lease_and_grant m.next_lease until block slot server actor)
    (Told.Granted (new_grant layout len block slot server m.next_lease sources m))

-- the same on the server that is chosen, which has no other copy of the block
unfoldable pub grant_chosen : Shape → ℕ → ℕ → BlockId → ℕ → NineCopies → MetaImage → Decision
grant_chosen layout term actor block slot sources m =
    need (Told.NoServer block slot) (grant_leased layout term actor block slot sources m)
    (choose (census m.servers m.slots) (barred_for_block m.servers m.slots block))

-- a recovery reads the listed copies of the other slots
unfoldable pub grant_recovery : Shape → ℕ → ℕ → BlockId → ℕ → MetaImage → Decision
grant_recovery layout term actor block slot m =
    grant_chosen layout term actor block slot (listed_others m.servers m.slots block slot) m

-- the one source of a move is the current copy
unfoldable pub move_source : ℕ → Option Copy → NineCopies
move_source slot None = no_sources
move_source slot (Some copy) = one_source slot copy
