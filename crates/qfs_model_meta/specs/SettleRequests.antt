-- The requests that end a recovery or move: its grant becomes current, or is given up.
use Rattle.std.specs.Prelude.{ℕ, ◌==◌, Bool, true, false, cond, ◌&&◌, List, [], ◌∷◌, ◌++◌, length, Option, Some, None, is_some}
use Rattle.std.specs.Option.{option_map}
use Rattle.qfs_base.specs.declared.change.Change.{Change}
use Rattle.qfs_base.specs.declared.change.Change.TheVariants.{EndLease, ConfirmSlot, GiveUp}
use Rattle.qfs_base.specs.declared.chunk.BlockId.{BlockId}
use Rattle.qfs_base.specs.declared.image.Grant.{Grant}
use Rattle.qfs_base.specs.declared.image.Lease.{Lease}
use Rattle.qfs_base.specs.declared.image.MetaImage.{MetaImage}
use Rattle.qfs_base.specs.declared.image.TreeRow.{TreeRow}
use Rattle.qfs_base.specs.declared.reply.MetaReply.TheVariants as Told
use Rattle.qfs_model_meta.specs.Decision.{Decision, Makes, unless}
use Rattle.qfs_model_meta.specs.Leases.{is_live_lease, holds_lease}
use Rattle.qfs_model_meta.specs.Slots.{slot_at}
use Rattle.qfs_model_meta.specs.TreeRows.{closed_file, file_stands}

-- whether a pending grant is this actor's, with this version and lease
unfoldable pub is_own_grant : ℕ → ℕ → ℕ → Option Grant → Bool
is_own_grant actor version lease None = false
is_own_grant actor version lease (Some grant) =
    (grant.actor == actor) && (grant.copy.version == version) && (grant.lease == lease)

-- the version of a pending grant
unfoldable pub pending_version : Option Grant → Option ℕ
pending_version grant = option_map (λ (g : Grant). g.copy.version) grant

-- a lease ends, if it is live
unfoldable pub end_live_lease : ℕ → List Lease → List Change
end_live_lease lease leases = cond (is_live_lease lease leases) (EndLease lease ∷ []) []

-- an actor's own lease ends
unfoldable pub end_own_lease : ℕ → ℕ → List Lease → List Change
end_own_lease actor lease leases = cond (holds_lease actor lease leases) (EndLease lease ∷ []) []

-- whether a slot of a closed file has this actor's grant pending
unfoldable pub may_confirm : ℕ → ℕ → ℕ → Option TreeRow → Option Grant → Bool
may_confirm actor version lease closed pending =
    is_some closed && is_own_grant actor version lease pending

-- a grant is confirmed, where its file still stands; a Tick may have ended its lease before
unfoldable pub confirm_grant : ℕ → BlockId → ℕ → ℕ → ℕ → MetaImage → Bool → Decision
confirm_grant actor block slot version lease m false =
    Makes (end_own_lease actor lease m.leases) Told.Vanished
confirm_grant actor block slot version lease m true =
    let pending : Option Grant = (slot_at m.slots block slot).grant in
    unless (may_confirm actor version lease (closed_file block.file m.tree) pending)
    (Told.Stale (pending_version pending) version)
    (Makes (end_live_lease lease m.leases ++ ConfirmSlot block slot ∷ []) Told.Confirmed)

-- the granted copy of a recovery or move becomes current
unfoldable pub decide_confirm : ℕ → BlockId → ℕ → ℕ → ℕ → MetaImage → Decision
decide_confirm actor block slot version lease m =
    confirm_grant actor block slot version lease m (file_stands block.file m.tree)

-- a grant is given up, where it is still this actor's
unfoldable pub give_up_own : ℕ → BlockId → ℕ → ℕ → ℕ → Option Grant → List Change
give_up_own actor block slot version lease pending =
    cond (is_own_grant actor version lease pending) (GiveUp block slot ∷ []) []

-- the changes of a recovery or move that is given up
unfoldable pub abandon_changes : ℕ → BlockId → ℕ → ℕ → ℕ → MetaImage → List Change
abandon_changes actor block slot version lease m =
    end_own_lease actor lease m.leases
    ++ give_up_own actor block slot version lease (slot_at m.slots block slot).grant

-- a recovery or move is given up
unfoldable pub decide_abandon : ℕ → BlockId → ℕ → ℕ → ℕ → MetaImage → Decision
decide_abandon actor block slot version lease m =
    Makes (abandon_changes actor block slot version lease m) (Told.Done (length m.history))
