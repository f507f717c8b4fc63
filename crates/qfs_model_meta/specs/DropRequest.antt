-- The request that drops an actor: its leases, grants and unclosed files are given up.
use Rattle.std.specs.Prelude.{ℕ, ◌==◌, Bool, false, ◌&&◌, List, [], ◌∷◌, ◌++◌, length, map, filter, flat_map, Option, Some, None, is_some}
use Rattle.qfs_base.specs.declared.change.Change.{Change}
use Rattle.qfs_base.specs.declared.change.Change.TheVariants.{DropActor, EndLease, GiveUp}
use Rattle.qfs_base.specs.declared.image.Grant.{Grant}
use Rattle.qfs_base.specs.declared.image.MetaImage.{MetaImage}
use Rattle.qfs_base.specs.declared.image.SlotRow.{SlotRow}
use Rattle.qfs_base.specs.declared.image.TreeRow.{TreeRow}
use Rattle.qfs_base.specs.declared.reply.MetaReply.TheVariants as Told
use Rattle.qfs_model_meta.specs.Decision.{Decision, Makes}
use Rattle.qfs_model_meta.specs.Dropped.{dropped_at}
use Rattle.qfs_model_meta.specs.Leases.{leases_of}
use Rattle.qfs_model_meta.specs.PutRequests.{abort_changes}
use Rattle.qfs_model_meta.specs.TreeRows.{closed_file, unclosed_files}

-- whether a grant is an actor's
unfoldable pub is_granted_to : ℕ → Option Grant → Bool
is_granted_to actor None = false
is_granted_to actor (Some grant) = grant.actor == actor

-- whether a slot of a closed file is granted to an actor
unfoldable pub is_recovery_of : ℕ → List TreeRow → SlotRow → Bool
is_recovery_of actor tree row =
    is_granted_to actor row.state.grant && is_some (closed_file row.block.file tree)

-- the changes that give an actor's recoveries and moves up, by file, index and slot
unfoldable pub recovery_changes : ℕ → List TreeRow → List SlotRow → List Change
recovery_changes actor tree slots =
    map (λ (row : SlotRow). GiveUp row.block row.slot) (filter (is_recovery_of actor tree) slots)

-- the changes that give its unclosed files up, by number
unfoldable pub unclosed_changes : ℕ → List TreeRow → List SlotRow → List Change
unclosed_changes actor tree slots =
    flat_map (λ file. abort_changes file slots) (unclosed_files actor tree)

-- an actor counts as dropped, its leases end, its recoveries and moves are given up, and then its
-- unclosed files
unfoldable pub drop_changes : ℕ → MetaImage → List Change
drop_changes actor m =
    DropActor actor ∷ map EndLease (leases_of actor m.leases)
    ++ recovery_changes actor m.tree m.slots
    ++ unclosed_changes actor m.tree m.slots

-- a second drop of an actor changes nothing
unfoldable pub changes_unless_dropped : ℕ → MetaImage → Option ℕ → List Change
changes_unless_dropped actor m None = drop_changes actor m
changes_unless_dropped actor m (Some turn) = []

-- an actor is dropped
unfoldable pub decide_drop : ℕ → MetaImage → Decision
decide_drop actor m =
    Makes (changes_unless_dropped actor m (dropped_at actor m.dropped)) (Told.Done (length m.history))
