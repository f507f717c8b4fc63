-- What goes along with the nine parts of the sound world, so that each step keeps all of them.
use Rattle.std.specs.Prelude.{◌≡◌, ℕ, ◌<◌, ◌≤◌, ◌+◌, ◌⊎◌, nat_eq, Bool, true, false, List, [], ◌∷◌, ◌++◌, filter_map, find, length, Option, Some, None, IfSome, is_some, IsTrue}
use Rattle.std.specs.List.{list_any, IsDistinct}
use Rattle.std.specs.Option.{option_to_list}
use Rattle.std.specs.Ordering.{nat_cmp}
use Rattle.qfs_base.specs.Shape.{Shape}
use Rattle.qfs_base.specs.Table.{Each, place_all}
use Rattle.qfs_base.specs.declared.chunk.Copy.{Copy}
use Rattle.qfs_base.specs.declared.image.Grant.{Grant}
use Rattle.qfs_base.specs.declared.image.Lease.{Lease}
use Rattle.qfs_base.specs.declared.image.MetaImage.{MetaImage}
use Rattle.qfs_base.specs.declared.image.ServerView.{ServerView}
use Rattle.qfs_base.specs.declared.image.SlotRow.{SlotRow}
use Rattle.qfs_base.specs.declared.image.TreeRow.{TreeRow}
use Rattle.qfs_base.specs.declared.reply.Granted.{Granted}
use Rattle.qfs_base.specs.declared.reply.MetaReply.{MetaReply}
use Rattle.qfs_base.specs.declared.reply.MetaReply.TheVariants as Told
use Rattle.qfs_base.specs.declared.reply.NodeReply.{NodeReply}
use Rattle.qfs_base.specs.declared.reply.NodeReply.TheVariants as From
use Rattle.qfs_base.specs.declared.request.SlotId.{SlotId}
use Rattle.qfs_base.specs.declared.rules.Rules.{Rules}
use Rattle.qfs_model_actor.specs.Actor.{Actor}
use Rattle.qfs_model_meta.specs.Dropped.{dropped_at}
use Rattle.qfs_model_meta.specs.Holding.{Holding, is_same_slot}
use Rattle.qfs_model_meta.specs.LeasedGrants.{has_block}
use Rattle.qfs_model_meta.specs.Lists.{block_count}
use Rattle.qfs_model_meta.specs.Past.{GivenLease}
use Rattle.qfs_model_meta.specs.PutRequests.{file_slots}
use Rattle.qfs_model_meta.specs.Servers.{server_at}
use Rattle.qfs_model_meta.specs.Slots.{slot_at, granted_copy}
use Rattle.qfs_model_meta.specs.Sound.{same_lease}
use Rattle.qfs_model_meta.specs.TreeRows.{has_file, closed_file, unclosed_file, is_closed_row}
use Rattle.qfs_model_world.specs.Events.{Event, past_of}
use Rattle.qfs_model_world.specs.World.{World}
use Rattle.qfs_model_promises.specs.Heard.{Exchange, exchanges_of, holding_of}
use Rattle.qfs_model_promises.specs.HeardSteps.{HeardAreSteps}

-- ---- the slots of the state

-- no copy of the state is of a life that its server isn't known to have had
abbrev pub IsKnownLife : MetaImage → Copy → Type 0
IsKnownLife m copy = copy.life ≤ (server_at m.servers copy.server).life

abbrev pub HasKnownLives : MetaImage → SlotRow → Type 0
HasKnownLives m row =
    Each (IsKnownLife m) (option_to_list row.state.current ++ option_to_list (granted_copy row.state.grant))

abbrev pub LivesAreKnown : MetaImage → Type 0
LivesAreKnown m = Each (HasKnownLives m) m.slots

-- the lease of a grant, which is its actor's, on the grant's file
abbrev pub lease_of_grant : SlotRow → Grant → GivenLease
lease_of_grant row grant = record { lease = grant.lease; actor = grant.actor; file = row.block.file }

-- the grant of a recovery or move: its lease is live, unless the script has a term, and its slot has a current copy
pub record IsLeased (term : ℕ) (m : MetaImage) (row : SlotRow) (grant : Grant) : Type 0 where
  pub numbered : 0 < grant.lease
  pub lease : (0 < term) ⊎ IsTrue (list_any (same_lease (lease_of_grant row grant)) m.leases)
  pub current : IsTrue (is_some row.state.current)

-- the grant of a put: it has no lease, and is of the actor that writes the file
pub record IsWriters (m : MetaImage) (row : SlotRow) (grant : Grant) : Type 0 where
  pub lease : grant.lease ≡ 0
  pub own : IsTrue (is_some (unclosed_file grant.actor row.block.file m.tree))

abbrev pub IsGrantOfKind : ℕ → MetaImage → SlotRow → Grant → Bool → Type 0
IsGrantOfKind term m row grant true = IsLeased term m row grant
IsGrantOfKind term m row grant false = IsWriters m row grant

abbrev pub IsGrantIn : ℕ → MetaImage → SlotRow → Type 0
IsGrantIn term m row =
    IfSome row.state.grant (λ (grant : Grant).
    IsGrantOfKind term m row grant (is_some (closed_file row.block.file m.tree)))

-- a slot is one of a block of its file
abbrev pub IsOfBlock : Shape → MetaImage → SlotRow → Type 0
IsOfBlock layout m row = IsTrue (has_block layout row.block.index (find (has_file row.block.file) m.tree))

-- a slot of a closed file remembers no failed servers
abbrev pub ForgetsFailed : MetaImage → SlotRow → Type 0
ForgetsFailed m row = IsTrue (is_some (closed_file row.block.file m.tree)) → row.state.failed ≡ []

-- every slot of every block of a closed file has a current copy
abbrev pub HasCurrent : MetaImage → SlotId → Type 0
HasCurrent m id = IsTrue (is_some (slot_at m.slots id.block id.slot).current)

abbrev pub IsFilled : Shape → MetaImage → TreeRow → Type 0
IsFilled layout m row =
    IsTrue (is_closed_row row) → Each (HasCurrent m) (file_slots row.file (block_count layout row.len))

-- the slots are those of the blocks of their files, their grants are of the kind of their file, and closed files are filled
pub record SlotsFit (rules : Rules) (m : MetaImage) : Type 0 where
  pub in_blocks : Each (IsOfBlock rules.layout m) m.slots
  pub grants : Each (IsGrantIn rules.term m) m.slots
  pub failed : Each (ForgetsFailed m) m.slots
  pub filled : Each (IsFilled rules.layout m) m.tree

-- ---- what a put was granted

-- whether a grant that was heard is that of a slot
unfoldable pub is_of_row : SlotRow → Granted → Bool
is_of_row row g = is_same_slot (record g { block = row.block; slot = row.slot }) g

unfoldable pub server_told : Granted → Bool → Option ℕ
server_told g true = Some g.server
server_told g false = None

unfoldable pub server_granted : SlotRow → MetaReply → Option ℕ
server_granted row (Told.Granted g) = server_told g (is_of_row row g)
server_granted row reply = None

unfoldable pub server_heard : SlotRow → NodeReply → Option ℕ
server_heard row (From.Meta reply) = server_granted row reply
server_heard row (From.Chunk reply) = None

-- the servers that the present command was granted for a slot, in order
unfoldable pub servers_tried : Actor → SlotRow → List ℕ
servers_tried actor row = filter_map (λ (e : Exchange). server_heard row e.1) (exchanges_of actor)

-- each server that a put was granted for a slot is another, and all but the last one count as failed
pub record IsTried (actor : Actor) (row : SlotRow) : Type 0 where
  pub distinct : IsDistinct nat_eq (servers_tried actor row)
  pub failed : IfSome row.state.grant (λ (grant : Grant).
      place_all nat_cmp (servers_tried actor row) []
      ≡ place_all nat_cmp (grant.copy.server ∷ row.state.failed) [])

-- a grant of the file that a command writes is one that it holds
abbrev pub IsHeldGrant : Holding → SlotRow → Grant → Type 0
IsHeldGrant holding row grant = IsTrue (list_any (is_of_row row) holding.grants)

pub record WritesAlone (actor : Actor) (row : SlotRow) : Type 0 where
  pub held : IfSome row.state.grant (IsHeldGrant (holding_of actor) row)
  pub tried : IsTried actor row

-- of a file that an actor writes there are no other grants than those that it was given
abbrev pub WritesFileAlone : MetaImage → Actor → ℕ → Type 0
WritesFileAlone m actor file = Each (λ (row : SlotRow). row.block.file ≡ file → WritesAlone actor row) m.slots

abbrev pub WritersAreAlone : World → Type 0
WritersAreAlone world =
    Each (λ (actor : Actor). dropped_at actor.number world.meta.dropped ≡ None
    → IfSome (holding_of actor).file (WritesFileAlone world.meta actor)) world.actors

-- ---- leases, and what is left of numbers

-- without a term leases last
abbrev pub LastsForGood : ℕ → Lease → Type 0
LastsForGood term lease = term ≡ 0 → lease.until ≡ 0

-- there were fewer grants than steps, since a file is created or opened before; and a server that came to a new life took
-- more steps than that. So neither versions nor lives come to their last values in a short run
pub record HasRoomLeft (world : World) (steps : List Event) : Type 0 where
  pub versions : 0 < length (past_of steps).granted → length (past_of steps).granted < length steps
  pub lives : Each (λ (server : ServerView). (1 < server.life) → server.life + 1 ≤ length steps) world.meta.servers

-- ---- all of them

pub record GoesAlong (world : World) (steps : List Event) : Type 0 where
  pub heard : HeardAreSteps world steps
  pub known_lives : LivesAreKnown world.meta
  pub slots : SlotsFit world.rules world.meta
  pub writers : WritersAreAlone world
  pub leases : Each (LastsForGood world.rules.term) world.meta.leases
  pub room : HasRoomLeft world steps
