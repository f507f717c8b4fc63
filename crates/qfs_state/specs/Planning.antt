-- What a plan is: the changes that were decided on, each of which may be made when its turn comes,
-- and the reply.
use Rattle.std.specs.Prelude.{◌≡◌, ◌<◌, ⊤, ℕ, List, [], ◌∷◌, length, map, None, IsSome}
use Rattle.qfs_base.specs.declared.change.Change.{Change}
use Rattle.qfs_base.specs.declared.change.Change.TheVariants as Made
use Rattle.qfs_base.specs.declared.history.Entry.{Entry}
use Rattle.qfs_base.specs.declared.history.Entry.TheVariants as Wrote
use Rattle.qfs_base.specs.declared.image.MetaImage.{MetaImage}
use Rattle.qfs_base.specs.declared.request.SlotId.{SlotId}
use Rattle.qfs_base.specs.NameTree.{PathNames, add_refusal, look_refusal, rename_refusal, rmdir_refusal}
use Rattle.qfs_base.specs.Sizes.{LAST_U32, SLOTS}
use Rattle.qfs_model_meta.specs.Apply.{apply}
use Rattle.qfs_model_meta.specs.Decision.{Decision, Tells, Makes}
use Rattle.qfs_model_meta.specs.Dropped.{dropped_at}
use Rattle.qfs_model_meta.specs.Grammar.{IsServer}
use Rattle.qfs_model_meta.specs.Placing.{census}
use Rattle.qfs_model_meta.specs.Slots.{count_on, slot_at}
use Rattle.qfs_model_meta.specs.TreeRows.{standing, unclosed_file}
use Rattle.qfs_names.specs.declared.moving.Moved.{Moved}
use Rattle.qfs_namespace.specs.Namespaces.{IsMoved}
use Rattle.qfs_place.specs.Loads.{load_at}
use Rattle.qfs_state.specs.declared.prepared.Plan.{Plan}
use Rattle.qfs_state.specs.declared.prepared.Prepared.{Prepared}
use Rattle.qfs_state.specs.declared.prepared.Prepared.TheVariants.{AddDirectory, TakeDirectory, AddFile, CloseFile, AbortFile, RemoveFile, MovePath, GrantSlot, FailGrant, GiveUp, ConfirmSlot, EmptySlot, GiveLease, EndLease, MarkOrdered, TakeCondemned, CondemnStray, ServerUp, ServerDown, ServerLeaves, ServerSleeps, ClockTicks, DropActor}
use Rattle.qfs_state.specs.declared.prepared.Unplanned.{Unplanned}
use Rattle.qfs_state.specs.declared.prepared.Unplanned.TheVariants as Is

-- the change that was prepared
abbrev pub change_of : Prepared → Change
change_of (AddDirectory path entry) = Made.AddDirectory path
change_of (TakeDirectory path entry) = Made.TakeDirectory path
change_of (AddFile path again actor command len entry) = Made.AddFile path actor command len
change_of (CloseFile file actor command) = Made.CloseFile file actor command
change_of (AbortFile file) = Made.AbortFile file
change_of (RemoveFile path file entry) = Made.RemoveFile path file
change_of (MovePath from to moved entry) = Made.MovePath from to
change_of (GrantSlot id server actor lease) = Made.GrantSlot id.block id.slot server actor lease
change_of (FailGrant id) = Made.FailGrant id.block id.slot
change_of (GiveUp id) = Made.GiveUp id.block id.slot
change_of (ConfirmSlot id) = Made.ConfirmSlot id.block id.slot
change_of (EmptySlot id) = Made.EmptySlot id.block id.slot
change_of (GiveLease actor file until) = Made.GiveLease actor file until
change_of (EndLease lease) = Made.EndLease lease
change_of (MarkOrdered number) = Made.MarkOrdered number
change_of (TakeCondemned number) = Made.TakeCondemned number
change_of (CondemnStray server life key) = Made.CondemnStray server life key
change_of (ServerUp server life count) = Made.ServerUp server life
change_of (ServerDown server) = Made.ServerDown server
change_of (ServerLeaves server) = Made.ServerLeaves server
change_of (ServerSleeps server until) = Made.ServerSleeps server until
change_of ClockTicks = Made.ClockTicks
change_of (DropActor actor) = Made.DropActor actor

abbrev pub changes_of : List Prepared → List Change
changes_of changes = map change_of changes

-- nothing stands in the way of a change of the name tree, and its entry and the copy of its path
-- are right
pub record MayAddFile (m : MetaImage) (path again : PathNames) (entry : Entry) : Type 0 where
  pub free : add_refusal (standing m.tree) path ≡ None
  pub copied : again ≡ path
  pub entry_is : entry ≡ Wrote.Created m.next_file path

pub record MayMovePath (m : MetaImage) (from to : PathNames) (moved : Moved) (entry : Entry)
    : Type 0 where
  pub free : rename_refusal (standing m.tree) from to ≡ None
  pub planned : IsMoved from to m.tree moved
  pub entry_is : entry ≡ Wrote.Renamed from to

-- a slot is granted on a server that is there and whose load can rise, and no grant of it is pending
pub record MayGrant (m : MetaImage) (id : SlotId) (server : ℕ) : Type 0 where
  pub slot_number : id.slot < SLOTS
  pub server_there : IsServer (length m.servers) server
  pub free : (slot_at m.slots id.block id.slot).grant ≡ None
  pub not_full : (load_at (census m.servers m.slots) server).count < LAST_U32

-- a server that is there comes up, in a life in which so many copies and grants stand on it
pub record MayComeUp (m : MetaImage) (server life count : ℕ) : Type 0 where
  pub server_there : IsServer (length m.servers) server
  pub counted : count_on server life m.slots ≡ count

-- a prepared change may be made of a state
abbrev pub MayMake : MetaImage → Prepared → Type 0
MayMake m (AddDirectory path entry) =
    (add_refusal (standing m.tree) path ≡ None) × (entry ≡ Wrote.Mkdir path)
MayMake m (TakeDirectory path entry) =
    (rmdir_refusal (standing m.tree) path ≡ None) × (entry ≡ Wrote.Rmdir path)
MayMake m (AddFile path again actor command len entry) = MayAddFile m path again entry
MayMake m (CloseFile file actor command) = IsSome (unclosed_file actor file m.tree)
MayMake m (AbortFile file) = (actor : ℕ) × IsSome (unclosed_file actor file m.tree)
MayMake m (RemoveFile path file entry) =
    (look_refusal (standing m.tree) path ≡ None) × (entry ≡ Wrote.Removed path)
MayMake m (MovePath from to moved entry) = MayMovePath m from to moved entry
MayMake m (GrantSlot id server actor lease) = MayGrant m id server
MayMake m (ServerUp server life count) = MayComeUp m server life count
MayMake m (ServerDown server) = IsServer (length m.servers) server
MayMake m (ServerLeaves server) = IsServer (length m.servers) server
MayMake m (ServerSleeps server until) = IsServer (length m.servers) server
MayMake m (DropActor actor) = dropped_at actor m.dropped ≡ None
MayMake m _ = ⊤

-- each of several changes may be made when its turn comes
abbrev pub MayMakeAll : MetaImage → List Prepared → Type 0
MayMakeAll m [] = ⊤
MayMakeAll m (change ∷ later) = MayMake m change × MayMakeAll (apply m (change_of change)) later

-- a plan is what was decided on a state, and may be carried out
pub record IsPlan (m : MetaImage) (decision : Decision) (plan : Plan) : Type 0 where
  pub decided : decision ≡ Makes (changes_of plan.changes.items) plan.reply
  pub may : MayMakeAll m plan.changes.items

-- where there is no plan, this was told, or no memory was found
abbrev pub IsUnplanned : Decision → Unplanned → Type 0
IsUnplanned decision (Is.Tells reply) = decision ≡ Tells reply
IsUnplanned decision Is.NoMemory = ⊤
