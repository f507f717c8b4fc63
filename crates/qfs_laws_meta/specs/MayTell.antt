-- What each request may be answered, and what each answer says of the state that decided it. For
-- the law `steps_answer`.
use Rattle.qfs_base.specs.NameTree.{PathNames, add_refusal, directory_refusal, look_refusal}
use Rattle.qfs_base.specs.NameTree.{names_below, rename_refusal, rmdir_refusal}
use Rattle.qfs_base.specs.Shape.{Shape}
use Rattle.qfs_base.specs.Sizes.{LAST_U64}
use Rattle.qfs_base.specs.Table.{place}
use Rattle.qfs_base.specs.declared.change.Change.{Change}
use Rattle.qfs_base.specs.declared.chunk.BlockId.{BlockId}
use Rattle.qfs_base.specs.declared.chunk.Copy.{Copy}
use Rattle.qfs_base.specs.declared.history.Outcome.TheVariants as Ended
use Rattle.qfs_base.specs.declared.history.Outcome.{Outcome}
use Rattle.qfs_base.specs.declared.image.CondemnedRow.{CondemnedRow}
use Rattle.qfs_base.specs.declared.image.Grant.{Grant}
use Rattle.qfs_base.specs.declared.image.MetaImage.{MetaImage}
use Rattle.qfs_base.specs.declared.image.SlotRow.{SlotRow}
use Rattle.qfs_base.specs.declared.image.TreeRow.{TreeRow}
use Rattle.qfs_base.specs.declared.reply.Granted.{Granted}
use Rattle.qfs_base.specs.declared.reply.MetaReply.TheVariants as Told
use Rattle.qfs_base.specs.declared.reply.MetaReply.{MetaReply}
use Rattle.qfs_base.specs.declared.reply.TreeRefusal.{TreeRefusal}
use Rattle.qfs_base.specs.declared.request.MetaRequest.TheVariants as Ask
use Rattle.qfs_base.specs.declared.request.MetaRequest.{MetaRequest}
use Rattle.qfs_base.specs.declared.request.SlotId.{SlotId}
use Rattle.qfs_base.specs.declared.rules.Rules.{Rules}
use Rattle.qfs_laws_meta.specs.Known.{held}
use Rattle.qfs_model_meta.specs.Apply.{apply_all}
use Rattle.qfs_model_meta.specs.Condemned.{next_to_go}
use Rattle.qfs_model_meta.specs.Counters.{counters_fit}
use Rattle.qfs_model_meta.specs.Decide.{decide}
use Rattle.qfs_model_meta.specs.Decision.{Makes, UsesDisks}
use Rattle.qfs_model_meta.specs.Dropped.{dropped_at}
use Rattle.qfs_model_meta.specs.GetRequests.{opened}
use Rattle.qfs_model_meta.specs.LeasedGrants.{closed_len, move_source}
use Rattle.qfs_model_meta.specs.Leases.{holds_lease}
use Rattle.qfs_model_meta.specs.Lists.{NineCopies, block_count, listed_others, new_grant}
use Rattle.qfs_model_meta.specs.Lists.{no_sources, one_source}
use Rattle.qfs_model_meta.specs.MoveRequests.{fits_move, may_get, next_to_move}
use Rattle.qfs_model_meta.specs.Placing.{Numbered, barred_for_block, census, choose, heavier}
use Rattle.qfs_model_meta.specs.Placing.{lighter, open_servers}
use Rattle.qfs_model_meta.specs.PutRequests.{chosen_for_put, first_ungranted}
use Rattle.qfs_model_meta.specs.RepairRequests.{is_missing, next_to_heal}
use Rattle.qfs_model_meta.specs.Servers.{is_listed, reading_after, server_at}
use Rattle.qfs_model_meta.specs.SettleRequests.{may_confirm, pending_version}
use Rattle.qfs_model_meta.specs.Slots.{count_on, slot_at}
use Rattle.qfs_model_meta.specs.TreeRows.{closed_file, file_stands, row_at, standing, unclosed_file}
use Rattle.std.proofs.Common.{Bool, List, None, Option, Some, [], false, find, length, true, ℕ, ◌+◌}
use Rattle.std.proofs.Common.{◌≡◌, ◌⊎◌}
use Rattle.std.specs.List.{reduce}
use Rattle.std.specs.Prelude.{min, nat_le, nat_lt}

-- ---- file commands

-- where the tree doesn't refuse, the change is done at this place of the history
abbrev pub TellsChange : Option TreeRefusal → ℕ → MetaReply → Type 0
TellsChange refusal now (Told.Done place) = (refusal ≡ None) × (place ≡ now)
TellsChange refusal now (Told.Refused why place) = (refusal ≡ Some why) × (place ≡ now)
TellsChange refusal now reply = ⊥

abbrev pub TellsNames : MetaImage → PathNames → MetaReply → Type 0
TellsNames m path (Told.Names place names) =
    (directory_refusal (standing m.tree) path ≡ None) × (place ≡ length m.history)
    × (names ≡ names_below (standing m.tree) path)
TellsNames m path (Told.Refused why place) =
    (directory_refusal (standing m.tree) path ≡ Some why) × (place ≡ length m.history)
TellsNames m path reply = ⊥

abbrev pub TellsCreated : MetaImage → PathNames → MetaReply → Type 0
TellsCreated m path (Told.Created file place) =
    (add_refusal (standing m.tree) path ≡ None) × (file ≡ m.next_file) × (place ≡ length m.history)
TellsCreated m path (Told.Refused why place) =
    (add_refusal (standing m.tree) path ≡ Some why) × (place ≡ length m.history)
TellsCreated m path reply = ⊥

abbrev pub TellsOpened : Rules → MetaImage → PathNames → MetaReply → Type 0
TellsOpened rules m path (Told.Opened o) =
    (look_refusal (standing m.tree) path ≡ None) × (o ≡ opened rules.layout (row_at m.tree path) m)
TellsOpened rules m path (Told.Refused why place) =
    (look_refusal (standing m.tree) path ≡ Some why) × (place ≡ length m.history)
TellsOpened rules m path reply = ⊥

-- ---- puts

-- a block of a file that the actor writes, and a block beyond it
pub record IsInFile (layout : Shape) (actor : ℕ) (block : BlockId) (m : MetaImage)
    (row : TreeRow) : Type 0 where
  pub unclosed : unclosed_file actor block.file m.tree ≡ Some row
  pub in_file : nat_lt block.index (block_count layout row.len) ≡ true

pub record IsBeyond (layout : Shape) (actor : ℕ) (block : BlockId) (m : MetaImage) : Type 0 where
  pub row : TreeRow
  pub unclosed : unclosed_file actor block.file m.tree ≡ Some row
  pub beyond : nat_lt block.index (block_count layout row.len) ≡ false

-- a grant of the slot is pending, with this version
pub record IsTaken (slots : List SlotRow) (block : BlockId) (slot version : ℕ) : Type 0 where
  pub grant : Grant
  pub pending : (slot_at slots block slot).grant ≡ Some grant
  pub own : version ≡ grant.copy.version

-- no grant of the slot is pending, or one is asked again, since the server of that one failed
abbrev pub MayGrantAgain : Bool → BlockId → ℕ → MetaImage → Type 0
MayGrantAgain again block slot m =
    ((slot_at m.slots block slot).grant ≡ None) ⊎ (again ≡ true)

-- the server that placement finds for a slot of a put, if there is one
abbrev pub placed_put : BlockId → ℕ → MetaImage → Option ℕ
placed_put block slot m =
    chosen_for_put block slot m.servers m.slots (slot_at m.slots block slot)

-- the grant of a slot of a put, on the server that placement finds
pub record IsPutGrant (layout : Shape) (actor : ℕ) (block : BlockId) (slot : ℕ) (again : Bool)
    (m : MetaImage) (g : Granted) : Type 0 where
  pub row : TreeRow
  pub server : ℕ
  pub of_file : IsInFile layout actor block m row
  pub free : MayGrantAgain again block slot m
  pub placed : placed_put block slot m ≡ Some server
  pub is : g ≡ new_grant layout row.len block slot server 0 no_sources m

-- placement finds none
pub record IsPutNowhere (layout : Shape) (actor : ℕ) (block : BlockId) (slot : ℕ) (again : Bool)
    (m : MetaImage) : Type 0 where
  pub row : TreeRow
  pub of_file : IsInFile layout actor block m row
  pub free : MayGrantAgain again block slot m
  pub nowhere : placed_put block slot m ≡ None

-- a grant of the slot is pending, and it isn't asked again
pub record IsPutTaken (layout : Shape) (actor : ℕ) (block : BlockId) (slot : ℕ) (again : Bool)
    (m : MetaImage) (version : ℕ) : Type 0 where
  pub row : TreeRow
  pub of_file : IsInFile layout actor block m row
  pub once : again ≡ false
  pub taken : IsTaken m.slots block slot version

abbrev pub TellsGrant : Shape → ℕ → BlockId → ℕ → Bool → MetaImage → MetaReply → Type 0
TellsGrant layout actor block slot again m (Told.Granted g) =
    IsPutGrant layout actor block slot again m g
TellsGrant layout actor block slot again m Told.Gone = unclosed_file actor block.file m.tree ≡ None
TellsGrant layout actor block slot again m Told.NoBlock = IsBeyond layout actor block m
TellsGrant layout actor block slot again m (Told.Taken version) =
    IsPutTaken layout actor block slot again m version
TellsGrant layout actor block slot again m (Told.NoServer other at) =
    (other ≡ block) × (at ≡ slot) × IsPutNowhere layout actor block slot again m
TellsGrant layout actor block slot again m reply = ⊥

-- all slots of an unclosed file are granted, or this is the first that isn't
pub record IsComplete (layout : Shape) (actor file : ℕ) (m : MetaImage) : Type 0 where
  pub row : TreeRow
  pub unclosed : unclosed_file actor file m.tree ≡ Some row
  pub complete : first_ungranted file (block_count layout row.len) m.slots ≡ None

pub record IsIncomplete (layout : Shape) (actor file : ℕ) (m : MetaImage)
    (index slot : ℕ) : Type 0 where
  pub row : TreeRow
  pub id : SlotId
  pub unclosed : unclosed_file actor file m.tree ≡ Some row
  pub first : first_ungranted file (block_count layout row.len) m.slots ≡ Some id
  pub at : (index ≡ id.block.index) × (slot ≡ id.slot)

abbrev pub TellsClosed : Shape → ℕ → ℕ → MetaImage → MetaReply → Type 0
TellsClosed layout actor file m (Told.Done place) =
    (place ≡ length m.history) × IsComplete layout actor file m
TellsClosed layout actor file m Told.Gone = unclosed_file actor file m.tree ≡ None
TellsClosed layout actor file m (Told.Incomplete index slot) =
    IsIncomplete layout actor file m index slot
TellsClosed layout actor file m reply = ⊥

abbrev pub TellsAborted : ℕ → ℕ → MetaImage → MetaReply → Type 0
TellsAborted actor file m (Told.Done place) =
    (place ≡ length m.history) × (row : TreeRow) × (unclosed_file actor file m.tree ≡ Some row)
TellsAborted actor file m Told.Gone = unclosed_file actor file m.tree ≡ None
TellsAborted actor file m reply = ⊥

abbrev pub TellsReleased : ℕ → ℕ → MetaImage → MetaReply → Type 0
TellsReleased actor lease m (Told.Done place) =
    (place ≡ length m.history) × (holds_lease actor lease m.leases ≡ true)
TellsReleased actor lease m Told.Gone = holds_lease actor lease m.leases ≡ false
TellsReleased actor lease m reply = ⊥

-- ---- recoveries and moves

-- the server that placement finds for another copy of a block, if there is one
abbrev pub placed_copy : BlockId → MetaImage → Option ℕ
placed_copy block m =
    choose (census m.servers m.slots) (barred_for_block m.servers m.slots block)

-- a grant on this server under the next lease, with these sources
abbrev pub IsLeasedGrant : Shape → BlockId → ℕ → ℕ → NineCopies → MetaImage → Granted → Type 0
IsLeasedGrant layout block slot server sources m g =
    g ≡ new_grant layout (closed_len (closed_file block.file m.tree)) block slot server m.next_lease
    sources m

-- the same on the server that placement finds
abbrev pub IsPlacedGrant : Shape → BlockId → ℕ → NineCopies → MetaImage → Granted → Type 0
IsPlacedGrant layout block slot sources m g =
    (server : ℕ) × (placed_copy block m ≡ Some server)
    × IsLeasedGrant layout block slot server sources m g

-- the block is one of the closed file at the path
pub record IsOfPath (layout : Shape) (path : PathNames) (block : BlockId)
    (m : MetaImage) : Type 0 where
  pub looks : look_refusal (standing m.tree) path ≡ None
  pub in_file : nat_lt block.index (block_count layout (row_at m.tree path).len) ≡ true

-- its slot is missing, and no grant of it is pending
pub record IsToRecover (layout : Shape) (path : PathNames) (block : BlockId) (slot : ℕ)
    (m : MetaImage) : Type 0 where
  pub of_path : IsOfPath layout path block m
  pub free : (slot_at m.slots block slot).grant ≡ None
  pub missing : is_missing m.clock m.servers (slot_at m.slots block slot).current ≡ true

-- its slot isn't missing
pub record IsWhole (layout : Shape) (path : PathNames) (block : BlockId) (slot : ℕ)
    (m : MetaImage) : Type 0 where
  pub of_path : IsOfPath layout path block m
  pub free : (slot_at m.slots block slot).grant ≡ None
  pub there : is_missing m.clock m.servers (slot_at m.slots block slot).current ≡ false

abbrev pub TellsRecovery : Shape → PathNames → BlockId → ℕ → MetaImage → MetaReply → Type 0
TellsRecovery layout path block slot m (Told.Granted g) =
    IsToRecover layout path block slot m
    × IsPlacedGrant layout block slot (listed_others m.servers m.slots block slot) m g
TellsRecovery layout path block slot m (Told.BadPath why) =
    look_refusal (standing m.tree) path ≡ Some why
TellsRecovery layout path block slot m Told.NoBlock =
    (look_refusal (standing m.tree) path ≡ None)
    × (nat_lt block.index (block_count layout (row_at m.tree path).len) ≡ false)
TellsRecovery layout path block slot m (Told.Taken version) =
    IsOfPath layout path block m × IsTaken m.slots block slot version
TellsRecovery layout path block slot m Told.Whole = IsWhole layout path block slot m
TellsRecovery layout path block slot m (Told.NoServer other at) =
    (other ≡ block) × (at ≡ slot) × IsToRecover layout path block slot m
    × (placed_copy block m ≡ None)
TellsRecovery layout path block slot m reply = ⊥

abbrev pub TellsHeal : Shape → Option SlotId → MetaImage → MetaReply → Type 0
TellsHeal layout after m (Told.Granted g) =
    (id : SlotId) × (next_to_heal layout after m ≡ Some id) × IsPlacedGrant layout id.block id.slot
    (listed_others m.servers m.slots id.block id.slot) m g
TellsHeal layout after m Told.Nothing = next_to_heal layout after m ≡ None
TellsHeal layout after m (Told.NoServer other at) =
    (id : SlotId) × (next_to_heal layout after m ≡ Some id) × (other ≡ id.block) × (at ≡ id.slot)
    × (placed_copy id.block m ≡ None)
TellsHeal layout after m reply = ⊥

-- a slot of the closed file at the path has this current copy
pub record HasCopy (layout : Shape) (path : PathNames) (block : BlockId) (slot : ℕ) (m : MetaImage)
    (copy : Copy) : Type 0 where
  pub of_path : IsOfPath layout path block m
  pub current : (slot_at m.slots block slot).current ≡ Some copy

-- and no grant of the slot is pending
pub record IsAtRest (layout : Shape) (path : PathNames) (block : BlockId) (slot : ℕ) (m : MetaImage)
    (copy : Copy) : Type 0 where
  pub there : HasCopy layout path block slot m copy
  pub free : (slot_at m.slots block slot).grant ≡ None

-- a copy that is listed moves to a server that may get it; the copy is the only source
abbrev pub IsMoveGrant : Shape → PathNames → BlockId → ℕ → ℕ → MetaImage → Granted → Type 0
IsMoveGrant layout path block slot to m g =
    (copy : Copy) × IsAtRest layout path block slot m copy × (is_listed m.servers copy ≡ true)
    × (may_get m.servers m.slots block to ≡ true)
    × IsLeasedGrant layout block slot to (one_source slot copy) m g

-- the file at the path has no such block, or its slot no current copy
abbrev pub HasNoCopy : Shape → PathNames → BlockId → ℕ → MetaImage → Type 0
HasNoCopy layout path block slot m =
    ((look_refusal (standing m.tree) path ≡ None)
    × (nat_lt block.index (block_count layout (row_at m.tree path).len) ≡ false))
    ⊎ (IsOfPath layout path block m × ((slot_at m.slots block slot).current ≡ None))

abbrev pub TellsMove : Shape → PathNames → BlockId → ℕ → ℕ → MetaImage → MetaReply → Type 0
TellsMove layout path block slot to m (Told.Granted g) = IsMoveGrant layout path block slot to m g
TellsMove layout path block slot to m (Told.BadPath why) =
    look_refusal (standing m.tree) path ≡ Some why
TellsMove layout path block slot to m Told.NoBlock = HasNoCopy layout path block slot m
TellsMove layout path block slot to m (Told.Taken version) =
    (copy : Copy) × HasCopy layout path block slot m copy × IsTaken m.slots block slot version
TellsMove layout path block slot to m (Told.Away server) =
    (copy : Copy) × IsAtRest layout path block slot m copy × (is_listed m.servers copy ≡ false)
    × (server ≡ copy.server)
TellsMove layout path block slot to m (Told.Barred server) =
    (copy : Copy) × IsAtRest layout path block slot m copy × (is_listed m.servers copy ≡ true)
    × (may_get m.servers m.slots block to ≡ false) × (server ≡ to)
TellsMove layout path block slot to m reply = ⊥

abbrev pub TellsEvacuation : Shape → ℕ → Option SlotId → MetaImage → MetaReply → Type 0
TellsEvacuation layout server after m (Told.Granted g) =
    (row : SlotRow) × (next_to_move layout server after m ≡ Some row) × IsPlacedGrant layout
    row.block row.slot (move_source row.slot row.state.current) m g
TellsEvacuation layout server after m Told.Nothing = next_to_move layout server after m ≡ None
TellsEvacuation layout server after m (Told.NoServer other at) =
    (row : SlotRow) × (next_to_move layout server after m ≡ Some row) × (other ≡ row.block)
    × (at ≡ row.slot) × (placed_copy row.block m ≡ None)
TellsEvacuation layout server after m reply = ⊥

-- of the servers that take chunks, those with the highest and with the lowest load
abbrev pub takers : MetaImage → List Numbered
takers m = open_servers [] (census m.servers m.slots)

pub record ArePair (m : MetaImage) (giver taker : Numbered) : Type 0 where
  pub heaviest : reduce heavier (takers m) ≡ Some giver
  pub lightest : reduce lighter (takers m) ≡ Some taker

-- a move from one to the other makes them more even
abbrev pub is_uneven : Numbered → Numbered → Bool
is_uneven giver taker = nat_le (taker.1.count + 2) giver.1.count

-- the first copy that fits moves from the one to the other
pub record IsBalanceGrant (layout : Shape) (m : MetaImage) (g : Granted) : Type 0 where
  pub giver : Numbered
  pub taker : Numbered
  pub row : SlotRow
  pub pair : ArePair m giver taker
  pub uneven : is_uneven giver taker ≡ true
  pub found : find (fits_move layout giver.0 taker.0 m) m.slots ≡ Some row
  pub is : IsLeasedGrant layout row.block row.slot taker.0
      (move_source row.slot row.state.current) m g

-- no server takes chunks; or the two are even enough, or no copy fits
abbrev pub IsBalanced : Shape → MetaImage → Type 0
IsBalanced layout m =
    (takers m ≡ [])
    ⊎ ((giver : Numbered) × (taker : Numbered) × ArePair m giver taker
    × ((is_uneven giver taker ≡ false)
    ⊎ (find (fits_move layout giver.0 taker.0 m) m.slots ≡ None)))

abbrev pub TellsBalance : Shape → MetaImage → MetaReply → Type 0
TellsBalance layout m (Told.Granted g) = IsBalanceGrant layout m g
TellsBalance layout m Told.Nothing = IsBalanced layout m
TellsBalance layout m reply = ⊥

abbrev pub TellsConfirmed : ℕ → BlockId → ℕ → ℕ → ℕ → MetaImage → MetaReply → Type 0
TellsConfirmed actor block slot version lease m Told.Confirmed =
    (file_stands block.file m.tree ≡ true)
    × (may_confirm actor version lease (closed_file block.file m.tree)
    (slot_at m.slots block slot).grant ≡ true)
TellsConfirmed actor block slot version lease m Told.Vanished =
    file_stands block.file m.tree ≡ false
TellsConfirmed actor block slot version lease m (Told.Stale held given) =
    (file_stands block.file m.tree ≡ true)
    × (may_confirm actor version lease (closed_file block.file m.tree)
    (slot_at m.slots block slot).grant ≡ false)
    × (held ≡ pending_version (slot_at m.slots block slot).grant) × (given ≡ version)
TellsConfirmed actor block slot version lease m reply = ⊥

-- ---- deletions, servers and the clock

abbrev pub TellsDone : MetaImage → MetaReply → Type 0
TellsDone m (Told.Done place) = place ≡ length m.history
TellsDone m reply = ⊥

abbrev pub TellsOrder : ℕ → MetaImage → MetaReply → Type 0
TellsOrder after m (Told.Ordered c turn) =
    (row : CondemnedRow) × (next_to_go m.servers after m.condemned ≡ Some row) × (c ≡ row.condemned)
    × (turn ≡ m.turn)
TellsOrder after m Told.Nothing = next_to_go m.servers after m.condemned ≡ None
TellsOrder after m reply = ⊥

abbrev pub TellsHello : ℕ → ℕ → MetaImage → MetaReply → Type 0
TellsHello server life m (Told.Done place) =
    (nat_le (server_at m.servers server).life life ≡ true) × (place ≡ length m.history)
TellsHello server life m (Told.Old known) =
    (nat_le (server_at m.servers server).life life ≡ false)
    × (known ≡ (server_at m.servers server).life)
TellsHello server life m reply = ⊥

abbrev pub TellsSleep : ℕ → ℕ → MetaImage → MetaReply → Type 0
TellsSleep server ticks m (Told.Until until) =
    ((server_at m.servers server).up ≡ true) × (until ≡ reading_after m.clock ticks)
TellsSleep server ticks m Told.NotUp = (server_at m.servers server).up ≡ false
TellsSleep server ticks m reply = ⊥

abbrev pub TellsClock : MetaImage → MetaReply → Type 0
TellsClock m (Told.Clock now) = now ≡ min (m.clock + 1) LAST_U64
TellsClock m reply = ⊥

abbrev pub TellsLeft : ℕ → MetaImage → MetaReply → Type 0
TellsLeft server m (Told.Left count) =
    count ≡ count_on server (server_at m.servers server).life m.slots
TellsLeft server m reply = ⊥

abbrev pub TellsSaved : MetaImage → MetaReply → Type 0
TellsSaved m (Told.Saved turn) = turn ≡ m.turn
TellsSaved m reply = ⊥

abbrev pub TellsRestarted : MetaImage → MetaReply → Type 0
TellsRestarted m (Told.Restarted turn) = turn ≡ m.turn
TellsRestarted m reply = ⊥

-- what a request of an actor may be answered in this state, and when, but for the answers that any
-- request may get: the refusals that come before an answer don't hold where it comes
abbrev pub MayTell : Rules → ℕ → MetaImage → MetaReply → MetaRequest → Type 0
MayTell rules actor m reply (Ask.Mkdir path) =
    TellsChange (add_refusal (standing m.tree) path) (length m.history) reply
MayTell rules actor m reply (Ask.Rmdir path) =
    TellsChange (rmdir_refusal (standing m.tree) path) (length m.history) reply
MayTell rules actor m reply (Ask.Remove path) =
    TellsChange (look_refusal (standing m.tree) path) (length m.history) reply
MayTell rules actor m reply (Ask.Rename from to) =
    TellsChange (rename_refusal (standing m.tree) from to) (length m.history) reply
MayTell rules actor m reply (Ask.Create path command len) = TellsCreated m path reply
MayTell rules actor m reply (Ask.Grant file index slot again) =
    TellsGrant rules.layout actor (record { file = file; index = index }) slot again m reply
MayTell rules actor m reply (Ask.Close file) = TellsClosed rules.layout actor file m reply
MayTell rules actor m reply (Ask.Abort file) = TellsAborted actor file m reply
MayTell rules actor m reply (Ask.OpenFile path) = TellsOpened rules m path reply
MayTell rules actor m reply (Ask.Release lease) = TellsReleased actor lease m reply
MayTell rules actor m reply (Ask.RecoverAt path index slot) =
    TellsRecovery rules.layout path (record { file = (row_at m.tree path).file; index = index })
    slot m reply
MayTell rules actor m reply (Ask.HealNext after) = TellsHeal rules.layout after m reply
MayTell rules actor m reply (Ask.MoveAt path index slot to) =
    TellsMove rules.layout path (record { file = (row_at m.tree path).file; index = index }) slot to
    m reply
MayTell rules actor m reply (Ask.EvacNext server after) =
    TellsEvacuation rules.layout server after m reply
MayTell rules actor m reply Ask.BalanceNext = TellsBalance rules.layout m reply
MayTell rules actor m reply (Ask.Confirm block slot version lease) =
    TellsConfirmed actor block slot version lease m reply
MayTell rules actor m reply (Ask.Abandon block slot version lease) = TellsDone m reply
MayTell rules actor m reply (Ask.OrderNext after) = TellsOrder after m reply
MayTell rules actor m reply (Ask.Swept number) = TellsDone m reply
MayTell rules actor m reply (Ask.Hello server life keys) = TellsHello server life m reply
MayTell rules actor m reply (Ask.Bye server) = TellsDone m reply
MayTell rules actor m reply (Ask.Leave server) = TellsDone m reply
MayTell rules actor m reply (Ask.Hibernate server ticks) = TellsSleep server ticks m reply
MayTell rules actor m reply Ask.Tick = TellsClock m reply
MayTell rules actor m reply (Ask.Drop dropped) = TellsDone m reply
MayTell rules actor m reply (Ask.List path) = TellsNames m path reply
MayTell rules actor m reply (Ask.LeftOn server) = TellsLeft server m reply
MayTell rules actor m reply Ask.Checkpoint = TellsSaved m reply
MayTell rules actor m reply Ask.Restart = TellsRestarted m reply

-- ---- the answers that any request may get

-- what is decided uses the log's disks
abbrev pub UsesLog : Rules → ℕ → MetaImage → MetaRequest → Type 0
UsesLog rules actor m request =
    ((reply : MetaReply) × (decide rules actor m request ≡ UsesDisks reply))
    ⊎ ((changes : List Change) × (reply : MetaReply)
    × (decide rules actor m request ≡ Makes changes reply)
    × (counters_fit (apply_all changes m) ≡ true))

-- what is decided would give a number that is the last of its type
abbrev pub RunsOut : Rules → ℕ → MetaImage → MetaRequest → Type 0
RunsOut rules actor m request =
    (changes : List Change) × (reply : MetaReply)
    × (decide rules actor m request ≡ Makes changes reply)
    × (counters_fit (apply_all changes m) ≡ false)

-- a dropped actor is told so; else the log fails where it is used, and memory or numbers run out
abbrev pub AnyMayGet : Rules → ℕ → Outcome → MetaImage → MetaRequest → MetaReply → Type 0
AnyMayGet rules actor outcome m request (Told.Dropped turn) =
    dropped_at actor m.dropped ≡ Some turn
AnyMayGet rules actor outcome m request Told.LogFault =
    (dropped_at actor m.dropped ≡ None) × (outcome ≡ Ended.Failed)
    × UsesLog rules actor m request
AnyMayGet rules actor outcome m request Told.NoMemory =
    (dropped_at actor m.dropped ≡ None)
    × ((outcome ≡ Ended.NoMemory) ⊎ RunsOut rules actor m request)
AnyMayGet rules actor outcome m request reply = ⊥
