-- What an actor's command holds: what replies of the metaserver gave it and its requests haven't
-- given back; and what is to hold of that at the metaserver. Cited by the sound world and by the
-- laws of the metaserver.
use Rattle.std.specs.Prelude.{ℕ, ◌≡◌, ◌<◌, ◌⊎◌, ◌==◌, ◌&&◌, Bool, true, false, not, List, [], ◌∷◌, ◌++◌, filter, Option, Some, None, IfSome, is_some, IsTrue}
use Rattle.std.specs.List.{list_any}
use Rattle.qfs_base.specs.Table.{Each}
use Rattle.qfs_base.specs.declared.image.Lease.{Lease}
use Rattle.qfs_base.specs.declared.image.MetaImage.{MetaImage}
use Rattle.qfs_base.specs.declared.reply.Granted.{Granted}
use Rattle.qfs_base.specs.declared.reply.MetaReply.{MetaReply}
use Rattle.qfs_base.specs.declared.reply.MetaReply.TheVariants as Told
use Rattle.qfs_base.specs.declared.request.MetaRequest.{MetaRequest}
use Rattle.qfs_base.specs.declared.request.MetaRequest.TheVariants as Ask
use Rattle.qfs_model_meta.specs.Leases.{is_live_lease}
use Rattle.qfs_model_meta.specs.Past.{Past, GivenLease, is_of_put}
use Rattle.qfs_model_meta.specs.Slots.{slot_at, same_block}
use Rattle.qfs_model_meta.specs.TreeRows.{file_stands, unclosed_file}

-- ---- what is held

-- what a command holds: the file that it writes, the lease that it has, and its pending grants
pub record Holding : Type 0 where
  pub file : Option ℕ
  pub lease : Option GivenLease
  pub grants : List Granted

abbrev pub holds_nothing : Holding
holds_nothing = record { file = None; lease = None; grants = [] }

-- whether two grants are of one slot
unfoldable pub is_same_slot : Granted → Granted → Bool
is_same_slot a b = same_block a.block b.block && (a.slot == b.slot)

-- a grant takes the place of one for its slot
unfoldable pub with_grant_held : Granted → Holding → Holding
with_grant_held g holding =
    record holding { grants = filter (λ (other : Granted). not (is_same_slot g other)) holding.grants ++ g ∷ [] }

-- a lease takes the place of the one before
abbrev pub with_lease_held : ℕ → ℕ → ℕ → Holding → Holding
with_lease_held lease actor file holding =
    record holding { lease = Some (record { lease = lease; actor = actor; file = file }) }

-- the lease of a grant, unless it is one of a put, which has none
unfoldable pub with_lease_of : ℕ → Granted → Holding → Bool → Holding
with_lease_of actor g holding true = holding
with_lease_of actor g holding false = with_lease_held g.lease actor g.block.file holding

-- what is held after a reply that gives something
unfoldable pub taken_up : ℕ → Holding → MetaReply → Holding
taken_up actor holding (Told.Created file place) = record holding { file = Some file }
taken_up actor holding (Told.Granted g) = with_lease_of actor g (with_grant_held g holding) (is_of_put g)
taken_up actor holding (Told.Opened o) = with_lease_held o.lease actor o.file holding
taken_up actor holding reply = holding

-- whether a reply says that it is done, that a lease is no more, or that a grant was settled
unfoldable pub says_done : MetaReply → Bool
says_done (Told.Done place) = true
says_done reply = false

unfoldable pub says_released : MetaReply → Bool
says_released Told.Gone = true
says_released reply = says_done reply

unfoldable pub says_settled : MetaReply → Bool
says_settled Told.Confirmed = true
says_settled Told.Vanished = true
says_settled reply = false

-- whether this answer to a request takes back all that the command held
unfoldable pub gives_back : MetaReply → MetaRequest → Bool
gives_back reply (Ask.Close file) = says_done reply
gives_back reply (Ask.Abort file) = says_done reply
gives_back reply (Ask.Release lease) = says_released reply
gives_back reply (Ask.Confirm block slot version lease) = says_settled reply
gives_back reply (Ask.Abandon block slot version lease) = says_done reply
gives_back reply request = false

-- what is held after an exchange with the metaserver
unfoldable pub held_unless_back : Holding → Bool → Holding
held_unless_back holding true = holds_nothing
held_unless_back holding false = holding

unfoldable pub held_after : ℕ → Holding → MetaReply → MetaRequest → Holding
held_after actor holding reply request =
    held_unless_back (taken_up actor holding reply) (gives_back reply request)

-- ---- leases that a tick ends

-- whether a request is a tick of the clock
unfoldable pub is_tick : MetaRequest → Bool
is_tick Ask.Tick = true
is_tick request = false

-- whether a request is a tick before which a lease was live, and behind which it isn't
unfoldable pub ends_lease : MetaRequest → List Lease → List Lease → ℕ → Bool
ends_lease request before behind lease =
    is_tick request && is_live_lease lease before && not (is_live_lease lease behind)

-- ---- what is to hold of it

-- a pending grant is there and the actor's own
abbrev pub HasGrant : MetaImage → ℕ → Granted → Type 0
HasGrant m actor g =
    (slot_at m.slots g.block g.slot).grant ≡ Some (record {
      copy = record { server = g.server; life = g.life; version = g.version };
      actor = actor;
      lease = g.lease;
    })

-- only the file of a recovery or move may be removed, and its grant with it
abbrev pub KeepsGrant : MetaImage → ℕ → Granted → Type 0
KeepsGrant m actor g =
    HasGrant m actor g
    ⊎ ((0 < g.lease) × (file_stands g.block.file m.tree ≡ false))

-- a lease was given so, and is live unless it is one of those that a tick ended
unfoldable pub is_given : GivenLease → GivenLease → Bool
is_given a b = (a.lease == b.lease) && (a.actor == b.actor) && (a.file == b.file)

pub record KeepsLease (past : Past) (ended : ℕ → Bool) (m : MetaImage) (lease : GivenLease) : Type 0 where
  pub given : IsTrue (list_any (is_given lease) past.leases)
  pub live : IsTrue (is_live_lease lease.lease m.leases) ⊎ IsTrue (ended lease.lease)

-- what a command got and hasn't given back is there and its actor's own. `ended`: the leases that
-- ticks ended
pub record KeepsHolding (past : Past) (ended : ℕ → Bool) (m : MetaImage) (actor : ℕ) (holding : Holding) : Type 0 where
  pub file : IfSome holding.file (λ file. IsTrue (is_some (unclosed_file actor file m.tree)))
  pub lease : IfSome holding.lease (KeepsLease past ended m)
  pub grants : Each (KeepsGrant m actor) holding.grants
