-- What each change of a request says of the state that decided it: whose file, grant or lease it
-- takes, and what it grants. Cited by the laws of what is held and of slots.
use Rattle.qfs_base.specs.EachLaws.{each_append, each_filter, each_weaker}
use Rattle.qfs_base.specs.NameTree.{PathNames, look_refusal}
use Rattle.qfs_base.specs.Shape.{Shape}
use Rattle.qfs_base.specs.Sizes.{LAST_U64}
use Rattle.qfs_base.specs.Table.{Each, place}
use Rattle.qfs_base.specs.declared.change.Change.TheVariants.{AbortFile, AddDirectory, AddFile}
use Rattle.qfs_base.specs.declared.change.Change.TheVariants.{CloseFile, CondemnStray, ConfirmSlot}
use Rattle.qfs_base.specs.declared.change.Change.TheVariants.{DropActor, EmptySlot, EndLease}
use Rattle.qfs_base.specs.declared.change.Change.TheVariants.{FailGrant, GiveLease, GiveUp}
use Rattle.qfs_base.specs.declared.change.Change.TheVariants.{GrantSlot, MovePath, RemoveFile}
use Rattle.qfs_base.specs.declared.change.Change.TheVariants.{ServerUp, TakeDirectory}
use Rattle.qfs_base.specs.declared.change.Change.{Change}
use Rattle.qfs_base.specs.declared.chunk.BlockId.{BlockId}
use Rattle.qfs_base.specs.declared.chunk.ChunkKey.{ChunkKey}
use Rattle.qfs_base.specs.declared.history.Outcome.TheVariants as Ended
use Rattle.qfs_base.specs.declared.history.Outcome.{Outcome}
use Rattle.qfs_base.specs.declared.image.Grant.{Grant}
use Rattle.qfs_base.specs.declared.image.Lease.{Lease}
use Rattle.qfs_base.specs.declared.image.MetaImage.{MetaImage}
use Rattle.qfs_base.specs.declared.image.SlotRecord.{SlotRecord}
use Rattle.qfs_base.specs.declared.image.SlotRow.{SlotRow}
use Rattle.qfs_base.specs.declared.image.TreeRow.{TreeRow}
use Rattle.qfs_base.specs.declared.reply.Granted.{Granted}
use Rattle.qfs_base.specs.declared.reply.MetaReply.TheVariants as Told
use Rattle.qfs_base.specs.declared.reply.MetaReply.{MetaReply}
use Rattle.qfs_base.specs.declared.reply.TreeRefusal.{TreeRefusal}
use Rattle.qfs_base.specs.declared.request.MetaRequest.TheVariants as Ask
use Rattle.qfs_base.specs.declared.request.MetaRequest.{MetaRequest}
use Rattle.qfs_base.specs.declared.request.SlotId.{SlotId}
use Rattle.qfs_base.specs.declared.rules.Rules.{Rules}
use Rattle.qfs_laws_meta.specs.GrantRequests.{closed-at, pending-none}
use Rattle.qfs_laws_meta.specs.Kept.{Fits}
use Rattle.qfs_laws_meta.specs.MoreGrants.{IsOfClosed, at-rest, closed-slots, row-of}
use Rattle.qfs_laws_meta.specs.StillStands.{IsClosedIn, Writes, unclosed-any, unclosed_test}
use Rattle.qfs_laws_slots.specs.RowKeys.{has_file-is, is_lease-is}
use Rattle.qfs_laws_slots.specs.Slots.{of_file-is, rows-found}
use Rattle.qfs_laws_tables.specs.EachRow.{each_both, each_flat, each_map, each_passes, found_has}
use Rattle.qfs_laws_tables.specs.EachRow.{none-is}
use Rattle.qfs_laws_tables.specs.InOrder.{numbers-each}
use Rattle.qfs_model_meta.specs.Apply.{apply_all}
use Rattle.qfs_model_meta.specs.Counters.{counters_fit}
use Rattle.qfs_model_meta.specs.Decide.{decide, decide_request}
use Rattle.qfs_model_meta.specs.Decision.{Decision, Makes, Tells, UsesDisks, need, refuse}
use Rattle.qfs_model_meta.specs.Decision.{refuse_file, refuse_path, unless}
use Rattle.qfs_model_meta.specs.DropRequest.{changes_unless_dropped, decide_drop, drop_changes}
use Rattle.qfs_model_meta.specs.DropRequest.{is_granted_to, is_recovery_of, recovery_changes}
use Rattle.qfs_model_meta.specs.DropRequest.{unclosed_changes}
use Rattle.qfs_model_meta.specs.Dropped.{dropped_at}
use Rattle.qfs_model_meta.specs.GetRequests.{decide_open, decide_release, opened}
use Rattle.qfs_model_meta.specs.Holding.{gives_back, says_done, says_released, says_settled}
use Rattle.qfs_model_meta.specs.LeasedGrants.{closed_len, comes_after, grant_chosen, grant_leased}
use Rattle.qfs_model_meta.specs.LeasedGrants.{grant_recovery, is_at_rest, is_live_on}
use Rattle.qfs_model_meta.specs.LeasedGrants.{lease_and_grant, pending_refusal}
use Rattle.qfs_model_meta.specs.Leases.{holds_lease, is_lease, is_live_lease, lease_end, leases_of}
use Rattle.qfs_model_meta.specs.Leases.{leases_over}
use Rattle.qfs_model_meta.specs.Lists.{NineCopies, new_grant, no_sources}
use Rattle.qfs_model_meta.specs.MoveRequests.{decide_balance, decide_evacuate, decide_move}
use Rattle.qfs_model_meta.specs.MoveRequests.{evacuate_slot, even_out, fits_move, give_to_lightest}
use Rattle.qfs_model_meta.specs.MoveRequests.{is_to_move, move_copy, move_slot, next_to_move}
use Rattle.qfs_model_meta.specs.PutRequests.{abort_changes, abort_unclosed, close_complete}
use Rattle.qfs_model_meta.specs.PutRequests.{decide_abort, decide_close, decide_create}
use Rattle.qfs_model_meta.specs.PutRequests.{decide_grant, failed_grant, grant_for_put, grant_in}
use Rattle.qfs_model_meta.specs.PutRequests.{incomplete, lacks_grant, put_granted, taken_refusal}
use Rattle.qfs_model_meta.specs.Range.{in_range}
use Rattle.qfs_model_meta.specs.RepairRequests.{closed_slots, decide_heal, decide_recover}
use Rattle.qfs_model_meta.specs.RepairRequests.{heal_slot, is_to_heal, next_to_heal}
use Rattle.qfs_model_meta.specs.ServerRequests.{decide_bye, decide_hello, decide_hibernate}
use Rattle.qfs_model_meta.specs.ServerRequests.{decide_leave, decide_left_on, decide_tick}
use Rattle.qfs_model_meta.specs.Servers.{server_at}
use Rattle.qfs_model_meta.specs.SettleRequests.{abandon_changes, confirm_grant, decide_abandon}
use Rattle.qfs_model_meta.specs.SettleRequests.{decide_confirm, end_live_lease, end_own_lease}
use Rattle.qfs_model_meta.specs.SettleRequests.{give_up_own, is_own_grant, may_confirm}
use Rattle.qfs_model_meta.specs.Slots.{is_of_file, slot_at, slot_id, slots_of}
use Rattle.qfs_model_meta.specs.Step.{Served, carry_out, end_step, fail_disks, next_turn}
use Rattle.qfs_model_meta.specs.Step.{serve_unless_dropped, stays, take_step}
use Rattle.qfs_model_meta.specs.SweepRequests.{decide_order, decide_swept, order_row}
use Rattle.qfs_model_meta.specs.TreeRequests.{decide_list, decide_mkdir, decide_remove}
use Rattle.qfs_model_meta.specs.TreeRequests.{decide_rename, decide_rmdir, remove_changes}
use Rattle.qfs_model_meta.specs.TreeRows.{closed_file, file_stands, has_file, is_unclosed_of}
use Rattle.qfs_model_meta.specs.TreeRows.{rising_files, row_at, standing, unclosed_file}
use Rattle.qfs_model_meta.specs.TreeRows.{unclosed_files}
use Rattle.std.proofs.Common.{Bool, List, None, Option, Some, [], ap, cond, false, filter, inl, inr}
use Rattle.std.proofs.Common.{length, map, refl, subst, sym, true, ℕ, ◌&&◌, ◌++◌, ◌+◌, ◌==◌, ◌||◌}
use Rattle.std.proofs.Common.{◌∙◌, ◌∷◌, ◌≡◌, ◌⊎◌}
use Rattle.std.proofs.lemmas.Bool.{and_from, and_parts, eq-eqb, eqb-true, or_right}
use Rattle.std.specs.List.{list_any}
use Rattle.std.specs.Prelude.{IsTrue, flat_map, is_none, is_some, min, ⊤}

-- the actors whose things a request may take: the one that asks, where its answer gives back what
-- its command held, and the one that it drops
abbrev pub Takes : ℕ → MetaRequest → MetaReply → ℕ → Type 0
Takes actor request reply who =
    ((who ≡ actor) × (gives_back reply request ≡ true)) ⊎ (request ≡ Ask.Drop who)

abbrev pub grant_at : MetaImage → BlockId → ℕ → Option Grant
grant_at m block slot = (slot_at m.slots block slot).grant

-- the pending grant of a slot is an actor's
abbrev pub OwnsGrant : MetaImage → ℕ → BlockId → ℕ → Type 0
OwnsGrant m who block slot =
    (grant : Grant) × (grant_at m block slot ≡ Some grant) × (grant.actor ≡ who)

-- a lease is an actor's: it holds it, or it is that of its grant on a closed file
abbrev pub OwnsLease : MetaImage → ℕ → ℕ → Type 0
OwnsLease m who lease =
    (holds_lease who lease m.leases ≡ true)
    ⊎ ((block : BlockId) × (slot : ℕ) × (grant : Grant) × (grant_at m block slot ≡ Some grant)
    × (grant.actor ≡ who) × (grant.lease ≡ lease) × IsClosedIn m block.file)

-- the closed file at a path
abbrev pub IsAt : MetaImage → PathNames → ℕ → Type 0
IsAt m path file =
    (look_refusal (standing m.tree) path ≡ None) × ((row_at m.tree path).file ≡ file)

-- a reply grants this slot, on this server and under this lease
abbrev pub TellsOf : MetaReply → BlockId → ℕ → ℕ → ℕ → Type 0
TellsOf reply block slot server lease =
    (g : Granted) × (reply ≡ Told.Granted g) × (g.block ≡ block) × (g.slot ≡ slot)
    × (g.server ≡ server) × (g.lease ≡ lease)

-- a put of the actor's own file is granted, or a free slot of a closed one under the next lease
abbrev pub GrantsIn : ℕ → MetaImage → BlockId → ℕ → ℕ → Type 0
GrantsIn actor m block slot lease =
    ((lease ≡ 0) × Writes m actor block.file)
    ⊎ ((lease ≡ m.next_lease) × IsClosedIn m block.file × (grant_at m block slot ≡ None))

-- the requests of which a number may come to the end of its type: of a file, a lease, a condemned
-- copy or an entry of the history
abbrev pub Counts : MetaRequest → Type 0
Counts (Ask.Release lease) = ⊥
Counts (Ask.OrderNext after) = ⊥
Counts (Ask.Swept number) = ⊥
Counts (Ask.Bye server) = ⊥
Counts (Ask.Leave server) = ⊥
Counts (Ask.Hibernate server ticks) = ⊥
Counts Ask.Tick = ⊥
Counts (Ask.List path) = ⊥
Counts (Ask.LeftOn server) = ⊥
Counts Ask.Checkpoint = ⊥
Counts Ask.Restart = ⊥
Counts request = ⊤

abbrev pub Does : ℕ → MetaImage → MetaRequest → MetaReply → Change → Type 0
Does actor m request reply (AddDirectory path) = request ≡ Ask.Mkdir path
Does actor m request reply (TakeDirectory path) = request ≡ Ask.Rmdir path
Does actor m request reply (AddFile path by command len) = request ≡ Ask.Create path command len
Does actor m request reply (MovePath from to) = request ≡ Ask.Rename from to
Does actor m request reply (CloseFile file by command) =
    (by ≡ actor) × Takes actor request reply actor × Writes m actor file
    × (request ≡ Ask.Close file) × (place : ℕ) × (reply ≡ Told.Done place)
Does actor m request reply (AbortFile file) =
    (who : ℕ) × Takes actor request reply who × Writes m who file
    × ((request ≡ Ask.Abort file) ⊎ (request ≡ Ask.Drop who))
Does actor m request reply (RemoveFile path file) = (request ≡ Ask.Remove path) × IsAt m path file
Does actor m request reply (EmptySlot block slot) =
    (path : PathNames) × (request ≡ Ask.Remove path) × IsAt m path block.file
Does actor m request reply (GrantSlot block slot server by lease) =
    (by ≡ actor) × TellsOf reply block slot server lease × GrantsIn actor m block slot lease
Does actor m request reply (FailGrant block slot) =
    Writes m actor block.file × (server : ℕ) × TellsOf reply block slot server 0 × Counts request
Does actor m request reply (GiveUp block slot) =
    (who : ℕ) × Takes actor request reply who
    × (Writes m who block.file ⊎ OwnsGrant m who block slot) × Counts request
Does actor m request reply (ConfirmSlot block slot) =
    Takes actor request reply actor × OwnsGrant m actor block slot × Counts request
Does actor m request reply (EndLease lease) =
    (request ≡ Ask.Tick) ⊎ ((who : ℕ) × Takes actor request reply who × OwnsLease m who lease)
Does actor m request reply (GiveLease by file until) = (by ≡ actor) × Counts request
Does actor m request reply (DropActor who) = request ≡ Ask.Drop who
Does actor m request reply (ServerUp server life) =
    (keys : List ChunkKey) × (request ≡ Ask.Hello server life keys)
Does actor m request reply (CondemnStray server life key) = Counts request
Does actor m request reply change = ⊤

-- ---- what a reply gives

-- a reply gives neither a file nor a lease nor a grant
abbrev pub GivesNothing : MetaReply → Type 0
GivesNothing (Told.Created file place) = ⊥
GivesNothing (Told.Granted g) = ⊥
GivesNothing (Told.Opened o) = ⊥
GivesNothing reply = ⊤

-- what comes before a grant: for a put nothing, or a grant that failed; else the lease
abbrev pub Prepares : ℕ → Granted → List Change → Type 0
Prepares actor g first =
    ((first ≡ []) × (g.lease ≡ 0))
    ⊎ ((first ≡ FailGrant g.block g.slot ∷ []) × (g.lease ≡ 0))
    ⊎ ((until : ℕ) × (first ≡ GiveLease actor g.block.file until ∷ []))

-- a grant is told as it is given, by the last change
pub record GivesGrant (actor : ℕ) (m : MetaImage) (g : Granted)
    (changes : List Change) : Type 0 where
  pub life : g.life ≡ (server_at m.servers g.server).life
  pub version : g.version ≡ (slot_at m.slots g.block g.slot).next
  pub first : List Change
  pub prepares : Prepares actor g first
  pub is : changes ≡ first ++ GrantSlot g.block g.slot g.server actor g.lease ∷ []

abbrev pub Provides : ℕ → MetaImage → List Change → MetaReply → Type 0
Provides actor m changes (Told.Created file place) =
    (file ≡ m.next_file) × (path : PathNames) × (command : ℕ) × (len : ℕ)
    × (changes ≡ AddFile path actor command len ∷ [])
Provides actor m changes (Told.Opened o) =
    (o.lease ≡ m.next_lease) × (until : ℕ) × (changes ≡ GiveLease actor o.file until ∷ [])
Provides actor m changes (Told.Granted g) = GivesGrant actor m g changes
Provides actor m changes reply = ⊤

-- ---- decisions

module _ (actor : ℕ) (m : MetaImage) (request : MetaRequest) where
  abbrev pub DoesAll : Decision → Type 0
  DoesAll (Tells reply) = GivesNothing reply
  DoesAll (UsesDisks reply) = GivesNothing reply
  DoesAll (Makes changes reply) =
      Each (Does actor m request reply) changes × Provides actor m changes reply

  refuse-does : (refusal : Option MetaReply) (further : Decision)
      → ((reply : MetaReply) → refusal ≡ Some reply → GivesNothing reply)
      → (refusal ≡ None → DoesAll further) → DoesAll (refuse refusal further)
  unfolding refuse
  refuse-does None further quiet does = does refl
  refuse-does (Some reply) further quiet does = quiet reply refl

  unless-does : (test : Bool) (reply : MetaReply) (further : Decision) → GivesNothing reply
      → (test ≡ true → DoesAll further) → DoesAll (unless test reply further)
  unfolding unless
  unless-does true reply further quiet does = does refl
  unless-does false reply further quiet does = quiet

  need-does : {X : Type 0} (reply : MetaReply) (further : X → Decision) (found : Option X)
      → GivesNothing reply
      → ((x : X) → found ≡ Some x → DoesAll (further x)) → DoesAll (need reply further found)
  unfolding need
  need-does reply further None quiet does = quiet
  need-does reply further (Some x) quiet does = does x refl

  file-does : (place : ℕ) (refusal : Option TreeRefusal) (further : Decision)
      → (refusal ≡ None → DoesAll further) → DoesAll (refuse_file place refusal further)
  unfolding refuse_file refuse
  file-does place None further does = does refl
  file-does place (Some why) further does = tt

  path-does : (refusal : Option TreeRefusal) (further : Decision)
      → (refusal ≡ None → DoesAll further) → DoesAll (refuse_path refusal further)
  unfolding refuse_path refuse
  path-does None further does = does refl
  path-does (Some why) further does = tt

-- ---- lists of changes

some-there : {X : Type 0} (o : Option X) (x : X) → o ≡ Some x → IsTrue (is_some o)
some-there o x is = subst (λ k. IsTrue (is_some k)) (sym is) refl

-- the slots of a file are its slots
pub own-slots : (file : ℕ) (rows : List SlotRow)
    → Each (λ (row : SlotRow). row.block.file ≡ file) (slots_of file rows)
unfolding slots_of
own-slots file rows =
    each_weaker (λ (row : SlotRow). is_of_file file row ≡ true) _
    (λ (row : SlotRow) is. eqb-true row.block.file file (sym (of_file-is file row) ∙ is))
    (filter (is_of_file file) rows) (each_passes (is_of_file file) rows)

module _ (actor : ℕ) (m : MetaImage) where
  aborting-does : (request : MetaRequest) (reply : MetaReply) (who file : ℕ)
      → Takes actor request reply who → Writes m who file
      → ((request ≡ Ask.Abort file) ⊎ (request ≡ Ask.Drop who)) → Counts request
      → Each (Does actor m request reply) (abort_changes file m.slots)
  unfolding abort_changes
  aborting-does request reply who file takes writes asks counts =
      each_append (Does actor m request reply)
      (map (λ (row : SlotRow). GiveUp row.block row.slot) (slots_of file m.slots))
      (AbortFile file ∷ [])
      (each_map (λ (row : SlotRow). row.block.file ≡ file) (Does actor m request reply)
      (λ (row : SlotRow). GiveUp row.block row.slot)
      (λ row own. (who, takes, inl (subst (Writes m who) (sym own) writes), counts))
      (slots_of file m.slots) (own-slots file m.slots))
      ((who, takes, writes, asks), tt)

  removing-does : (path : PathNames) (reply : MetaReply) (file : ℕ) → IsAt m path file
      → Each (Does actor m (Ask.Remove path) reply) (remove_changes path file m.slots)
  unfolding remove_changes
  removing-does path reply file is =
      each_append (Does actor m (Ask.Remove path) reply)
      (map (λ (row : SlotRow). EmptySlot row.block row.slot) (slots_of file m.slots))
      (RemoveFile path file ∷ [])
      (each_map (λ (row : SlotRow). row.block.file ≡ file) (Does actor m (Ask.Remove path) reply)
      (λ (row : SlotRow). EmptySlot row.block row.slot)
      (λ row own. (path, refl, (is.0, is.1 ∙ sym own))) (slots_of file m.slots)
      (own-slots file m.slots))
      ((refl, is), tt)

  leased-does : (request : MetaRequest) (layout : Shape) (term : ℕ) (block : BlockId) (slot : ℕ)
      (sources : NineCopies) (server : ℕ)
      → IsClosedIn m block.file → grant_at m block slot ≡ None → Counts request
      → DoesAll actor m request (grant_leased layout term actor block slot sources m server)
  unfolding grant_leased lease_and_grant new_grant
  leased-does request layout term block slot sources server closed free counts =
      let g : Granted = new_grant layout (closed_len (closed_file block.file m.tree)) block slot
      server m.next_lease sources m in (
        ((refl, counts), ((refl, (g, refl, refl, refl, refl, refl), inr (refl, closed, free)), tt)),
        record {
          life = refl;
          version = refl;
          first = GiveLease actor block.file (lease_end term m.clock) ∷ [];
          prepares = inr (inr (lease_end term m.clock, refl));
          is = refl;
        },
      )

  chosen-does : (request : MetaRequest) (layout : Shape) (term : ℕ) (block : BlockId) (slot : ℕ)
      (sources : NineCopies)
      → IsClosedIn m block.file → grant_at m block slot ≡ None → Counts request
      → DoesAll actor m request (grant_chosen layout term actor block slot sources m)
  unfolding grant_chosen
  chosen-does request layout term block slot sources closed free counts =
      need-does actor m request (Told.NoServer block slot) _ _ tt
      (λ server _. leased-does request layout term block slot sources server closed free counts)

  putting-does : (request : MetaRequest) (layout : Shape) (len : ℕ) (block : BlockId) (slot : ℕ)
      (o : Option Grant) (server : ℕ)
      → Writes m actor block.file → Counts request
      → DoesAll actor m request (grant_for_put layout actor len block slot m o server)
  unfolding grant_for_put failed_grant put_granted new_grant
  putting-does request layout len block slot None server writes counts =
      let g : Granted = new_grant layout len block slot server 0 no_sources m in (
        ((refl, (g, refl, refl, refl, refl, refl), inl (refl, writes)), tt),
        record { life = refl; version = refl; first = []; prepares = inl (refl, refl); is = refl },
      )
  putting-does request layout len block slot (Some failed) server writes counts =
      let g : Granted = new_grant layout len block slot server 0 no_sources m in
      let told : TellsOf (Told.Granted g) block slot server 0 =
      (g, refl, refl, refl, refl, refl) in (
        ((writes, server, told, counts), ((refl, told, inl (refl, writes)), tt)),
        record {
          life = refl;
          version = refl;
          first = FailGrant block slot ∷ [];
          prepares = inr (inl (refl, refl));
          is = refl;
        },
      )

  -- the leases of an actor are its own
  own-leases : (who : ℕ) → Each (OwnsLease m who) (leases_of who m.leases)
  unfolding leases_of holds_lease
  own-leases who =
      each_map (λ (l : Lease). holds_lease who l.lease m.leases ≡ true) (OwnsLease m who)
      (λ (l : Lease). l.lease) (λ l is. inl is)
      (filter (λ (l : Lease). l.actor == who) m.leases)
      (each_weaker (λ (l : Lease). ((l.actor == who) ≡ true) × ((l.actor == who) ≡ true
      → holds_lease who l.lease m.leases ≡ true)) _ (λ l b. b.1 b.0)
      (filter (λ (l : Lease). l.actor == who) m.leases)
      (each_both (λ (l : Lease). (l.actor == who) ≡ true) _
      (filter (λ (l : Lease). l.actor == who) m.leases)
      (each_passes (λ (l : Lease). l.actor == who) m.leases)
      (each_filter _ (λ (l : Lease). l.actor == who) m.leases (held m.leases))))
    where
      held : (ls : List Lease)
          → Each (λ (l : Lease). (l.actor == who) ≡ true
          → list_any (λ (lease : Lease). is_lease l.lease lease && (lease.actor == who)) ls ≡ true)
          ls
      held [] = tt
      held (l ∷ ls) = (
        (λ is. ap (λ b. b || list_any (λ (lease : Lease). is_lease l.lease lease
            && (lease.actor == who)) ls) (and_from (is_lease l.lease l) (l.actor == who)
            (is_lease-is l.lease l ∙ eq-eqb l.lease l.lease refl) is)),
        each_weaker (λ (x : Lease). (x.actor == who) ≡ true
            → list_any (λ (lease : Lease). is_lease x.lease lease &&
            (lease.actor == who)) ls ≡ true)
            _ (λ x any is. or_right _ _ (any is)) ls (held ls),
      )

  -- the unclosed files of an actor are its own
  own-files : (who : ℕ) → Each (Writes m who) (unclosed_files who m.tree)
  unfolding unclosed_files rising_files
  own-files who =
      numbers-each (Writes m who) (map (λ (row : TreeRow). row.file)
      (filter (is_unclosed_of who) m.tree)) []
      (each_map (λ (row : TreeRow). (is_unclosed_of who row ≡ true)
      × (is_unclosed_of who row ≡ true → list_any (unclosed_test who row.file) m.tree ≡ true))
      (Writes m who) (λ (row : TreeRow). row.file)
      (λ row b. subst IsTrue (sym (unclosed-any who row.file m.tree)) (b.1 b.0))
      (filter (is_unclosed_of who) m.tree)
      (each_both (λ row. is_unclosed_of who row ≡ true) _ (filter (is_unclosed_of who) m.tree)
      (each_passes (is_unclosed_of who) m.tree)
      (each_filter _ (is_unclosed_of who) m.tree (there m.tree)))) tt
    where
      there : (rows : List TreeRow)
          → Each (λ (row : TreeRow). is_unclosed_of who row ≡ true
          → list_any (unclosed_test who row.file) rows ≡ true) rows
      there [] = tt
      there (row ∷ rows) = (
        (λ is. ap (λ b. b || list_any (unclosed_test who row.file) rows)
            (and_from (is_unclosed_of who row) (has_file row.file row) is
            (has_file-is row.file row ∙ eq-eqb row.file row.file refl))),
        each_weaker (λ (x : TreeRow). is_unclosed_of who x ≡ true
            → list_any (unclosed_test who x.file) rows ≡ true) _
            (λ x any is. or_right _ _ (any is)) rows (there rows),
      )

-- ---- refusals give nothing

incomplete-quiet : (o : Option SlotId) (reply : MetaReply) → incomplete o ≡ Some reply
    → GivesNothing reply
unfolding incomplete
incomplete-quiet None reply is = absurd (cc)
incomplete-quiet (Some id) reply is =
    let e : Told.Incomplete id.block.index id.slot ≡ reply = cc in subst GivesNothing e tt

taken-quiet : (again : Bool) (o : Option Grant) (reply : MetaReply)
    → taken_refusal again o ≡ Some reply → GivesNothing reply
unfolding taken_refusal
taken-quiet again None reply is = absurd (cc)
taken-quiet true (Some g) reply is = absurd (cc)
taken-quiet false (Some g) reply is =
    let e : Told.Taken g.copy.version ≡ reply = cc in subst GivesNothing e tt

pending-quiet : (o : Option Grant) (reply : MetaReply) → pending_refusal o ≡ Some reply
    → GivesNothing reply
unfolding pending_refusal
pending-quiet None reply is = absurd (cc)
pending-quiet (Some g) reply is =
    let e : Told.Taken g.copy.version ≡ reply = cc in subst GivesNothing e tt

-- ---- requests that take an actor's own things, or drop one

pub close-does : (layout : Shape) (actor file : ℕ) (m : MetaImage)
    → DoesAll actor m (Ask.Close file) (decide_close layout actor file m)
unfolding decide_close close_complete gives_back says_done
close-does layout actor file m =
    need-does actor m (Ask.Close file) Told.Gone _ _ tt (λ row found.
    refuse-does actor m (Ask.Close file) _ _ (incomplete-quiet _) (λ _. (
      (
        (
          refl,
          inl (refl, refl),
          some-there (unclosed_file actor file m.tree) row found,
          refl,
          length m.history,
          refl,
        ),
        tt,
      ),
      tt,
    )))

pub abort-does : (actor file : ℕ) (m : MetaImage)
    → DoesAll actor m (Ask.Abort file) (decide_abort actor file m)
unfolding decide_abort abort_unclosed
abort-does actor file m =
    need-does actor m (Ask.Abort file) Told.Gone _ _ tt (λ row found. (
      aborting-does actor m (Ask.Abort file) (Told.Done (length m.history)) actor file
          (inl (refl, back)) (some-there (unclosed_file actor file m.tree) row found) (inl refl) tt,
      tt,
    ))
  where
    back : gives_back (Told.Done (length m.history)) (Ask.Abort file) ≡ true
    back = unfold gives_back says_done in refl

pub release-does : (actor lease : ℕ) (m : MetaImage)
    → DoesAll actor m (Ask.Release lease) (decide_release actor lease m)
unfolding decide_release gives_back says_released says_done
release-does actor lease m =
    unless-does actor m (Ask.Release lease) _ Told.Gone _ tt
    (λ on. ((inr (actor, inl (refl, refl), inl on), tt), tt))

own-grant : (m : MetaImage) (actor : ℕ) (block : BlockId) (slot version lease : ℕ)
    (o : Option Grant)
    → grant_at m block slot ≡ o → is_own_grant actor version lease o ≡ true
    → (grant : Grant) × (grant_at m block slot ≡ Some grant) × (grant.actor ≡ actor)
    × (grant.lease ≡ lease) × (grant.copy.version ≡ version)
unfolding is_own_grant
own-grant m actor block slot version lease None is own = absurd (cc)
own-grant m actor block slot version lease (Some g) is own =
    let p = and_parts _ (g.lease == lease) own in
    let q = and_parts (g.actor == actor) (g.copy.version == version) p.0 in (
      g,
      is,
      eqb-true g.actor actor q.0,
      eqb-true g.lease lease p.1,
      eqb-true g.copy.version version q.1,
    )

own-ending : (actor : ℕ) (m : MetaImage) (request : MetaRequest) (reply : MetaReply) (lease : ℕ)
    → gives_back reply request ≡ true
    → Each (Does actor m request reply) (end_own_lease actor lease m.leases)
unfolding end_own_lease
own-ending actor m request reply lease back = one (holds_lease actor lease m.leases) refl
  where
    one : (b : Bool) → holds_lease actor lease m.leases ≡ b
        → Each (Does actor m request reply) (cond b (EndLease lease ∷ []) [])
    one true on = (inr (actor, inl (refl, back), inl on), tt)
    one false on = tt

pub confirm-does : (actor : ℕ) (block : BlockId) (slot version lease : ℕ) (m : MetaImage)
    → DoesAll actor m (Ask.Confirm block slot version lease)
    (decide_confirm actor block slot version lease m)
unfolding decide_confirm
confirm-does actor block slot version lease m = one (file_stands block.file m.tree)
  where
    vanished : gives_back Told.Vanished (Ask.Confirm block slot version lease) ≡ true
    vanished = unfold gives_back says_settled in refl

    confirmed : gives_back Told.Confirmed (Ask.Confirm block slot version lease) ≡ true
    confirmed = unfold gives_back says_settled in refl

    ending : OwnsLease m actor lease → (b : Bool)
        → Each (Does actor m (Ask.Confirm block slot version lease) Told.Confirmed)
        (cond b (EndLease lease ∷ []) [])
    ending owns true = (inr (actor, inl (refl, confirmed), owns), tt)
    ending owns false = tt

    one : (b : Bool)
        → DoesAll actor m (Ask.Confirm block slot version lease)
        (confirm_grant actor block slot version lease m b)
    one false =
        unfold confirm_grant in (
          own-ending actor m (Ask.Confirm block slot version lease)
              Told.Vanished lease vanished,
          tt,
        )
    one true =
        unfold confirm_grant may_confirm end_live_lease in unless-does actor m
        (Ask.Confirm block slot version lease) _ _ _ tt (λ may.
        let p = and_parts (is_some (closed_file block.file m.tree)) _ may in
        let g = own-grant m actor block slot version lease (grant_at m block slot) refl p.1 in (
          each_append (Does actor m (Ask.Confirm block slot version lease) Told.Confirmed)
              (cond (is_live_lease lease m.leases) (EndLease lease ∷ []) [])
              (ConfirmSlot block slot ∷ [])
              (ending (inr (block, slot, g.0, g.1, g.2, g.3, p.0)) (is_live_lease lease m.leases))
              ((inl (refl, confirmed), (g.0, g.1, g.2), tt), tt),
          tt,
        ))

pub abandon-does : (actor : ℕ) (block : BlockId) (slot version lease : ℕ) (m : MetaImage)
    → DoesAll actor m (Ask.Abandon block slot version lease)
    (decide_abandon actor block slot version lease m)
unfolding decide_abandon abandon_changes give_up_own
abandon-does actor block slot version lease m = (
  each_append (Does actor m (Ask.Abandon block slot version lease) (Told.Done (length m.history)))
      (end_own_lease actor lease m.leases) _
      (own-ending actor m (Ask.Abandon block slot version lease) (Told.Done (length m.history))
      lease back)
      (giving (is_own_grant actor version lease (grant_at m block slot)) refl),
  tt,
)
  where
    back : gives_back (Told.Done (length m.history)) (Ask.Abandon block slot version lease) ≡ true
    back = unfold gives_back says_done in refl

    giving : (b : Bool) → is_own_grant actor version lease (grant_at m block slot) ≡ b
        → Each (Does actor m (Ask.Abandon block slot version lease) (Told.Done (length m.history)))
        (cond b (GiveUp block slot ∷ []) [])
    giving true own =
        let g = own-grant m actor block slot version lease (grant_at m block slot) refl own in
        ((actor, inl (refl, back), inr (g.0, g.1, g.2), tt), tt)
    giving false own = tt

owned : (who : ℕ) (o : Option Grant) → is_granted_to who o ≡ true
    → (grant : Grant) × (o ≡ Some grant) × (grant.actor ≡ who)
unfolding is_granted_to
owned who None is = absurd (cc)
owned who (Some g) is = (g, refl, eqb-true g.actor who is)

-- a row that is an actor's recovery or move holds a grant of its
own-recovery : (m : MetaImage) (who : ℕ) → Fits m
    → Each (λ (row : SlotRow). OwnsGrant m who row.block row.slot)
    (filter (is_recovery_of who m.tree) m.slots)
own-recovery m who f =
    each_weaker (λ (row : SlotRow). (is_recovery_of who m.tree row ≡ true)
    × (slot_at m.slots row.block row.slot ≡ row.state)) _
    (λ (row : SlotRow) b. one row (recovers row b.0) b.1)
    (filter (is_recovery_of who m.tree) m.slots)
    (each_both (λ row. is_recovery_of who m.tree row ≡ true) _
    (filter (is_recovery_of who m.tree) m.slots) (each_passes (is_recovery_of who m.tree) m.slots)
    (each_filter _ (is_recovery_of who m.tree) m.slots (rows-found m.slots f.table.in_order)))
  where
    recovers : (row : SlotRow) → is_recovery_of who m.tree row ≡ true
        → is_granted_to who row.state.grant ≡ true
    recovers row is = unfold is_recovery_of in (and_parts _ _ is).0

    one : (row : SlotRow) → is_granted_to who row.state.grant ≡ true
        → slot_at m.slots row.block row.slot ≡ row.state → OwnsGrant m who row.block row.slot
    one row is at =
        let g = owned who row.state.grant is in
        (g.0, ap (λ (st : SlotRecord). st.grant) at ∙ g.1, g.2)

pub drop-does : (actor who : ℕ) (m : MetaImage) → Fits m
    → DoesAll actor m (Ask.Drop who) (decide_drop who m)
unfolding decide_drop
drop-does actor who m f = (one (dropped_at who m.dropped), tt)
  where
    told : MetaReply
    told = Told.Done (length m.history)

    takes : Takes actor (Ask.Drop who) told who
    takes = inr refl

    one : (o : Option ℕ)
        → Each (Does actor m (Ask.Drop who) told) (changes_unless_dropped who m o)
    one (Some turn) = unfold changes_unless_dropped in tt
    one None = unfold changes_unless_dropped drop_changes recovery_changes unclosed_changes in (
      refl,
      each_append (Does actor m (Ask.Drop who) told)
          (map EndLease (leases_of who m.leases) ++ map
          (λ (row : SlotRow). GiveUp row.block row.slot) (filter
          (is_recovery_of who m.tree) m.slots))
          (flat_map (λ file. abort_changes file m.slots) (unclosed_files who m.tree))
          (each_append (Does actor m (Ask.Drop who) told) (map EndLease (leases_of who m.leases)) _
          (each_map (OwnsLease m who) (Does actor m (Ask.Drop who) told) EndLease
          (λ lease owns. inr (who, takes, owns)) (leases_of who m.leases) (own-leases actor m who))
          (each_map (λ (row : SlotRow). OwnsGrant m who row.block row.slot)
          (Does actor m (Ask.Drop who) told) (λ (row : SlotRow). GiveUp row.block row.slot)
          (λ row owns. (who, takes, inr owns, tt)) (filter (is_recovery_of who m.tree) m.slots)
          (own-recovery m who f)))
          (each_flat (Writes m who) (Does actor m (Ask.Drop who) told)
          (λ file. abort_changes file m.slots)
          (λ file writes. aborting-does actor m (Ask.Drop who) told who file takes writes (inr refl)
          tt)
          (unclosed_files who m.tree) (own-files actor m who)),
    )

-- ---- every request

all-does : (P : Change → Type 0) {X : Type 0} (f : X → Change) → ((x : X) → P (f x))
    → (xs : List X) → Each P (map f xs)
all-does P f does [] = tt
all-does P f does (x ∷ xs) = (does x, all-does P f does xs)

pub request-does : (rules : Rules) (actor : ℕ) (m : MetaImage) (request : MetaRequest) → Fits m
    → DoesAll actor m request (decide_request rules actor m request)
unfolding decide_request decide_mkdir decide_rmdir decide_remove decide_rename decide_create
    decide_grant grant_in decide_open opened decide_recover grant_recovery decide_heal heal_slot
    next_to_heal is_to_heal lacks_grant decide_move move_copy decide_evacuate evacuate_slot
    next_to_move is_to_move decide_balance give_to_lightest even_out move_slot fits_move
    decide_order order_row decide_swept decide_hello decide_bye decide_leave decide_hibernate
    decide_tick decide_list decide_left_on
request-does rules actor m (Ask.Mkdir path) f = file-does actor m _ _ _ _ (λ _. ((refl, tt), tt))
request-does rules actor m (Ask.Rmdir path) f = file-does actor m _ _ _ _ (λ _. ((refl, tt), tt))
request-does rules actor m (Ask.Remove path) f =
    file-does actor m _ _ _ _ (λ looks. (
      removing-does actor m path (Told.Done (length m.history)) (row_at m.tree path).file
          (looks, refl),
      tt,
    ))
request-does rules actor m (Ask.Rename from to) f =
    file-does actor m _ _ _ _ (λ _. ((refl, tt), tt))
request-does rules actor m (Ask.Create path command len) f =
    file-does actor m _ _ _ _ (λ _. ((refl, tt), (refl, path, command, len, refl)))
request-does rules actor m (Ask.Grant file index slot again) f =
    need-does actor m _ Told.Gone _ _ tt (λ row found. unless-does actor m _ _ Told.NoBlock _ tt
    (λ _. refuse-does actor m _ _ _ (taken-quiet again _) (λ _. need-does actor m _ _ _ _ tt
    (λ server _. putting-does actor m (Ask.Grant file index slot again) rules.layout row.len
    (record { file = file; index = index }) slot _ server
    (some-there (unclosed_file actor file m.tree) row found) tt))))
request-does rules actor m (Ask.Close file) f = close-does rules.layout actor file m
request-does rules actor m (Ask.Abort file) f = abort-does actor file m
request-does rules actor m (Ask.OpenFile path) f =
    file-does actor m _ _ _ _ (λ _. (((refl, tt), tt), (refl, lease_end rules.term m.clock, refl)))
request-does rules actor m (Ask.Release lease) f = release-does actor lease m
request-does rules actor m (Ask.RecoverAt path index slot) f =
    path-does actor m _ _ _ (λ looks. unless-does actor m _ _ Told.NoBlock _ tt
    (λ _. refuse-does actor m _ _ _ (pending-quiet _) (λ free.
    unless-does actor m _ _ Told.Whole _ tt
    (λ _. chosen-does actor m _ rules.layout rules.term _ slot _
    (closed-at m.next_file path m.tree looks f.tree) (pending-none _ free) tt))))
request-does rules actor m (Ask.HealNext after) f =
    need-does actor m _ Told.Nothing _ _ tt (λ id found.
    let r = found_has (IsOfClosed m.tree) _ (closed_slots rules.layout m.tree) id found
    (closed-slots rules.layout m.tree) in
    let p = and_parts (comes_after after id) _ r.1 in
    let q = and_parts (is_none (slot_at m.slots id.block id.slot).grant) _ p.1 in
    chosen-does actor m _ rules.layout rules.term id.block id.slot _ r.0.0 (none-is _ q.0) tt)
request-does rules actor m (Ask.MoveAt path index slot to) f =
    path-does actor m _ _ _ (λ looks. unless-does actor m _ _ Told.NoBlock _ tt
    (λ _. need-does actor m _ Told.NoBlock _ _ tt (λ copy _.
    refuse-does actor m _ _ _ (pending-quiet _)
    (λ free. unless-does actor m _ _ _ _ tt (λ _. unless-does actor m _ _ _ _ tt
    (λ _. leased-does actor m _ rules.layout rules.term _ slot _ to
    (closed-at m.next_file path m.tree looks f.tree) (pending-none _ free) tt))))))
request-does rules actor m (Ask.EvacNext server after) f =
    need-does actor m _ Told.Nothing _ _ tt (λ row found.
    let r = row-of m _ row f found in
    let p = and_parts (comes_after after (slot_id row)) _ r.2 in
    let q = at-rest rules.layout m.tree row (and_parts (is_at_rest rules.layout m.tree row) _ p.1).0
    in
    chosen-does actor m _ rules.layout rules.term row.block row.slot _ q.1
    (ap (λ (st : SlotRecord). st.grant) r.1 ∙ q.0) tt)
request-does rules actor m Ask.BalanceNext f =
    need-does actor m _ Told.Nothing _ _ tt (λ giver _. need-does actor m _ Told.Nothing _ _ tt
    (λ taker _. unless-does actor m _ _ Told.Nothing _ tt
    (λ _. need-does actor m _ Told.Nothing _ _ tt
    (λ row found.
    let r = row-of m _ row f found in
    let p = and_parts (is_at_rest rules.layout m.tree row && is_live_on m.servers giver.0
    row.state.current) _ r.2 in
    let q = at-rest rules.layout m.tree row (and_parts (is_at_rest rules.layout m.tree row) _ p.0).0
    in
    leased-does actor m _ rules.layout rules.term row.block row.slot _ taker.0 q.1
    (ap (λ (st : SlotRecord). st.grant) r.1 ∙ q.0) tt))))
request-does rules actor m (Ask.Confirm block slot version lease) f =
    confirm-does actor block slot version lease m
request-does rules actor m (Ask.Abandon block slot version lease) f =
    abandon-does actor block slot version lease m
request-does rules actor m (Ask.OrderNext after) f =
    need-does actor m _ Told.Nothing _ _ tt (λ row _. ((tt, tt), tt))
request-does rules actor m (Ask.Swept number) f = ((tt, tt), tt)
request-does rules actor m (Ask.Hello server life keys) f =
    unless-does actor m _ _ _ _ tt (λ _. (
      (
        (keys, refl),
        all-does (Does actor m (Ask.Hello server life keys) (Told.Done (length m.history)))
            (CondemnStray server life) (λ key. tt) keys,
      ),
      tt,
    ))
request-does rules actor m (Ask.Bye server) f = ((tt, tt), tt)
request-does rules actor m (Ask.Leave server) f = ((tt, tt), tt)
request-does rules actor m (Ask.Hibernate server ticks) f =
    unless-does actor m _ _ _ _ tt (λ _. ((tt, tt), tt))
request-does rules actor m Ask.Tick f = (
  (
    tt,
    all-does (Does actor m Ask.Tick (Told.Clock (min (m.clock + 1) LAST_U64))) EndLease
        (λ lease. inl refl) (leases_over (min (m.clock + 1) LAST_U64) m.leases),
  ),
  tt,
)
request-does rules actor m (Ask.Drop who) f = drop-does actor who m f
request-does rules actor m (Ask.List path) f = file-does actor m _ _ _ _ (λ _. tt)
request-does rules actor m (Ask.LeftOn server) f = tt
request-does rules actor m Ask.Checkpoint f = tt
request-does rules actor m Ask.Restart f = tt

-- the same in the range of requests or not
pub decide-does : (rules : Rules) (actor : ℕ) (m : MetaImage) (request : MetaRequest) → Fits m
    → DoesAll actor m request (decide rules actor m request)
unfolding decide
decide-does rules actor m request f =
    unless-does actor m request (in_range (length m.servers) request) Told.Nothing
    (decide_request rules actor m request) tt (λ _. request-does rules actor m request f)

-- ---- the step

-- what holds of a step where the state stays, and where the changes of its request are made
pub step-does : (P : Served → Type 0) (actor : ℕ) (m : MetaImage) (request : MetaRequest)
    (decision : Decision) (outcome : Outcome) (dropped : Option ℕ)
    → DoesAll actor m request decision
    → ((reply : MetaReply) → GivesNothing reply → P (stays m reply))
    → ((changes : List Change) (reply : MetaReply) → decision ≡ Makes changes reply
    → dropped ≡ None → Each (Does actor m request reply) changes → Provides actor m changes reply
    → P (record { meta = next_turn (apply_all changes m); reply = reply }))
    → P (serve_unless_dropped m (end_step m decision outcome) dropped)
unfolding serve_unless_dropped end_step carry_out fail_disks
step-does P actor m request decision outcome (Some turn) does same made = same
    (Told.Dropped turn) tt
step-does P actor m request decision Ended.NoMemory None does same made = same Told.NoMemory tt
step-does P actor m request (Tells reply) Ended.Done None does same made = same reply does
step-does P actor m request (UsesDisks reply) Ended.Done None does same made = same reply does
step-does P actor m request (Makes changes reply) Ended.Done None does same made =
    one (counters_fit (apply_all changes m))
  where
    one : (b : Bool) → P (take_step m (apply_all changes m) reply b)
    one true = unfold take_step in made changes reply refl refl does.0 does.1
    one false = unfold take_step in same Told.NoMemory tt
step-does P actor m request (Tells reply) Ended.Failed None does same made = same reply does
step-does P actor m request (UsesDisks reply) Ended.Failed None does same made =
    same Told.LogFault tt
step-does P actor m request (Makes changes reply) Ended.Failed None does same made =
    one (counters_fit (apply_all changes m))
  where
    one : (b : Bool) → P (stays m (cond b Told.LogFault Told.NoMemory))
    one true = same Told.LogFault tt
    one false = same Told.NoMemory tt
