-- What an actor's command holds stays its own behind the step of another actor. Only a tick ends
-- its lease, and only the file of a recovery or move may be removed. For the law `holdings_stay`.
use Rattle.qfs_base.specs.EachLaws.{each_weaker}
use Rattle.qfs_base.specs.NameTree.{PathNames, look_refusal}
use Rattle.qfs_base.specs.Sizes.{LAST_U32}
use Rattle.qfs_base.specs.Table.{Each}
use Rattle.qfs_base.specs.declared.change.Change.TheVariants.{EmptySlot, RemoveFile}
use Rattle.qfs_base.specs.declared.change.Change.{Change}
use Rattle.qfs_base.specs.declared.history.Outcome.{Outcome}
use Rattle.qfs_base.specs.declared.image.MetaImage.{MetaImage}
use Rattle.qfs_base.specs.declared.image.SlotRecord.{SlotRecord}
use Rattle.qfs_base.specs.declared.image.SlotRow.{SlotRow}
use Rattle.qfs_base.specs.declared.reply.Granted.{Granted}
use Rattle.qfs_base.specs.declared.reply.MetaReply.TheVariants as Told
use Rattle.qfs_base.specs.declared.reply.MetaReply.{MetaReply}
use Rattle.qfs_base.specs.declared.reply.TreeRefusal.{TreeRefusal}
use Rattle.qfs_base.specs.declared.request.MetaRequest.TheVariants as Ask
use Rattle.qfs_base.specs.declared.request.MetaRequest.{MetaRequest}
use Rattle.qfs_base.specs.declared.rules.Rules.{Rules}
use Rattle.qfs_laws_meta.specs.DroppedActors.{drop-counts}
use Rattle.qfs_laws_meta.specs.GrantRequests.{closed-at}
use Rattle.qfs_laws_meta.specs.GrantsFit.{GrantsFit}
use Rattle.qfs_laws_meta.specs.HoldingKept.{EndsLease, Holds, NotRemoved, NotTold, ended_behind}
use Rattle.qfs_laws_meta.specs.HoldingKept.{gone-all, granted-later, lease-later, live-all}
use Rattle.qfs_laws_meta.specs.HoldingKept.{not-written, slot-all, spares-file, spares-lease}
use Rattle.qfs_laws_meta.specs.HoldingKept.{spares-slot, writes-all}
use Rattle.qfs_laws_meta.specs.Kept.{Keeps, tree-back}
use Rattle.qfs_laws_meta.specs.RequestChanges.{Does, IsAt, Takes, decide-does, step-does}
use Rattle.qfs_laws_meta.specs.Requests.{AllMake, Fine, apply-append, kept-all, make-split}
use Rattle.qfs_laws_meta.specs.Requests.{told_all}
use Rattle.qfs_laws_meta.specs.SlotsBehind.{Touches}
use Rattle.qfs_laws_meta.specs.StaysSound.{decide-fine, keeps-of}
use Rattle.qfs_laws_meta.specs.StillStands.{EndsFile, IsClosedIn, Writes, gone-when}
use Rattle.qfs_laws_slots.specs.Granted.{granted-has}
use Rattle.qfs_laws_tables.specs.EachRow.{each_of_all}
use Rattle.qfs_model_meta.specs.Apply.{apply, apply_all}
use Rattle.qfs_model_meta.specs.Asked.{MayAsk}
use Rattle.qfs_model_meta.specs.Decide.{decide, decide_request}
use Rattle.qfs_model_meta.specs.Decision.{Makes, Tells, refuse, refuse_file, unless}
use Rattle.qfs_model_meta.specs.DropRequest.{changes_unless_dropped, decide_drop}
use Rattle.qfs_model_meta.specs.Dropped.{dropped_at}
use Rattle.qfs_model_meta.specs.Grammar.{IsActor}
use Rattle.qfs_model_meta.specs.Holding.{HasGrant, Holding, KeepsGrant, KeepsLease, ends_lease}
use Rattle.qfs_model_meta.specs.Holding.{is_tick}
use Rattle.qfs_model_meta.specs.Leases.{is_live_lease}
use Rattle.qfs_model_meta.specs.Past.{GivenLease, Past, SlotCopy, granted_slot_copy, is_copy}
use Rattle.qfs_model_meta.specs.Past.{remember, was_granted}
use Rattle.qfs_model_meta.specs.Range.{in_range}
use Rattle.qfs_model_meta.specs.Slots.{slots_of}
use Rattle.qfs_model_meta.specs.Sound.{IsSound}
use Rattle.qfs_model_meta.specs.Step.{meta_step, next_turn, stays}
use Rattle.qfs_model_meta.specs.TreeRequests.{decide_remove, remove_changes}
use Rattle.qfs_model_meta.specs.TreeRows.{file_stands, row_at, standing}
use Rattle.std.proofs.Common.{Bool, List, None, Option, Some, [], ap, drop, false, inl, inr, length}
use Rattle.std.proofs.Common.{map, not, refl, subst, sym, true, ℕ, ⊎_elim, ◌&&◌, ◌+◌, ◌<◌, ◌==◌}
use Rattle.std.proofs.Common.{◌||◌, ◌∙◌, ◌∷◌, ◌≡◌, ◌⊎◌}
use Rattle.std.proofs.lemmas.Bool.{cases_Bool, eq-eqb, eqb-true, or_left, true≢false}
use Rattle.std.specs.Prelude.{IfSome, IsTrue}

-- ---- the law

abbrev pub OthersHoldingsStay : Type 0
OthersHoldingsStay =
    (rules : Rules) (actor : ℕ) (request : MetaRequest) (outcome : Outcome) (past : Past)
    (m : MetaImage) (ended : ℕ → Bool) (who : ℕ) (holding : Holding)
    → IsSound past m → GrantsFit past m → length past.granted + 1 < LAST_U32 → IsActor actor
    → MayAsk past request → (who ≡ actor → ⊥)
    → dropped_at who (meta_step rules actor request outcome m).meta.dropped ≡ None
    → Holds past ended m who holding
    → Holds (remember actor past (meta_step rules actor request outcome m).reply)
    (ended_behind ended request m (meta_step rules actor request outcome m).meta)
    (meta_step rules actor request outcome m).meta who holding

-- ---- the request that removes a file, and the one that drops an actor

removes-or : (m : MetaImage) (request : MetaRequest) (file : ℕ)
    → ((path : PathNames) × (request ≡ Ask.Remove path) × IsAt m path file)
    ⊎ NotRemoved m request file
removes-or m (Ask.Remove path) file =
    one (look_refusal (standing m.tree) path) refl ((row_at m.tree path).file == file) refl
  where
    same-path : {p q : PathNames} → Ask.Remove p ≡ Ask.Remove q → p ≡ q
    same-path e = cc

    one : (o : Option TreeRefusal) → look_refusal (standing m.tree) path ≡ o → (b : Bool)
        → ((row_at m.tree path).file == file) ≡ b
        → ((other : PathNames) × (Ask.Remove path ≡ Ask.Remove other) × IsAt m other file)
        ⊎ NotRemoved m (Ask.Remove path) file
    one None looks true same = inl (path, refl, (looks, eqb-true _ _ same))
    one None looks false differs = inr (λ other e is. true≢false
        (sym (eq-eqb (row_at m.tree path).file file (ap (λ p. (row_at m.tree p).file)
        (same-path e) ∙ is.1)) ∙ differs))
    one (Some why) refused b same = inr (λ other e is. some-none
        (sym refused ∙ ap (look_refusal (standing m.tree)) (same-path e) ∙ is.0))
      where
        some-none : Some why ≡ None → ⊥
        some-none e = cc
removes-or m (Ask.Mkdir path) file = inr (λ other e is. cc)
removes-or m _ file = inr (λ other e is. cc)

-- a removal that is carried out leaves its file no more
removed-gone_all : (past : Past) (m : MetaImage) (path : PathNames) (file : ℕ)
    → AllMake past m (remove_changes path file m.slots) → Keeps past m
    → file_stands file (apply_all (remove_changes path file m.slots) m).tree ≡ false
unfolding remove_changes apply_all
removed-gone_all past m path file may h =
    let empties : List Change = map (λ (row : SlotRow). EmptySlot row.block row.slot)
    (slots_of file m.slots) in
    let makes = make-split past m empties (RemoveFile path file ∷ []) may in
    let n : MetaImage = apply_all empties m in
    let k = kept-all past m empties makes.0 h in
    ap (λ (o : MetaImage). file_stands file o.tree)
    (apply-append m empties (RemoveFile path file ∷ []))
    ∙ gone-when (apply n (RemoveFile path file)) file
    (tree-back (told_all empties m past) n (RemoveFile path file) makes.1.0 k.fits).1

remove-is : (rules : Rules) (actor : ℕ) (m : MetaImage) (path : PathNames) (changes : List Change)
    (reply : MetaReply)
    → decide rules actor m (Ask.Remove path) ≡ Makes changes reply
    → changes ≡ remove_changes path (row_at m.tree path).file m.slots
unfolding decide in_range unless decide_request decide_remove refuse_file refuse
remove-is rules actor m path changes reply is = one (look_refusal (standing m.tree) path) is
  where
    some-is : {a b : List Change} {r s : MetaReply} → Makes a r ≡ Makes b s → b ≡ a
    some-is e = cc

    none-is : {r : MetaReply} → Tells r ≡ Makes changes reply → ⊥
    none-is e = cc

    one : (o : Option TreeRefusal)
        → refuse_file (length m.history) o
        (Makes (remove_changes path (row_at m.tree path).file m.slots)
        (Told.Done (length m.history))) ≡ Makes changes reply
        → changes ≡ remove_changes path (row_at m.tree path).file m.slots
    one None e = some-is e
    one (Some why) e = absurd (none-is e)

drop-is : (rules : Rules) (actor who : ℕ) (m : MetaImage) (changes : List Change)
    (reply : MetaReply)
    → decide rules actor m (Ask.Drop who) ≡ Makes changes reply
    → changes ≡ changes_unless_dropped who m (dropped_at who m.dropped)
unfolding decide in_range unless decide_request decide_drop
drop-is rules actor who m changes reply is = cc

-- who isn't dropped behind a step that changes the state wasn't dropped by it
pub not-dropped : (rules : Rules) (actor who : ℕ) (m : MetaImage) (request : MetaRequest)
    (changes : List Change) (reply : MetaReply)
    → decide rules actor m request ≡ Makes changes reply
    → dropped_at who (apply_all changes m).dropped ≡ None → request ≡ Ask.Drop who → ⊥
not-dropped rules actor who m request changes reply is none drop =
    dropped-now who m (drop-is rules actor who m changes reply
    (ap (decide rules actor m) (sym drop) ∙ is)) none
  where
    dropped-now : (who : ℕ) (m : MetaImage)
        → changes ≡ changes_unless_dropped who m (dropped_at who m.dropped)
        → dropped_at who (apply_all changes m).dropped ≡ None → ⊥
    dropped-now who m same none =
        drop-counts who m (ap (λ cs. dropped_at who (apply_all cs m).dropped) (sym same) ∙ none)

-- ---- the parts of a holding

-- a lease that was live and isn't behind a tick has ended by it
ticked : (ended : ℕ → Bool) (m n : MetaImage) (lease : ℕ)
    → IsTrue (is_live_lease lease m.leases) ⊎ IsTrue (ended lease)
    → IsTrue (is_live_lease lease n.leases) ⊎ IsTrue (ended_behind ended Ask.Tick m n lease)
unfolding ends_lease is_tick
ticked ended m n lease (inr over) = inr (or_left (ended lease) _ over)
ticked ended m n lease (inl live) =
    ⊎_elim (λ still. inl still)
    (λ off. inr (one (ended lease) (is_live_lease lease m.leases) (is_live_lease lease n.leases)
    live off)) (cases_Bool (is_live_lease lease n.leases))
  where
    one : (e a b : Bool) → a ≡ true → b ≡ false → (e || (true && a && not b)) ≡ true
    one true a b on off = refl
    one false true false on off = refl
    one false true true on off = absurd (cc)
    one false false b on off = absurd (cc)

pub ended-on : (ended : ℕ → Bool) (request : MetaRequest) (m n : MetaImage) (lease : ℕ)
    → IsTrue (ended lease) → IsTrue (ended_behind ended request m n lease)
ended-on ended request m n lease over = or_left (ended lease) _ over

tick-or : (request : MetaRequest) → (request ≡ Ask.Tick) ⊎ (request ≡ Ask.Tick → ⊥)
tick-or Ask.Tick = inl refl
tick-or (Ask.Mkdir path) = inr (λ e. cc)
tick-or _ = inr (λ e. cc)

module _ (rules : Rules) (actor : ℕ) (past : Past) (m : MetaImage) (request : MetaRequest)
    (reply : MetaReply) (changes : List Change)
    (is : decide rules actor m request ≡ Makes changes reply) (makes : AllMake past m changes)
    (h : Keeps past m) (fit : GrantsFit past m) (does : Each (Does actor m request reply) changes)
    (ended : ℕ → Bool) (who : ℕ) (free : Takes actor request reply who → ⊥) where
  abbrev pub behind : MetaImage
  behind = apply_all changes m

  abbrev pub later : Past
  later = remember actor past reply

  file-stays : (file : ℕ) → Writes m who file → Writes behind who file
  file-stays file writes =
      writes-all past m who file changes makes h
      (each_weaker (Does actor m request reply) (λ change. EndsFile change file → ⊥)
      (spares-file actor past m request reply h fit who free file writes) changes does) writes

  live-stays : (lease : GivenLease) → lease.actor ≡ who → KeepsLease past ended m lease
      → IsTrue (is_live_lease lease.lease behind.leases)
      ⊎ IsTrue (ended_behind ended request m behind lease.lease)
  live-stays lease own keeps =
      ⊎_elim
      (λ tick. subst (λ r. IsTrue (is_live_lease lease.lease behind.leases)
      ⊎ IsTrue (ended_behind ended r m behind lease.lease)) (sym tick)
      (ticked ended m behind lease.lease keeps.live))
      (λ no_tick. ⊎_elim
      (λ live. inl (live-all m lease.lease changes
      (each_weaker (Does actor m request reply) (λ change. EndsLease change lease.lease → ⊥)
      (spares-lease actor past m request reply h fit who free lease own keeps.given no_tick) changes
      does) live))
      (λ over. inr (ended-on ended request m behind lease.lease over)) keeps.live)
      (tick-or request)

  lease-stays : (lease : GivenLease) → lease.actor ≡ who → KeepsLease past ended m lease
      → KeepsLease later (ended_behind ended request m behind) behind lease
  lease-stays lease own keeps = record {
    given = lease-later actor past reply lease keeps.given;
    live = live-stays lease own keeps;
  }

  -- a grant of a closed file has a lease
  leased-grant : (g : Granted) → HasGrant m who g → IsClosedIn m g.block.file → 0 < g.lease
  leased-grant g holds closed =
      ⊎_elim (λ r. r.numbered)
      (λ p. absurd (not-written m who g.block.file h.fits closed p.writes))
      (fit g.block g.slot (record {
        copy = record { server = g.server; life = g.life; version = g.version };
        actor = who;
        lease = g.lease;
      }) holds)

  grant-held : (g : Granted) → HasGrant m who g
      → NotTold actor reply who g.block g.slot → KeepsGrant behind who g
  grant-held g holds apart =
      ⊎_elim
      (λ removed.
      let path : PathNames = removed.0 in
      let closed : IsClosedIn m g.block.file = subst (IsClosedIn m) removed.2.1
      (closed-at m.next_file path m.tree removed.2.0 h.fits.tree) in
      let same : changes ≡ remove_changes path g.block.file m.slots =
      remove-is rules actor m path changes reply (ap (decide rules actor m) (sym removed.1) ∙ is)
      ∙ ap (λ file. remove_changes path file m.slots) removed.2.1 in
      inr (
        leased-grant g holds closed,
        ap (λ cs. file_stands g.block.file (apply_all cs m).tree) same
            ∙ removed-gone_all past m path g.block.file (subst (AllMake past m) same makes) h,
      ))
      (λ stays. inl (ap (λ (st : SlotRecord). st.grant) (slot-all m g.block g.slot changes
      (each_weaker (Does actor m request reply) (λ change. Touches change g.block g.slot → ⊥)
      (spares-slot actor past m request reply h fit who free g.block g.slot (record {
        copy = record { server = g.server; life = g.life; version = g.version };
        actor = who;
        lease = g.lease;
      }) holds refl apart stays) changes does)) ∙ holds))
      (removes-or m request g.block.file)

  grant-stays : (g : Granted)
      → IsTrue (was_granted past.granted g.block g.slot (granted_slot_copy g).copy)
      → KeepsGrant m who g → NotTold actor reply who g.block g.slot → KeepsGrant behind who g
  grant-stays g told keeps apart =
      ⊎_elim (λ holds. grant-held g holds apart)
      (λ gone. inr (
        gone.0,
        (gone-all past m g.block.file changes makes h (record {
          made = granted-has (λ (c : SlotCopy). c.block.file < m.next_file) past g.block g.slot
              (granted_slot_copy g).copy h.knows.of_files told;
          gone = gone.1;
        })).gone,
      )) keeps

  grants-stay : (grants : List Granted) → Each (KeepsGrant m who) grants
      → Each (λ (g : Granted). IsTrue
      (was_granted past.granted g.block g.slot (granted_slot_copy g).copy)) grants
      → Each (λ (g : Granted). NotTold actor reply who g.block g.slot) grants
      → Each (KeepsGrant behind who) grants
  grants-stay [] keeps told apart = tt
  grants-stay (g ∷ gs) keeps told apart =
      (grant-stays g told.0 keeps.0 apart.0, grants-stay gs keeps.1 told.1 apart.1)

  told-later : (grants : List Granted)
      → Each (λ (g : Granted). IsTrue
      (was_granted past.granted g.block g.slot (granted_slot_copy g).copy)) grants
      → Each (λ (g : Granted). IsTrue
      (was_granted later.granted g.block g.slot (granted_slot_copy g).copy)) grants
  unfolding was_granted
  told-later grants told =
      each_weaker _ _ (λ (g : Granted) was.
      granted-later actor past reply (is_copy g.block g.slot (granted_slot_copy g).copy) was)
      grants told

  if-file : (o : Option ℕ) → IfSome o (Writes m who) → IfSome o (Writes behind who)
  if-file None writes = tt
  if-file (Some file) writes = file-stays file writes

  if-lease : (o : Option GivenLease) → IfSome o (λ (l : GivenLease). l.actor ≡ who)
      → IfSome o (KeepsLease past ended m)
      → IfSome o (KeepsLease later (ended_behind ended request m behind) behind)
  if-lease None own keeps = tt
  if-lease (Some lease) own keeps = lease-stays lease own keeps

  -- all that is held stays, where no slot of its grants is told
  pub holding-kept : (holding : Holding)
      → Each (λ (g : Granted). NotTold actor reply who g.block g.slot) holding.grants
      → Holds past ended m who holding
      → Holds later (ended_behind ended request m behind) behind who holding
  holding-kept holding apart holds = record {
    keeps = record {
      file = if-file holding.file holds.keeps.file;
      lease = if-lease holding.lease holds.told.lease holds.keeps.lease;
      grants = grants-stay holding.grants holds.keeps.grants holds.told.grants apart;
    };
    told = record {
      lease = holds.told.lease;
      grants = told-later holding.grants holds.told.grants;
    };
  }

-- ---- the state stays

if-told : (actor : ℕ) (past : Past) (ended : ℕ → Bool) (m : MetaImage) (request : MetaRequest)
    (reply : MetaReply) (o : Option GivenLease)
    → IfSome o (KeepsLease past ended m)
    → IfSome o (KeepsLease (remember actor past reply) (ended_behind ended request m m) m)
if-told actor past ended m request reply None keeps = tt
if-told actor past ended m request reply (Some lease) keeps = record {
  given = lease-later actor past reply lease keeps.given;
  live = ⊎_elim (λ live. inl live)
      (λ over. inr (ended-on ended request m m lease.lease over)) keeps.live;
}

pub same-holding : (actor : ℕ) (past : Past) (ended : ℕ → Bool) (m : MetaImage)
    (request : MetaRequest)
    (reply : MetaReply) (who : ℕ) (holding : Holding)
    → Holds past ended m who holding
    → Holds (remember actor past reply) (ended_behind ended request m m) m who holding
unfolding was_granted
same-holding actor past ended m request reply who holding holds = record {
  keeps = record {
    file = holds.keeps.file;
    lease = if-told actor past ended m request reply holding.lease holds.keeps.lease;
    grants = holds.keeps.grants;
  };
  told = record {
    lease = holds.told.lease;
    grants = each_weaker _ _ (λ (g : Granted) was.
        granted-later actor past reply (is_copy g.block g.slot (granted_slot_copy g).copy) was)
        holding.grants holds.told.grants;
  };
}

-- the turn is no part of it
pub turned-holding : (past : Past) (ended : ℕ → Bool) (m : MetaImage) (who : ℕ) (holding : Holding)
    → Holds past ended m who holding → Holds past ended (next_turn m) who holding
unfolding next_turn
turned-holding past ended m who holding holds = record {
  keeps = record {
    file = holds.keeps.file;
    lease = turned holding.lease holds.keeps.lease;
    grants = holds.keeps.grants;
  };
  told = record { lease = holds.told.lease; grants = holds.told.grants };
}
  where
    turned : (o : Option GivenLease) → IfSome o (KeepsLease past ended m)
        → IfSome o (KeepsLease past ended (next_turn m))
    turned None keeps = tt
    turned (Some lease) keeps =
        unfold next_turn in record { given = keeps.given; live = keeps.live }

-- ---- the requests of others

never-own : (actor : ℕ) (reply : MetaReply) (who : ℕ) → (who ≡ actor → ⊥) → (grants : List Granted)
    → Each (λ (g : Granted). NotTold actor reply who g.block g.slot) grants
never-own actor reply who other grants =
    each_of_all (λ (g : Granted). NotTold actor reply who g.block g.slot)
    (λ g same. absurd (other same)) grants

pub others-holdings-stay : OthersHoldingsStay
unfolding meta_step next_turn
others-holdings-stay rules actor request outcome past m ended who holding sound fit left is_actor
    may other none holds =
    let h = keeps-of past m sound in
    let fine = decide-fine rules actor past m request sound left is_actor may in
    step-does (λ served. dropped_at who served.meta.dropped ≡ None
    → Holds (remember actor past served.reply) (ended_behind ended request m served.meta)
    served.meta who holding) actor m request (decide rules actor m request) outcome
    (dropped_at actor m.dropped) (decide-does rules actor m request h.fits)
    (λ reply _ _. unfold stays in
    same-holding actor past ended m request reply who holding holds)
    (λ changes reply is _ each _ undropped.
    let makes : Fine actor past m (Makes changes reply) = subst (Fine actor past m) is fine in
    let free : Takes actor request reply who → ⊥ = ⊎_elim (λ own. other own.0)
    (not-dropped rules actor who m request changes reply is undropped) in
    turned-holding (remember actor past reply) (ended_behind ended request m (apply_all changes m))
    (apply_all changes m) who holding
    (holding-kept rules actor past m request reply changes is makes.0 h fit each ended who free
    holding (never-own actor reply who other holding.grants) holds))
    none
