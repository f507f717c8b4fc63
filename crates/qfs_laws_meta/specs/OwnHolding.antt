-- What an actor's command holds behind its own request: what the answer leaves or gives. For the
-- law `holdings_stay`.
use Rattle.qfs_base.specs.EachLaws.{each_append, each_filter, each_weaker}
use Rattle.qfs_base.specs.NameTree.{PathNames}
use Rattle.qfs_base.specs.Sizes.{LAST_U32}
use Rattle.qfs_base.specs.Table.{Each, place}
use Rattle.qfs_base.specs.declared.change.Change.TheVariants.{AddFile, GiveLease, GrantSlot}
use Rattle.qfs_base.specs.declared.change.Change.{Change}
use Rattle.qfs_base.specs.declared.history.Outcome.{Outcome}
use Rattle.qfs_base.specs.declared.image.Lease.{Lease}
use Rattle.qfs_base.specs.declared.image.MetaImage.{MetaImage}
use Rattle.qfs_base.specs.declared.image.SlotRecord.{SlotRecord}
use Rattle.qfs_base.specs.declared.reply.Granted.{Granted}
use Rattle.qfs_base.specs.declared.reply.MetaReply.TheVariants as Told
use Rattle.qfs_base.specs.declared.reply.MetaReply.{MetaReply}
use Rattle.qfs_base.specs.declared.reply.Opened.{Opened}
use Rattle.qfs_base.specs.declared.request.MetaRequest.{MetaRequest}
use Rattle.qfs_base.specs.declared.rules.Rules.{Rules}
use Rattle.qfs_laws_meta.specs.GrantsFit.{GrantsFit, given-self, given-told, granting-does}
use Rattle.qfs_laws_meta.specs.GrantsFit.{prepared, same-next}
use Rattle.qfs_laws_meta.specs.HoldingKept.{Holds, NotTold, ended_behind, live-all}
use Rattle.qfs_laws_meta.specs.HoldingStays.{holding-kept, not-dropped, same-holding}
use Rattle.qfs_laws_meta.specs.HoldingStays.{turned-holding}
use Rattle.qfs_laws_meta.specs.Kept.{Fits, Keeps, kept}
use Rattle.qfs_laws_meta.specs.RequestChanges.{Does, GivesGrant, GivesNothing, GrantsIn, Prepares}
use Rattle.qfs_laws_meta.specs.RequestChanges.{Provides, Takes, TellsOf, decide-does, step-does}
use Rattle.qfs_laws_meta.specs.Requests.{AllMake, Fine, apply-append}
use Rattle.qfs_laws_meta.specs.SlotsBehind.{slot-touched}
use Rattle.qfs_laws_meta.specs.StaysSound.{decide-fine, keeps-of}
use Rattle.qfs_laws_meta.specs.StillStands.{Writes, unclosed-any, unclosed_test}
use Rattle.qfs_laws_slots.specs.Changes.{MayMake}
use Rattle.qfs_laws_slots.specs.Granted.{is_copy-self}
use Rattle.qfs_laws_slots.specs.RowKeys.{has_file-is, is_lease-is}
use Rattle.qfs_laws_slots.specs.Slots.{same_block-self}
use Rattle.qfs_laws_tables.specs.EachRow.{each_of_all, each_passes}
use Rattle.qfs_laws_tables.specs.SomeRow.{any_last}
use Rattle.qfs_laws_tree.specs.TreeChanges.{any-added}
use Rattle.qfs_model_meta.specs.Apply.{add_file, apply, apply_all, write_entry}
use Rattle.qfs_model_meta.specs.Asked.{MayAsk}
use Rattle.qfs_model_meta.specs.Decide.{decide}
use Rattle.qfs_model_meta.specs.Decision.{Makes}
use Rattle.qfs_model_meta.specs.Dropped.{dropped_at}
use Rattle.qfs_model_meta.specs.Grammar.{IsActor}
use Rattle.qfs_model_meta.specs.Holding.{HasGrant, Holding, KeepsGrant, gives_back, held_after}
use Rattle.qfs_model_meta.specs.Holding.{held_unless_back, holds_nothing, is_given, is_same_slot}
use Rattle.qfs_model_meta.specs.Holding.{taken_up, with_grant_held, with_lease_of}
use Rattle.qfs_model_meta.specs.Leases.{give_lease, is_lease, is_live_lease}
use Rattle.qfs_model_meta.specs.Past.{Past, granted_slot_copy, is_copy, is_of_put, remember}
use Rattle.qfs_model_meta.specs.Past.{was_granted, with_copy, with_grant, with_lease}
use Rattle.qfs_model_meta.specs.Servers.{server_at}
use Rattle.qfs_model_meta.specs.Slots.{granted_slot, same_block, slot_at}
use Rattle.qfs_model_meta.specs.Sound.{IsSound}
use Rattle.qfs_model_meta.specs.Step.{meta_step, next_turn, stays}
use Rattle.qfs_model_meta.specs.TreeRows.{add_row, file_row, is_unclosed, is_unclosed_of}
use Rattle.qfs_model_meta.specs.TreeRows.{is_unclosed_row, kind_of}
use Rattle.std.proofs.Common.{Bool, List, None, Some, [], ap, arith, false, filter, inl, inr}
use Rattle.std.proofs.Common.{length, not, refl, subst, suc, sym, true, zero, ℕ, ⊎_elim, ◌&&◌, ◌++◌}
use Rattle.std.proofs.Common.{◌+◌, ◌<◌, ◌==◌, ◌∙◌, ◌∷◌, ◌≡◌, ◌≤◌}
use Rattle.std.proofs.lemmas.Bool.{and_from, eq-eqb, or_left, true≢false}
use Rattle.std.specs.List.{list_any}
use Rattle.std.specs.Prelude.{IsTrue}

-- ---- the law

abbrev pub OwnHoldingStays : Type 0
OwnHoldingStays =
    (rules : Rules) (actor : ℕ) (request : MetaRequest) (outcome : Outcome) (past : Past)
    (m : MetaImage) (ended : ℕ → Bool) (holding : Holding)
    → IsSound past m → GrantsFit past m → length past.granted + 1 < LAST_U32 → IsActor actor
    → MayAsk past request
    → dropped_at actor (meta_step rules actor request outcome m).meta.dropped ≡ None
    → Holds past ended m actor holding
    → Holds (remember actor past (meta_step rules actor request outcome m).reply)
    (ended_behind ended request m (meta_step rules actor request outcome m).meta)
    (meta_step rules actor request outcome m).meta actor
    (held_after actor holding (meta_step rules actor request outcome m).reply request)

-- ---- what a request of its own gives an actor

unclosed-new : (path : PathNames) (next actor command len : ℕ) → 1 ≤ next
    → unclosed_test actor next (file_row path next actor command len) ≡ true
unfolding is_unclosed_of is_unclosed_row file_row is_unclosed
unclosed-new path next actor command len some =
    and_from _ _ (and_from _ _ (one next some) (eq-eqb actor actor refl))
    (has_file-is next (file_row path next actor command len) ∙ eq-eqb next next refl)
  where
    one : (n : ℕ) → 1 ≤ n → is_unclosed (kind_of n false) ≡ true
    one zero low = absurd (omega arith)
    one (suc n) low = unfold kind_of in refl

-- the file that it creates
created-writes : (past : Past) (m : MetaImage) (path : PathNames) (actor command len : ℕ) → Fits m
    → MayMake past m (AddFile path actor command len)
    → Writes (apply m (AddFile path actor command len)) actor m.next_file
unfolding apply add_file write_entry file_row
created-writes past m path actor command len f may =
    subst IsTrue (sym (unclosed-any actor m.next_file
    (add_row (file_row path m.next_file actor command len) m.tree)))
    (any-added (unclosed_test actor m.next_file) (file_row path m.next_file actor command len)
    m.tree may.adds.free ∙ or_left _ _ (unclosed-new path m.next_file actor command len
    f.first_file))

-- the grant that it is told
granted-held : (actor : ℕ) (m : MetaImage) (g : Granted) (changes : List Change)
    → GivesGrant actor m g changes → HasGrant (apply_all changes m) actor g
unfolding apply_all granted_slot
granted-held actor m g changes gives =
    subst (λ (o : MetaImage). HasGrant o actor g)
    (sym (ap (λ cs. apply_all cs m) gives.is ∙ apply-append m gives.first
    (GrantSlot g.block g.slot g.server actor g.lease ∷ [])))
    (last (apply_all gives.first m) (prepared actor m g gives.first gives.prepares).servers
    (same-next actor m g gives.first gives.prepares))
  where
    last : (n : MetaImage) → n.servers ≡ m.servers
        → (slot_at n.slots g.block g.slot).next ≡ (slot_at m.slots g.block g.slot).next
        → HasGrant (apply_all (GrantSlot g.block g.slot g.server actor g.lease ∷ []) n) actor g
    last n servers next =
        let given : (slot_at (apply n (GrantSlot g.block g.slot g.server actor g.lease)).slots
        g.block g.slot).grant ≡ Some (record {
          copy = record {
            server = g.server;
            life = (server_at n.servers g.server).life;
            version = (slot_at n.slots g.block g.slot).next;
          };
          actor = actor;
          lease = g.lease;
        }) = ap (λ (st : SlotRecord). st.grant)
        (slot-touched n (GrantSlot g.block g.slot g.server actor g.lease) g.block g.slot
        (refl, refl)) in
        let life : (server_at n.servers g.server).life ≡ g.life =
        ap (λ vs. (server_at vs g.server).life) servers ∙ sym gives.life in
        let version : (slot_at n.slots g.block g.slot).next ≡ g.version = next ∙ sym gives.version
        in
        given ∙ (λ i. Some (record {
          copy = record { server = g.server; life = life i; version = version i };
          actor = actor;
          lease = g.lease;
        }))

-- the lease that it is told
lent-live : (m : MetaImage) (actor file until : ℕ) (changes : List Change)
    → changes ≡ GiveLease actor file until ∷ []
    → is_live_lease m.next_lease (apply_all changes m).leases ≡ true
unfolding apply_all apply give_lease is_live_lease
lent-live m actor file until changes is =
    let new : Lease = record { lease = m.next_lease; actor = actor; file = file; until = until } in
    ap (λ cs. list_any (is_lease m.next_lease) (apply_all cs m).leases) is
    ∙ any_last (is_lease m.next_lease) m.leases new
    (is_lease-is m.next_lease new ∙ eq-eqb m.next_lease m.next_lease refl)

leased-live : (actor : ℕ) (m : MetaImage) (g : Granted) (changes : List Change)
    → GivesGrant actor m g changes → GrantsIn actor m g.block g.slot g.lease → 0 < g.lease
    → is_live_lease g.lease (apply_all changes m).leases ≡ true
leased-live actor m g changes gives grants some =
    one gives.prepares
  where
    last : Change
    last = GrantSlot g.block g.slot g.server actor g.lease

    next : g.lease ≡ m.next_lease
    next = ⊎_elim (λ put. absurd (let e = put.0 in omega arith)) (λ leased. leased.0) grants

    one : Prepares actor g gives.first → is_live_lease g.lease (apply_all changes m).leases ≡ true
    one (inl none) = absurd (let e = none.1 in omega arith)
    one (inr (inl fails)) = absurd (let e = fails.1 in omega arith)
    one (inr (inr lends)) =
        ap (λ cs. is_live_lease g.lease (apply_all cs m).leases) gives.is
        ∙ ap (λ (n : MetaImage). is_live_lease g.lease n.leases)
        (apply-append m gives.first (last ∷ []))
        ∙ still (apply_all gives.first m)
        (ap (λ l. is_live_lease l (apply_all gives.first m).leases) next
        ∙ lent-live m actor g.block.file lends.0 gives.first lends.1)
      where
        still : (n : MetaImage) → is_live_lease g.lease n.leases ≡ true
            → is_live_lease g.lease (apply_all (last ∷ []) n).leases ≡ true
        still n live = live-all n g.lease (last ∷ []) ((λ e. e), tt) live

-- of the slots of what is held, none is told but those that are held no more
others-slots : (actor who : ℕ) (g : Granted) (grants : List Granted)
    → Each (λ (h : Granted). NotTold actor (Told.Granted g) who h.block h.slot)
    (filter (λ (other : Granted). not (is_same_slot g other)) grants)
unfolding is_same_slot
others-slots actor who g grants =
    each_weaker (λ (h : Granted). not (same_block g.block h.block && (g.slot == h.slot)) ≡ true)
    (λ (h : Granted). NotTold actor (Told.Granted g) who h.block h.slot)
    (λ h off _ server lease told. apart h off told)
    (filter (λ (h : Granted). not (same_block g.block h.block && (g.slot == h.slot))) grants)
    (each_passes (λ (h : Granted). not (same_block g.block h.block && (g.slot == h.slot))) grants)
  where
    same-told : {a b : Granted} → Told.Granted a ≡ Told.Granted b → b ≡ a
    same-told e = cc

    apart : (h : Granted) → not (same_block g.block h.block && (g.slot == h.slot)) ≡ true
        → {server lease : ℕ} → TellsOf (Told.Granted g) h.block h.slot server lease → ⊥
    apart h off told =
        let e : told.0 ≡ g = same-told told.1 in
        let block : g.block ≡ h.block = ap (λ (x : Granted). x.block) (sym e) ∙ told.2 in
        let slot : g.slot ≡ h.slot = ap (λ (x : Granted). x.slot) (sym e) ∙ told.3 in
        true≢false (sym off ∙ ap not (and_from (same_block g.block h.block) (g.slot == h.slot)
        (subst (λ b. same_block g.block b ≡ true) block (same_block-self g.block))
        (eq-eqb g.slot h.slot slot)))

granted-told : (actor : ℕ) (past : Past) (g : Granted)
    → IsTrue (was_granted (remember actor past (Told.Granted g)).granted g.block g.slot
    (granted_slot_copy g).copy)
unfolding remember was_granted granted_slot_copy
granted-told actor past g = one (is_of_put g)
  where
    self : is_copy g.block g.slot (granted_slot_copy g).copy (granted_slot_copy g) ≡ true
    self = unfold granted_slot_copy in is_copy-self (record {
      block = g.block;
      slot = g.slot;
      copy = record { server = g.server; life = g.life; version = g.version };
    })

    one : (b : Bool)
        → list_any (is_copy g.block g.slot (granted_slot_copy g).copy)
        (with_grant actor g past b).granted ≡ true
    one true = unfold with_grant with_copy in
        any_last (is_copy g.block g.slot (granted_slot_copy g).copy) past.granted
        (granted_slot_copy g) self
    one false = unfold with_grant with_copy with_lease in
        any_last (is_copy g.block g.slot (granted_slot_copy g).copy) past.granted
        (granted_slot_copy g) self

module _ (rules : Rules) (actor : ℕ) (past : Past) (m : MetaImage) (request : MetaRequest)
    (changes : List Change) (makes : AllMake past m changes) (h : Keeps past m)
    (fit : GrantsFit past m) (ended : ℕ → Bool) (holding : Holding)
    (holds : Holds past ended m actor holding) where
  abbrev Decided : MetaReply → Type 0
  Decided reply = decide rules actor m request ≡ Makes changes reply

  abbrev Taken : MetaReply → Type 0
  Taken reply =
      Holds (remember actor past reply) (ended_behind ended request m (apply_all changes m))
      (apply_all changes m) actor (taken_up actor holding reply)

  quiet-slots : (reply : MetaReply) → ((g : Granted) → reply ≡ Told.Granted g → ⊥)
      → (grants : List Granted)
      → Each (λ (g : Granted). NotTold actor reply actor g.block g.slot) grants
  quiet-slots reply quiet grants =
      each_of_all (λ (g : Granted). NotTold actor reply actor g.block g.slot)
      (λ g _ server lease told. quiet told.0 told.1) grants

  created-held : (file place : ℕ)
      → Provides actor m changes (Told.Created file place)
      → Holds (remember actor past (Told.Created file place))
      (ended_behind ended request m (apply_all changes m)) (apply_all changes m) actor holding
      → Taken (Told.Created file place)
  unfolding taken_up
  created-held file place gives kept = record {
    keeps = record {
      file = subst (Writes (apply_all changes m) actor) (sym gives.0)
          (subst (λ cs. AllMake past m cs → Writes (apply_all cs m) actor m.next_file)
          (sym gives.4) (λ may. unfold apply_all in
          created-writes past m gives.1 actor gives.2 gives.3 h.fits may.0) makes);
      lease = kept.keeps.lease;
      grants = kept.keeps.grants;
    };
    told = record { lease = kept.told.lease; grants = kept.told.grants };
  }

  opened-held : (o : Opened) → Provides actor m changes (Told.Opened o)
      → Holds (remember actor past (Told.Opened o))
      (ended_behind ended request m (apply_all changes m)) (apply_all changes m) actor holding
      → Taken (Told.Opened o)
  unfolding taken_up remember with_lease
  opened-held o gives kept = record {
    keeps = record {
      file = kept.keeps.file;
      lease = record {
        given = any_last (is_given (record { lease = o.lease; actor = actor; file = o.file }))
            past.leases (record { lease = o.lease; actor = actor; file = o.file })
            (given-self (record { lease = o.lease; actor = actor; file = o.file }));
        live = inl (ap (λ l. is_live_lease l (apply_all changes m).leases) gives.0
            ∙ lent-live m actor o.file gives.1 changes gives.2);
      };
      grants = kept.keeps.grants;
    };
    told = record { lease = refl; grants = kept.told.grants };
  }

  granted-taken : (g : Granted)
      → GivesGrant actor m g changes → GrantsIn actor m g.block g.slot g.lease
      → Holds (remember actor past (Told.Granted g))
      (ended_behind ended request m (apply_all changes m)) (apply_all changes m) actor
      (record holding {
        grants = filter (λ (other : Granted). not (is_same_slot g other)) holding.grants;
      })
      → Taken (Told.Granted g)
  unfolding taken_up with_grant_held
  granted-taken g gives grants kept = one (is_of_put g) refl
    where
      all : Each (KeepsGrant (apply_all changes m) actor)
          (filter (λ (other : Granted). not (is_same_slot g other)) holding.grants ++ g ∷ [])
      all = each_append (KeepsGrant (apply_all changes m) actor) _ (g ∷ []) kept.keeps.grants
          (inl (granted-held actor m g changes gives), tt)

      each-told : Each (λ (x : Granted). IsTrue
          (was_granted (remember actor past (Told.Granted g)).granted x.block x.slot
          (granted_slot_copy x).copy))
          (filter (λ (other : Granted). not (is_same_slot g other)) holding.grants ++ g ∷ [])
      each-told = each_append (λ (x : Granted). IsTrue
          (was_granted (remember actor past (Told.Granted g)).granted x.block x.slot
          (granted_slot_copy x).copy)) _ (g ∷ []) kept.told.grants
          (granted-told actor past g, tt)

      some : is_of_put g ≡ false → 0 < g.lease
      some off = unfold is_of_put in not-zero g.lease off
        where
          not-zero : (n : ℕ) → (n == 0) ≡ false → 0 < n
          not-zero zero e = absurd (cc)
          not-zero (suc n) e = omega arith

      one : (b : Bool) → is_of_put g ≡ b
          → Holds (remember actor past (Told.Granted g))
          (ended_behind ended request m (apply_all changes m)) (apply_all changes m) actor
          (with_lease_of actor g (record holding {
            grants = filter (λ (other : Granted). not (is_same_slot g other)) holding.grants
                ++ g ∷ [];
          }) b)
      one true put = unfold with_lease_of in record {
        keeps = record {
          file = kept.keeps.file;
          lease = kept.keeps.lease;
          grants = all;
        };
        told = record { lease = kept.told.lease; grants = each-told };
      }
      one false leased = unfold with_lease_of in record {
        keeps = record {
          file = kept.keeps.file;
          lease = record {
            given = given-told actor past g (some leased);
            live = inl (leased-live actor m g changes gives grants (some leased));
          };
          grants = all;
        };
        told = record { lease = refl; grants = each-told };
      }

  own-taken : (reply : MetaReply) → Decided reply → Each (Does actor m request reply) changes
      → Provides actor m changes reply → (Takes actor request reply actor → ⊥) → Taken reply
  own-taken (Told.Created file place) is does gives free =
      created-held file place gives
      (holding-kept rules actor past m request (Told.Created file place) changes is makes h fit
      does ended actor free holding
      (quiet-slots (Told.Created file place) (λ g e. cc) holding.grants) holds)
  own-taken (Told.Opened o) is does gives free =
      opened-held o gives
      (holding-kept rules actor past m request (Told.Opened o) changes is makes h fit does ended
      actor free holding (quiet-slots (Told.Opened o) (λ g e. cc) holding.grants) holds)
  own-taken (Told.Granted g) is does gives free =
      granted-taken g gives (granting-does actor m request g changes gives does)
      (holding-kept rules actor past m request (Told.Granted g) changes is makes h fit does ended
      actor free
      (record holding {
        grants = filter (λ (other : Granted). not (is_same_slot g other)) holding.grants;
      })
      (others-slots actor actor g holding.grants) (record {
        keeps = record {
          file = holds.keeps.file;
          lease = holds.keeps.lease;
          grants = each_filter (KeepsGrant m actor)
              (λ (other : Granted). not (is_same_slot g other)) holding.grants
              holds.keeps.grants;
        };
        told = record {
          lease = holds.told.lease;
          grants = each_filter _ (λ (other : Granted). not (is_same_slot g other)) holding.grants
              holds.told.grants;
        };
      }))
  own-taken (Told.Done place) is does gives free =
      unfold taken_up in holding-kept rules actor past m request
      (Told.Done place) changes is makes h
      fit does ended actor free holding
      (quiet-slots (Told.Done place) (λ g e. cc) holding.grants) holds
  own-taken reply is does gives free =
      unfold taken_up in holding-kept rules actor past m request reply changes is makes h fit does
      ended actor free holding (quiet-slots reply (λ g e. cc) holding.grants) holds

-- ---- the actor's own requests

nothing-held : (past : Past) (ended : ℕ → Bool) (m : MetaImage) (who : ℕ)
    → Holds past ended m who holds_nothing
nothing-held past ended m who = record {
  keeps = record { file = tt; lease = tt; grants = tt };
  told = record { lease = tt; grants = tt };
}

unless-back : (past : Past) (ended : ℕ → Bool) (m : MetaImage) (who : ℕ) (holding : Holding)
    (b : Bool)
    → (b ≡ false → Holds past ended m who holding)
    → Holds past ended m who (held_unless_back holding b)
unfolding held_unless_back
unless-back past ended m who holding true holds = nothing-held past ended m who
unless-back past ended m who holding false holds = holds refl

nothing-taken : (actor : ℕ) (holding : Holding) (reply : MetaReply) → GivesNothing reply
    → taken_up actor holding reply ≡ holding
unfolding taken_up
nothing-taken actor holding (Told.Created file place) nothing = absurd nothing
nothing-taken actor holding (Told.Granted g) nothing = absurd nothing
nothing-taken actor holding (Told.Opened o) nothing = absurd nothing
nothing-taken actor holding (Told.Done place) nothing = refl
nothing-taken actor holding _ nothing = refl

pub own-holding-stays : OwnHoldingStays
unfolding meta_step next_turn held_after
own-holding-stays rules actor request outcome past m ended holding sound fit left is_actor may none
    holds =
    let h = keeps-of past m sound in
    let fine = decide-fine rules actor past m request sound left is_actor may in
    step-does (λ served. dropped_at actor served.meta.dropped ≡ None
    → Holds (remember actor past served.reply) (ended_behind ended request m served.meta)
    served.meta actor (held_unless_back (taken_up actor holding served.reply)
    (gives_back served.reply request))) actor m request (decide rules actor m request) outcome
    (dropped_at actor m.dropped) (decide-does rules actor m request h.fits)
    (λ reply nothing _. unfold stays in
    unless-back (remember actor past reply) (ended_behind ended request m m) m actor
    (taken_up actor holding reply) (gives_back reply request)
    (λ _. subst (Holds (remember actor past reply) (ended_behind ended request m m) m actor)
    (sym (nothing-taken actor holding reply nothing))
    (same-holding actor past ended m request reply actor holding holds)))
    (λ changes reply is _ each gives undropped.
    let makes : Fine actor past m (Makes changes reply) = subst (Fine actor past m) is fine in
    unless-back (remember actor past reply) (ended_behind ended request m (apply_all changes m))
    (next_turn (apply_all changes m)) actor (taken_up actor holding reply)
    (gives_back reply request)
    (λ keeps.
    let free : Takes actor request reply actor → ⊥ = ⊎_elim
    (λ own. true≢false (sym own.1 ∙ keeps))
    (not-dropped rules actor actor m request changes reply is undropped) in
    turned-holding (remember actor past reply) (ended_behind ended request m (apply_all changes m))
    (apply_all changes m) actor (taken_up actor holding reply)
    (own-taken rules actor past m request changes makes.0 h fit ended holding holds reply is each
    gives free)))
    none
