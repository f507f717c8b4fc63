-- What a step leaves of what an actor holds, as long as it takes nothing of it: its file, its lease
-- and its grants. Cited by the law of what is held.
use Rattle.qfs_base.specs.NameTree.{PathNames}
use Rattle.qfs_base.specs.Table.{Each, place}
use Rattle.qfs_base.specs.declared.change.Change.TheVariants.{AbortFile, AddDirectory, CloseFile}
use Rattle.qfs_base.specs.declared.change.Change.TheVariants.{CondemnStray, ConfirmSlot, EmptySlot}
use Rattle.qfs_base.specs.declared.change.Change.TheVariants.{EndLease, FailGrant, GiveLease}
use Rattle.qfs_base.specs.declared.change.Change.TheVariants.{GiveUp, GrantSlot, RemoveFile}
use Rattle.qfs_base.specs.declared.change.Change.{Change}
use Rattle.qfs_base.specs.declared.chunk.BlockId.{BlockId}
use Rattle.qfs_base.specs.declared.image.Grant.{Grant}
use Rattle.qfs_base.specs.declared.image.Lease.{Lease}
use Rattle.qfs_base.specs.declared.image.MetaImage.{MetaImage}
use Rattle.qfs_base.specs.declared.image.TreeRow.{TreeRow}
use Rattle.qfs_base.specs.declared.reply.Granted.{Granted}
use Rattle.qfs_base.specs.declared.reply.MetaReply.TheVariants as Told
use Rattle.qfs_base.specs.declared.reply.MetaReply.{MetaReply}
use Rattle.qfs_base.specs.declared.request.MetaRequest.TheVariants as Ask
use Rattle.qfs_base.specs.declared.request.MetaRequest.{MetaRequest}
use Rattle.qfs_laws_meta.specs.GrantRequests.{closed-at}
use Rattle.qfs_laws_meta.specs.GrantsFit.{GrantsFit, WasGiven, given-more}
use Rattle.qfs_laws_meta.specs.Kept.{Fits, Keeps, kept}
use Rattle.qfs_laws_meta.specs.RequestChanges.{Does, IsAt, OwnsGrant, OwnsLease, Takes, TellsOf}
use Rattle.qfs_laws_meta.specs.RequestChanges.{grant_at}
use Rattle.qfs_laws_meta.specs.Requests.{AllMake}
use Rattle.qfs_laws_meta.specs.SlotsBehind.{Touches, slot-untouched}
use Rattle.qfs_laws_meta.specs.StillStands.{EndsFile, IsClosedIn, IsGone, Writes, stays-gone}
use Rattle.qfs_laws_meta.specs.StillStands.{still-writes}
use Rattle.qfs_laws_slots.specs.Changes.{told}
use Rattle.qfs_laws_slots.specs.Losing.{losing-frame, stray-frame}
use Rattle.qfs_laws_slots.specs.RowKeys.{is_lease-is, own-file, own-lease}
use Rattle.qfs_laws_tables.specs.Distinct.{distinct-both}
use Rattle.qfs_laws_tables.specs.EachRow.{found_has}
use Rattle.qfs_laws_tables.specs.SomeRow.{any_append, any_each, any_filter}
use Rattle.qfs_laws_tree.specs.Files.{not-closed, unclosed-rows}
use Rattle.qfs_laws_tree.specs.History.{IsUnclosedFile}
use Rattle.qfs_laws_tree.specs.Tree.{RowIs}
use Rattle.qfs_model_meta.specs.Apply.{add_file, apply, apply_all, bring_up, finish_lease}
use Rattle.qfs_model_meta.specs.Apply.{grant_slot, with_slots, write_entry}
use Rattle.qfs_model_meta.specs.Holding.{Holding, KeepsHolding, ends_lease, is_given}
use Rattle.qfs_model_meta.specs.Leases.{end_lease, give_lease, holds_lease, is_lease, is_live_lease}
use Rattle.qfs_model_meta.specs.Past.{GivenLease, Past, SlotCopy, granted_slot_copy, is_of_put}
use Rattle.qfs_model_meta.specs.Past.{remember, was_granted, with_copy, with_grant, with_lease}
use Rattle.qfs_model_meta.specs.Slots.{slot_at}
use Rattle.qfs_model_meta.specs.Sound.{LeasesHold, same_lease, same_lease_number}
use Rattle.qfs_model_meta.specs.Step.{stays}
use Rattle.qfs_model_meta.specs.TreeRows.{has_file, is_unclosed_of, is_unclosed_row, unclosed_file}
use Rattle.std.proofs.Common.{Bool, List, None, Option, Some, [], ap, arith, false, inl, inr, not}
use Rattle.std.proofs.Common.{refl, subst, sym, true, ℕ, ⊎_elim, ◌&&◌, ◌==◌, ◌||◌, ◌∙◌, ◌∷◌, ◌≡◌}
use Rattle.std.proofs.lemmas.Bool.Decides.{nat_tests}
use Rattle.std.proofs.lemmas.Bool.{and_from, and_parts, eq-eqb, eqb-true, ne_eqb, or_right}
use Rattle.std.proofs.lemmas.Bool.{true≢false}
use Rattle.std.specs.List.{list_any}
use Rattle.std.specs.Prelude.{IfSome, IsTrue, is_some}

-- what goes along with what is held: the lease is the actor's own, and each grant was told
pub record HoldsTold (past : Past) (who : ℕ) (holding : Holding) : Type 0 where
  pub lease : IfSome holding.lease (λ (l : GivenLease). l.actor ≡ who)
  pub grants : Each (λ (g : Granted). IsTrue
      (was_granted past.granted g.block g.slot (granted_slot_copy g).copy)) holding.grants

pub record Holds (past : Past) (ended : ℕ → Bool) (m : MetaImage) (who : ℕ)
    (holding : Holding) : Type 0 where
  pub keeps : KeepsHolding past ended m who holding
  pub told : HoldsTold past who holding

-- the leases that ticks ended, behind a step more
abbrev pub ended_behind : (ℕ → Bool) → MetaRequest → MetaImage → MetaImage → ℕ → Bool
ended_behind ended request m n lease = ended lease || ends_lease request m.leases n.leases lease

-- ---- whose it is

-- the row of a file that an actor writes
pub record IsWriter (m : MetaImage) (actor file : ℕ) (row : TreeRow) : Type 0 where
  pub found : unclosed_file actor file m.tree ≡ Some row
  pub unclosed : is_unclosed_row row ≡ true
  pub by : row.actor ≡ actor
  pub own : row.file ≡ file

pub writer-of : (m : MetaImage) (actor file : ℕ) → Fits m → Writes m actor file
    → (row : TreeRow) × IsWriter m actor file row
writer-of m actor file f writes = one (unclosed_file actor file m.tree) refl writes
  where
    one : (o : Option TreeRow) → unclosed_file actor file m.tree ≡ o → IsTrue (is_some o)
        → (row : TreeRow) × IsWriter m actor file row
    one None e some = absurd (true≢false (sym some))
    one (Some row) e some =
        unfold unclosed_file is_unclosed_of in
        let r = found_has (RowIs m.next_file) _ m.tree row e f.tree.rows in
        let p = and_parts (is_unclosed_row row && (row.actor == actor)) (has_file file row) r.1 in
        let q = and_parts (is_unclosed_row row) (row.actor == actor) p.0 in (
          row,
          record {
            found = e;
            unclosed = q.0;
            by = eqb-true row.actor actor q.1;
            own = own-file file row p.1;
          },
        )

writer-rows : (m : MetaImage) (actor file : ℕ) (row : TreeRow) → Fits m
    → IsWriter m actor file row
    → IsUnclosedFile file m.tree × Each (λ (r : TreeRow). r.file ≡ file → r ≡ row) m.tree
writer-rows m actor file row f w =
    unclosed-rows m.next_file file
    (λ (r : TreeRow). is_unclosed_of actor r && has_file file r) m.tree row f.tree
    (unfold unclosed_file in w.found) w.own w.unclosed

-- one actor writes a file
pub one-writer : (m : MetaImage) (a b file : ℕ) → Fits m → Writes m a file → Writes m b file
    → a ≡ b
one-writer m a b file f left right =
    let x = writer-of m a file f left in
    let y = writer-of m b file f right in
    let same : y.0 ≡ x.0 = (found_has (λ (r : TreeRow). r.file ≡ file → r ≡ x.0)
    (λ (r : TreeRow). is_unclosed_of b r && has_file file r) m.tree y.0
    (unfold unclosed_file in y.1.found) (writer-rows m a file x.0 f x.1).1).0 y.1.own in
    sym x.1.by ∙ ap (λ (r : TreeRow). r.actor) (sym same) ∙ y.1.by

-- nobody writes a closed file
pub not-written : (m : MetaImage) (actor file : ℕ) → Fits m → IsClosedIn m file
    → Writes m actor file → ⊥
not-written m actor file f closed writes =
    let w = writer-of m actor file f writes in
    true≢false (sym closed ∙ not-closed file m.tree (writer-rows m actor file w.0 f w.1).0)

-- ---- the leases that were given

given-is : (a b : GivenLease) → is_given a b ≡ true
    → (a.lease ≡ b.lease) × (a.actor ≡ b.actor) × (a.file ≡ b.file)
unfolding is_given
given-is a b is =
    let p = and_parts ((a.lease == b.lease) && (a.actor == b.actor)) (a.file == b.file) is in
    let q = and_parts (a.lease == b.lease) (a.actor == b.actor) p.0 in
    (eqb-true _ _ q.0, eqb-true _ _ q.1, eqb-true _ _ p.1)

-- a lease is given to one actor
pub given-one : (past : Past) (m : MetaImage) (a b : GivenLease) → LeasesHold past m
    → WasGiven past a → WasGiven past b → a.lease ≡ b.lease → a.actor ≡ b.actor
unfolding same_lease_number
given-one past m a b h left right same =
    distinct-both (a.actor ≡ b.actor) same_lease_number (is_given a) (is_given b)
    (λ x y p q. let e = (given-is a x p).0 in let f = (given-is b y q).0 in grind
    (arith, nat_tests))
    (λ x y p q. let e = (given-is b x p).0 in let f = (given-is a y q).0 in grind
    (arith, nat_tests))
    (λ x p q. (given-is a x p).1 ∙ sym (given-is b x q).1) past.leases h.once left right

pub any-weaker : {X : Type 0} (p q : X → Bool) → ((x : X) → p x ≡ true → q x ≡ true) → (xs : List X)
    → list_any p xs ≡ true → list_any q xs ≡ true
any-weaker p q more [] any = absurd (cc)
any-weaker p q more (x ∷ xs) any =
    (elim (p x) as (λ b. p x ≡ b → (b || list_any p xs) ≡ true
    → (q x || list_any q xs) ≡ true) [
      | true ↦ λ is _. ap (λ b. b || list_any q xs) (more x is)
      | false ↦ λ _ any. or_right (q x) _ (any-weaker p q more xs any)
    ]) refl any

-- a live lease is the one that was given
pub same-given : (row : Lease) (g : GivenLease) → same_lease g row ≡ true
    → is_given (record { lease = row.lease; actor = row.actor; file = row.file }) g ≡ true
unfolding same_lease is_given
same-given row g same =
    let p = and_parts ((g.lease == row.lease) && (g.actor == row.actor)) (g.file == row.file)
    same in
    let q = and_parts (g.lease == row.lease) (g.actor == row.actor) p.0 in
    and_from _ _ (and_from _ _ (eq-eqb row.lease g.lease (sym (eqb-true _ _ q.0)))
    (eq-eqb row.actor g.actor (sym (eqb-true _ _ q.1))))
    (eq-eqb row.file g.file (sym (eqb-true _ _ p.1)))

-- a lease that an actor holds was given to it
holder-given : (past : Past) (m : MetaImage) (who lease : ℕ) → LeasesHold past m
    → holds_lease who lease m.leases ≡ true
    → (file : ℕ) × WasGiven past (record { lease = lease; actor = who; file = file })
unfolding holds_lease
holder-given past m who lease h holds =
    any_each ((file : ℕ) × WasGiven past (record { lease = lease; actor = who; file = file }))
    (λ (row : Lease). IsTrue (list_any (λ given. same_lease given row) past.leases))
    (λ (row : Lease). is_lease lease row && (row.actor == who))
    (λ row given is.
    let p = and_parts (is_lease lease row) (row.actor == who) is in
    let number : row.lease ≡ lease = own-lease lease row p.0 in
    let by : row.actor ≡ who = eqb-true row.actor who p.1 in (
      row.file,
      subst (WasGiven past) (λ i. record
          { lease = number i; actor = by i; file = row.file }) (any-weaker
          (λ (g : GivenLease). same_lease g row)
          (is_given (record { lease = row.lease; actor = row.actor; file = row.file }))
          (λ g same. same-given row g same) past.leases given),
    ))
    m.leases h.given holds

owner-given : (past : Past) (m : MetaImage) (who lease : ℕ) → Keeps past m → GrantsFit past m
    → OwnsLease m who lease
    → (file : ℕ) × WasGiven past (record { lease = lease; actor = who; file = file })
owner-given past m who lease h fit (inl holds) = holder-given past m who lease h.leases holds
owner-given past m who lease h fit (inr owns) =
    let grant : Grant = owns.2 in
    ⊎_elim
    (λ r. (
      owns.0.file,
      subst (WasGiven past) (λ i. record
          { lease = owns.5 i; actor = owns.4 i; file = owns.0.file }) r.given,
    ))
    (λ p. absurd (not-written m grant.actor owns.0.file h.fits owns.6 p.writes))
    (fit owns.0 owns.1 grant owns.3)

-- ---- what a change spares

-- a change ends this lease
abbrev pub EndsLease : Change → ℕ → Type 0
EndsLease (EndLease number) lease = number ≡ lease
EndsLease change lease = ⊥

-- the grant of a slot is told to none but another actor
abbrev pub NotTold : ℕ → MetaReply → ℕ → BlockId → ℕ → Type 0
NotTold actor reply who block slot =
    who ≡ actor → (server lease : ℕ) → TellsOf reply block slot server lease → ⊥

-- the file isn't the one that is removed
abbrev pub NotRemoved : MetaImage → MetaRequest → ℕ → Type 0
NotRemoved m request file =
    (path : PathNames) → request ≡ Ask.Remove path → IsAt m path file → ⊥

same-grant : (m : MetaImage) (block other : BlockId) (slot at : ℕ) (a b : Grant) → other ≡ block
    → at ≡ slot → grant_at m block slot ≡ Some a → grant_at m other at ≡ Some b → a ≡ b
same-grant m block other slot at a b here there left right =
    let e : grant_at m other at ≡ grant_at m block slot = λ i. grant_at m (here i) (there i) in
    some-is (sym left ∙ sym e ∙ right)
  where
    some-is : {a b : Grant} → Some a ≡ Some b → a ≡ b
    some-is e = cc

module _ (actor : ℕ) (past : Past) (m : MetaImage) (request : MetaRequest) (reply : MetaReply)
    (h : Keeps past m) (fit : GrantsFit past m) (who : ℕ)
    (free : Takes actor request reply who → ⊥) where
  not-taken : (other : ℕ) → other ≡ who → Takes actor request reply other → ⊥
  not-taken other same takes = free (subst (Takes actor request reply) same takes)

  removed-closed : (path : PathNames) (file : ℕ) → IsAt m path file → IsClosedIn m file
  removed-closed path file is =
      subst (IsClosedIn m) is.1 (closed-at m.next_file path m.tree is.0 h.fits.tree)

  -- the file that an actor writes
  pub spares-file : (file : ℕ) → Writes m who file → (change : Change)
      → Does actor m request reply change → EndsFile change file → ⊥
  spares-file file writes (CloseFile other by command) does ends =
      not-taken actor (one-writer m actor who file h.fits (subst (Writes m actor) ends does.2)
      writes) does.1
  spares-file file writes (AbortFile other) does ends =
      not-taken does.0 (one-writer m does.0 who file h.fits
      (subst (Writes m does.0) ends does.2) writes) does.1
  spares-file file writes (RemoveFile path other) does ends =
      not-written m who file h.fits
      (subst (IsClosedIn m) ends (removed-closed path other does.1)) writes
  spares-file file writes (AddDirectory path) does ends = ends
  spares-file file writes _ does ends = ends

  -- the lease that it has
  pub spares-lease : (lease : GivenLease) → lease.actor ≡ who → WasGiven past lease
      → (request ≡ Ask.Tick → ⊥) → (change : Change) → Does actor m request reply change
      → EndsLease change lease.lease → ⊥
  spares-lease lease own given no_tick (EndLease number) does ends =
      ⊎_elim no_tick
      (λ takes.
      let o = owner-given past m takes.0 number h fit takes.2 in
      not-taken takes.0 (given-one past m
      (record { lease = number; actor = takes.0; file = o.0 }) lease h.leases o.1 given ends ∙ own)
      takes.1)
      does
  spares-lease lease own given no_tick (AddDirectory path) does ends = ends
  spares-lease lease own given no_tick _ does ends = ends

  -- the grant that it has
  module _ (block : BlockId) (slot : ℕ) (grant : Grant) (at : grant_at m block slot ≡ Some grant)
      (own : grant.actor ≡ who) where
    writer-is : (other : ℕ) → Writes m other block.file → other ≡ who
    writer-is other writes =
        ⊎_elim
        (λ r. absurd (not-written m other block.file h.fits r.closed writes))
        (λ p. one-writer m other who block.file h.fits writes
        (subst (λ a. Writes m a block.file) own p.writes))
        (fit block slot grant at)

    owner-is : (other : ℕ) (b : BlockId) (s : ℕ) → b ≡ block → s ≡ slot → OwnsGrant m other b s
        → other ≡ who
    owner-is other b s here there owns =
        sym owns.2 ∙ ap (λ (g : Grant). g.actor)
        (sym (same-grant m block b slot s grant owns.0 here there at owns.1)) ∙ own

    pub spares-slot : NotTold actor reply who block slot → NotRemoved m request block.file
        → (change : Change) → Does actor m request reply change → Touches change block slot → ⊥
    spares-slot apart stays (CloseFile file by command) does touches =
        not-taken actor (writer-is actor (subst (Writes m actor) (sym touches) does.2)) does.1
    spares-slot apart stays (AbortFile file) does touches =
        not-taken does.0 (writer-is does.0 (subst (Writes m does.0) (sym touches) does.2)) does.1
    spares-slot apart stays (RemoveFile path file) does touches =
        stays path does.0 (does.1.0, does.1.1 ∙ sym touches)
    spares-slot apart stays (GrantSlot other number server by lease) does touches =
        ⊎_elim
        (λ put. apart (sym (writer-is actor
        (subst (λ (b : BlockId). Writes m actor b.file) touches.0 put.1))) server lease
        (here does.1))
        (λ leased. some-none (sym at ∙ (λ i. grant_at m (sym touches.0 i) (sym touches.1 i))
        ∙ leased.2))
        does.2
      where
        some-none : Some grant ≡ None → ⊥
        some-none e = cc

        here : TellsOf reply other number server lease → TellsOf reply block slot server lease
        here t = subst (λ b. TellsOf reply b slot server lease) touches.0
            (subst (λ s. TellsOf reply other s server lease) touches.1 t)
    spares-slot apart stays (FailGrant other number) does touches =
        apart (sym (writer-is actor (subst (λ (b : BlockId). Writes m actor b.file) touches.0
        does.0)))
        does.1 0 (subst (λ b. TellsOf reply b slot does.1 0) touches.0
        (subst (λ s. TellsOf reply other s does.1 0) touches.1 does.2))
    spares-slot apart stays (GiveUp other number) does touches =
        ⊎_elim
        (λ writes. not-taken does.0 (writer-is does.0
        (subst (λ (b : BlockId). Writes m does.0 b.file) touches.0 writes)) does.1)
        (λ owns. not-taken does.0 (owner-is does.0 other number touches.0 touches.1 owns) does.1)
        does.2
    spares-slot apart stays (ConfirmSlot other number) does touches =
        not-taken actor (owner-is actor other number touches.0 touches.1 does.1) does.0
    spares-slot apart stays (EmptySlot other number) does touches =
        stays does.0 does.1 (does.2.0, does.2.1 ∙ ap (λ (b : BlockId). b.file) touches.0)
    spares-slot apart stays (AddDirectory path) does touches = touches
    spares-slot apart stays _ does touches = touches

-- ---- changes one after another

pub writes-all : (past : Past) (m : MetaImage) (actor file : ℕ) (changes : List Change)
    → AllMake past m changes → Keeps past m → Each (λ change. EndsFile change file → ⊥) changes
    → Writes m actor file → Writes (apply_all changes m) actor file
unfolding apply_all
writes-all past m actor file [] may h spares writes = writes
writes-all past m actor file (change ∷ changes) may h spares writes =
    writes-all (told change m past) (apply m change) actor file changes may.1
    (kept past m change may.0 h) spares.1
    (still-writes past m change may.0 h.fits actor file spares.0 writes)

pub gone-all : (past : Past) (m : MetaImage) (file : ℕ) (changes : List Change)
    → AllMake past m changes → Keeps past m → IsGone m file → IsGone (apply_all changes m) file
unfolding apply_all
gone-all past m file [] may h gone = gone
gone-all past m file (change ∷ changes) may h gone =
    gone-all (told change m past) (apply m change) file changes may.1
    (kept past m change may.0 h) (stays-gone past m change may.0 h.fits file gone)

pub slot-all : (m : MetaImage) (block : BlockId) (slot : ℕ) (changes : List Change)
    → Each (λ change. Touches change block slot → ⊥) changes
    → slot_at (apply_all changes m).slots block slot ≡ slot_at m.slots block slot
unfolding apply_all
slot-all m block slot [] spares = refl
slot-all m block slot (change ∷ changes) spares =
    slot-all (apply m change) block slot changes spares.1
    ∙ slot-untouched m change block slot spares.0

still-live : (m : MetaImage) (change : Change) (lease : ℕ) → (EndsLease change lease → ⊥)
    → is_live_lease lease m.leases ≡ true → is_live_lease lease (apply m change).leases ≡ true
unfolding apply write_entry add_file with_slots grant_slot finish_lease bring_up give_lease
    end_lease is_live_lease
still-live m (GiveLease actor file until) lease spares live =
    any_append (is_lease lease) m.leases
    (record { lease = m.next_lease; actor = actor; file = file; until = until } ∷ []) live
still-live m (EndLease number) lease spares live =
    any_filter (is_lease lease) (λ (l : Lease). not (is_lease number l))
    (λ l is. off l (own-lease lease l is)) m.leases live
  where
    off : (l : Lease) → l.lease ≡ lease → not (is_lease number l) ≡ true
    off l same =
        ap not (is_lease-is number l ∙ ap (λ k. k == number) same
        ∙ ne_eqb lease number (λ e. spares (sym e)))
still-live m (FailGrant block slot) lease spares live =
    subst (λ (n : MetaImage). list_any (is_lease lease) n.leases ≡ true)
    (sym (losing-frame m (FailGrant block slot) tt).is) live
still-live m (GiveUp block slot) lease spares live =
    subst (λ (n : MetaImage). list_any (is_lease lease) n.leases ≡ true)
    (sym (losing-frame m (GiveUp block slot) tt).is) live
still-live m (ConfirmSlot block slot) lease spares live =
    subst (λ (n : MetaImage). list_any (is_lease lease) n.leases ≡ true)
    (sym (losing-frame m (ConfirmSlot block slot) tt).is) live
still-live m (EmptySlot block slot) lease spares live =
    subst (λ (n : MetaImage). list_any (is_lease lease) n.leases ≡ true)
    (sym (losing-frame m (EmptySlot block slot) tt).is) live
still-live m (CondemnStray server life key) lease spares live =
    subst (λ (n : MetaImage). list_any (is_lease lease) n.leases ≡ true)
    (sym (stray-frame server life key m)) live
still-live m (AddDirectory path) lease spares live = live
still-live m _ lease spares live = live

pub live-all : (m : MetaImage) (lease : ℕ) (changes : List Change)
    → Each (λ change. EndsLease change lease → ⊥) changes
    → is_live_lease lease m.leases ≡ true
    → is_live_lease lease (apply_all changes m).leases ≡ true
unfolding apply_all
live-all m lease [] spares live = live
live-all m lease (change ∷ changes) spares live =
    live-all (apply m change) lease changes spares.1 (still-live m change lease spares.0 live)

-- ---- what was told stays told

pub granted-later : (actor : ℕ) (past : Past) (reply : MetaReply) (test : SlotCopy → Bool)
    → list_any test past.granted ≡ true → list_any test (remember actor past reply).granted ≡ true
unfolding remember with_lease
granted-later actor past (Told.Granted g) test was = one (is_of_put g)
  where
    one : (b : Bool) → list_any test (with_grant actor g past b).granted ≡ true
    one true = unfold with_grant with_copy in
        any_append test past.granted (granted_slot_copy g ∷ []) was
    one false = unfold with_grant with_copy with_lease in
        any_append test past.granted (granted_slot_copy g ∷ []) was
granted-later actor past (Told.Opened o) test was = was
granted-later actor past (Told.Ordered condemned turn) test was = was
granted-later actor past (Told.Done place) test was = was
granted-later actor past _ test was = was

pub lease-later : (actor : ℕ) (past : Past) (reply : MetaReply) (lease : GivenLease)
    → WasGiven past lease → WasGiven (remember actor past reply) lease
lease-later actor past reply lease was = given-more actor past reply (is_given lease) was
