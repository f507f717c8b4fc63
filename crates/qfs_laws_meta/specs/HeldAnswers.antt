-- What an actor is answered where it holds something: its file is never gone before it ends it, a
-- lease only where a tick ended it, and a grant of a closed file is confirmed, or its file is gone.
-- The law `holders_are_answered`.
use Rattle.qfs_base.specs.EachLaws.{each_append, each_weaker}
use Rattle.qfs_base.specs.Shape.{Shape}
use Rattle.qfs_base.specs.Sizes.{LAST_U32}
use Rattle.qfs_base.specs.Table.{Each, place}
use Rattle.qfs_base.specs.declared.chunk.BlockId.{BlockId}
use Rattle.qfs_base.specs.declared.chunk.Copy.{Copy}
use Rattle.qfs_base.specs.declared.history.Outcome.{Outcome}
use Rattle.qfs_base.specs.declared.image.Grant.{Grant}
use Rattle.qfs_base.specs.declared.image.Lease.{Lease}
use Rattle.qfs_base.specs.declared.image.MetaImage.{MetaImage}
use Rattle.qfs_base.specs.declared.image.SlotRow.{SlotRow}
use Rattle.qfs_base.specs.declared.image.TreeRow.{TreeRow}
use Rattle.qfs_base.specs.declared.reply.Granted.{Granted}
use Rattle.qfs_base.specs.declared.reply.MetaReply.TheVariants as Told
use Rattle.qfs_base.specs.declared.reply.MetaReply.{MetaReply}
use Rattle.qfs_base.specs.declared.request.MetaRequest.TheVariants as Ask
use Rattle.qfs_base.specs.declared.request.MetaRequest.{MetaRequest}
use Rattle.qfs_base.specs.declared.request.SlotId.{SlotId}
use Rattle.qfs_base.specs.declared.rules.Rules.{Rules}
use Rattle.qfs_laws_meta.specs.GrantsFit.{GrantsFit, WasGiven}
use Rattle.qfs_laws_meta.specs.HoldingKept.{Holds, any-weaker, given-one, same-given, writer-of}
use Rattle.qfs_laws_meta.specs.Kept.{Fits, Keeps}
use Rattle.qfs_laws_meta.specs.MayTell.{AnyMayGet, IsIncomplete, MayTell}
use Rattle.qfs_laws_meta.specs.MoreGrants.{IsSlotOf, file-slots, unclosed-stands}
use Rattle.qfs_laws_meta.specs.RequestChanges.{grant_at, own-slots}
use Rattle.qfs_laws_meta.specs.StaysSound.{keeps-of}
use Rattle.qfs_laws_meta.specs.StepsAnswer.{steps-answer}
use Rattle.qfs_laws_meta.specs.StillStands.{IsClosedIn, Writes}
use Rattle.qfs_laws_slots.specs.RowKeys.{has_file-is, own-lease}
use Rattle.qfs_laws_tables.specs.EachRow.{each_map, each_of_all, found_has, none-is}
use Rattle.qfs_laws_tables.specs.SomeRow.{found-any}
use Rattle.qfs_laws_tree.specs.TreeChanges.{stands-any, stands_test}
use Rattle.qfs_model_meta.specs.Asked.{MayAsk}
use Rattle.qfs_model_meta.specs.Grammar.{IsActor}
use Rattle.qfs_model_meta.specs.Holding.{HasGrant, Holding, KeepsGrant, KeepsLease, is_given}
use Rattle.qfs_model_meta.specs.Leases.{holds_lease, is_lease, is_live_lease}
use Rattle.qfs_model_meta.specs.Past.{GivenLease, Past}
use Rattle.qfs_model_meta.specs.PutRequests.{file_slots, first_ungranted, lacks_grant}
use Rattle.qfs_model_meta.specs.Range.{in_range}
use Rattle.qfs_model_meta.specs.SettleRequests.{is_own_grant, may_confirm}
use Rattle.qfs_model_meta.specs.Slots.{slot_at, slot_id, slots_of}
use Rattle.qfs_model_meta.specs.Sound.{IsSound, LeasesHold, same_lease}
use Rattle.qfs_model_meta.specs.Step.{meta_step}
use Rattle.qfs_model_meta.specs.TreeRows.{closed_file, file_stands, has_file, is_unclosed_of}
use Rattle.qfs_model_meta.specs.TreeRows.{unclosed_file}
use Rattle.std.proofs.Common.{Bool, List, None, Option, Some, [], ap, arith, false, find, length}
use Rattle.std.proofs.Common.{map, refl, subst, sym, true, ℕ, ⊎_elim, ◌&&◌, ◌+◌, ◌<◌, ◌==◌, ◌||◌}
use Rattle.std.proofs.Common.{◌∙◌, ◌∷◌, ◌≡◌}
use Rattle.std.proofs.lemmas.Bool.{and_from, eq-eqb, true≢false}
use Rattle.std.specs.List.{list_any}
use Rattle.std.specs.Prelude.{IfSome, IsTrue, is_some, ⊤}

abbrev pub NotHeld : Holding → ℕ → Type 0
NotHeld holding file = holding.file ≡ Some file → ⊥

-- a grant that is held of a slot, and of a closed file with this version and lease
abbrev pub HoldsNone : Holding → BlockId → ℕ → Type 0
HoldsNone holding block slot =
    Each (λ (g : Granted). g.block ≡ block → g.slot ≡ slot → ⊥) holding.grants

abbrev pub ConfirmsNone : Holding → BlockId → ℕ → ℕ → ℕ → Type 0
ConfirmsNone holding block slot version lease =
    Each (λ (g : Granted). g.block ≡ block → g.slot ≡ slot → g.version ≡ version
    → g.lease ≡ lease → 0 < g.lease → ⊥) holding.grants

abbrev pub HeldClosed : Holding → ℕ → MetaReply → Type 0
HeldClosed holding file Told.Gone = NotHeld holding file
HeldClosed holding file (Told.Incomplete index slot) =
    HoldsNone holding (record { file = file; index = index }) slot
HeldClosed holding file reply = ⊤

abbrev pub HeldGone : Holding → ℕ → MetaReply → Type 0
HeldGone holding file Told.Gone = NotHeld holding file
HeldGone holding file reply = ⊤

abbrev pub HeldReleased : (ℕ → Bool) → Holding → ℕ → MetaReply → Type 0
HeldReleased ended holding lease Told.Gone =
    IfSome holding.lease (λ (l : GivenLease). l.lease ≡ lease → IsTrue (ended lease))
HeldReleased ended holding lease reply = ⊤

abbrev pub HeldConfirmed : Holding → BlockId → ℕ → ℕ → ℕ → MetaReply → Type 0
HeldConfirmed holding block slot version lease (Told.Stale held given) =
    ConfirmsNone holding block slot version lease
HeldConfirmed holding block slot version lease reply = ⊤

-- what a request of the actor that holds this is answered
abbrev pub HeldTells : (ℕ → Bool) → Holding → MetaReply → MetaRequest → Type 0
HeldTells ended holding reply (Ask.Grant file index slot again) = HeldGone holding file reply
HeldTells ended holding reply (Ask.Close file) = HeldClosed holding file reply
HeldTells ended holding reply (Ask.Abort file) = HeldGone holding file reply
HeldTells ended holding reply (Ask.Release lease) = HeldReleased ended holding lease reply
HeldTells ended holding reply (Ask.Confirm block slot version lease) =
    HeldConfirmed holding block slot version lease reply
HeldTells ended holding reply request = ⊤

-- the law
abbrev pub HeldAreAnswered : Type 0
HeldAreAnswered =
    (rules : Rules) (actor : ℕ) (request : MetaRequest) (outcome : Outcome) (past : Past)
    (m : MetaImage) (ended : ℕ → Bool) (holding : Holding)
    → IsSound past m → GrantsFit past m → length past.granted + 1 < LAST_U32 → IsActor actor
    → MayAsk past request → in_range (length m.servers) request ≡ true
    → Holds past ended m actor holding
    → HeldTells ended holding (meta_step rules actor request outcome m).reply request

-- ---- files

held-file : (m : MetaImage) (actor file : ℕ) (o : Option ℕ) → IfSome o (Writes m actor)
    → unclosed_file actor file m.tree ≡ None → o ≡ Some file → ⊥
held-file m actor file None writes none is = absurd (cc)
held-file m actor file (Some other) writes none is =
    let e : other ≡ file = cc in
    true≢false (sym (subst (Writes m actor) e writes) ∙ ap is_some none)

-- ---- grants

-- a file that is written stands
written-stands : (m : MetaImage) (actor file : ℕ) → Fits m → Writes m actor file
    → file_stands file m.tree ≡ true
written-stands m actor file f writes =
    let w = writer-of m actor file f writes in
    stands-any file m.tree ∙ found-any
    (λ (row : TreeRow). is_unclosed_of actor row && has_file file row) (stands_test file) m.tree w.0
    (unfold unclosed_file in w.1.found) (unclosed-stands file w.0 w.1.unclosed
    (has_file-is file w.0 ∙ eq-eqb w.0.file file w.1.own))

held-slot : (m : MetaImage) (actor : ℕ) (block : BlockId) (slot : ℕ) → Fits m
    → file_stands block.file m.tree ≡ true → grant_at m block slot ≡ None → (grants : List Granted)
    → Each (KeepsGrant m actor) grants
    → Each (λ (g : Granted). g.block ≡ block → g.slot ≡ slot → ⊥) grants
held-slot m actor block slot f stands none grants keeps =
    each_weaker (KeepsGrant m actor) _ (λ (g : Granted) k here there. ⊎_elim
    (λ holds. some-none (sym holds ∙ (λ i. grant_at m (here i) (there i)) ∙ none))
    (λ gone. true≢false (sym stands ∙ ap (λ (b : BlockId). file_stands b.file m.tree) (sym here)
    ∙ gone.1)) k) grants keeps
  where
    some-none : {g : Grant} → Some g ≡ None → ⊥
    some-none e = cc

own-is : (actor version lease : ℕ) (copy : Copy) → copy.version ≡ version
    → is_own_grant actor version lease
    (Some (record { copy = copy; actor = actor; lease = lease })) ≡ true
unfolding is_own_grant
own-is actor version lease copy same =
    and_from _ _ (and_from _ _ (eq-eqb actor actor refl) (eq-eqb copy.version version same))
    (eq-eqb lease lease refl)

held-confirm : (past : Past) (m : MetaImage) (actor : ℕ) (block : BlockId)
    (slot version lease : ℕ)
    → Keeps past m → GrantsFit past m → file_stands block.file m.tree ≡ true
    → may_confirm actor version lease (closed_file block.file m.tree) (grant_at m block slot)
    ≡ false
    → (grants : List Granted) → Each (KeepsGrant m actor) grants
    → Each (λ (g : Granted). g.block ≡ block → g.slot ≡ slot → g.version ≡ version
    → g.lease ≡ lease → 0 < g.lease → ⊥) grants
unfolding may_confirm
held-confirm past m actor block slot version lease h fit stands off grants keeps =
    each_weaker (KeepsGrant m actor) _ (λ (g : Granted) k here there old under some. ⊎_elim
    (λ holds. held g holds here there old under some)
    (λ gone. true≢false (sym stands ∙ ap (λ (b : BlockId). file_stands b.file m.tree) (sym here)
    ∙ gone.1)) k) grants keeps
  where
    held : (g : Granted) → HasGrant m actor g → g.block ≡ block → g.slot ≡ slot
        → g.version ≡ version → g.lease ≡ lease → 0 < g.lease → ⊥
    held g holds here there old under some =
        let copy : Copy = record { server = g.server; life = g.life; version = g.version } in
        let grant : Grant = record { copy = copy; actor = actor; lease = g.lease } in
        let at : grant_at m block slot ≡ Some grant =
        (λ i. grant_at m (sym here i) (sym there i)) ∙ holds in
        let closed : IsClosedIn m block.file = ⊎_elim (λ r. r.closed)
        (λ p. absurd (let e = p.lease in omega arith)) (fit block slot grant at) in
        let own : is_own_grant actor version lease (grant_at m block slot) ≡ true =
        ap (is_own_grant actor version lease) at ∙ ap (λ l. is_own_grant actor version l
        (Some grant))
        (sym under) ∙ own-is actor version g.lease copy old in
        true≢false (sym (and_from _ _ closed own) ∙ off)

-- ---- leases

live-held : (m : MetaImage) (past : Past) (lease : GivenLease) (actor : ℕ) → LeasesHold past m
    → WasGiven past lease → lease.actor ≡ actor → is_live_lease lease.lease m.leases ≡ true
    → holds_lease actor lease.lease m.leases ≡ true
unfolding is_live_lease holds_lease same_lease
live-held m past lease actor h given own live =
    own-row m.leases h.given live
  where
    row-own : (row : Lease) → row.lease ≡ lease.lease
        → list_any (λ (g : GivenLease). same_lease g row) past.leases ≡ true → row.actor ≡ actor
    row-own row same was =
        given-one past m (record { lease = row.lease; actor = row.actor; file = row.file }) lease h
        (any-weaker (λ (g : GivenLease). same_lease g row)
        (is_given (record { lease = row.lease; actor = row.actor; file = row.file }))
        (λ g is. same-given row g is) past.leases was) given same ∙ own

    own-row : (rows : List Lease)
        → Each (λ row. IsTrue (list_any (λ (g : GivenLease). same_lease g row) past.leases)) rows
        → list_any (is_lease lease.lease) rows ≡ true
        → list_any (λ (row : Lease). is_lease lease.lease row && (row.actor == actor)) rows ≡ true
    own-row [] each any = absurd (cc)
    own-row (row ∷ rows) each any =
        (elim (is_lease lease.lease row) as (λ b. is_lease lease.lease row ≡ b
        → (b || list_any (is_lease lease.lease) rows) ≡ true
        → ((b && (row.actor == actor)) || list_any (λ (row : Lease). is_lease lease.lease row
        && (row.actor == actor)) rows) ≡ true) [
          | true ↦ λ is _. ap (λ b. b || list_any (λ (row : Lease). is_lease lease.lease row
              && (row.actor == actor)) rows) (eq-eqb row.actor actor
              (row-own row (own-lease lease.lease row is) each.0))
          | false ↦ λ _ any. own-row rows each.1 any
        ]) refl any

held-lease : (m : MetaImage) (past : Past) (ended : ℕ → Bool) (actor lease : ℕ)
    (o : Option GivenLease)
    → LeasesHold past m → holds_lease actor lease m.leases ≡ false
    → IfSome o (KeepsLease past ended m) → IfSome o (λ (l : GivenLease). l.actor ≡ actor)
    → IfSome o (λ (l : GivenLease). l.lease ≡ lease → IsTrue (ended lease))
held-lease m past ended actor lease None h off keeps own = tt
held-lease m past ended actor lease (Some l) h off keeps own =
    λ same. ⊎_elim
    (λ live. absurd (true≢false (sym (live-held m past l actor h keeps.given own live)
    ∙ ap (λ k. holds_lease actor k m.leases) same ∙ off)))
    (λ over. subst (λ k. IsTrue (ended k)) same over) keeps.live

-- ---- slots that have no grant yet

-- the slots of a file are its own
of-blocks : (file count : ℕ) → Each (λ (id : SlotId). id.block.file ≡ file) (file_slots file count)
of-blocks file count =
    each_weaker (IsSlotOf file) _ (λ id is. is.0) (file_slots file count) (file-slots file count)

of-rows : (file : ℕ) (rows : List SlotRow)
    → Each (λ (id : SlotId). id.block.file ≡ file) (map slot_id (slots_of file rows))
unfolding slot_id
of-rows file rows =
    each_map (λ (row : SlotRow). row.block.file ≡ file) (λ (id : SlotId). id.block.file ≡ file)
    slot_id (λ row own. own) (slots_of file rows) (own-slots file rows)

ungranted-first : (slots : List SlotRow) (ids : List SlotId) (id : SlotId)
    → find (lacks_grant slots) ids ≡ Some id → (slot_at slots id.block id.slot).grant ≡ None
unfolding lacks_grant
ungranted-first slots ids id first =
    none-is (slot_at slots id.block id.slot).grant
    (found_has (λ (_ : SlotId). Unit {0}) _ ids id first
    (each_of_all (λ (_ : SlotId). Unit {0}) (λ _. tt) ids)).1

incomplete-none : (layout : Shape) (actor file : ℕ) (m : MetaImage) (index slot : ℕ)
    → IsIncomplete layout actor file m index slot → (id : SlotId) × (id.block.index ≡ index)
    × (id.slot ≡ slot) × (grant_at m id.block id.slot ≡ None) × Writes m actor file
    × (id.block.file ≡ file)
unfolding first_ungranted
incomplete-none layout actor file m index slot is = (
  is.id,
  sym is.at.0,
  sym is.at.1,
  ungranted-first m.slots _ is.id is.first,
  subst (λ o. IsTrue (is_some o)) (sym is.unclosed) refl,
  (found_has (λ (id : SlotId). id.block.file ≡ file) _ _ is.id is.first
      (each_append (λ (id : SlotId). id.block.file ≡ file) (file_slots file _) _
      (of-blocks file _) (of-rows file m.slots))).0,
)

-- ---- every request

module _ (rules : Rules) (actor : ℕ) (past : Past) (m : MetaImage) (ended : ℕ → Bool)
    (holding : Holding) (h : Keeps past m) (fit : GrantsFit past m)
    (holds : Holds past ended m actor holding) where
  held-grant : (file index slot : ℕ) (again : Bool) (reply : MetaReply)
      → MayTell rules actor m reply (Ask.Grant file index slot again)
      → HeldGone holding file reply
  held-grant file index slot again Told.Gone may =
      held-file m actor file holding.file holds.keeps.file may
  held-grant file index slot again (Told.Done place) may = tt
  held-grant file index slot again _ may = tt

  held-close : (file : ℕ) (reply : MetaReply) → MayTell rules actor m reply (Ask.Close file)
      → HeldClosed holding file reply
  held-close file Told.Gone may = held-file m actor file holding.file holds.keeps.file may
  held-close file (Told.Incomplete index slot) may =
      let first = incomplete-none rules.layout actor file m index slot may in
      held-slot m actor (record { file = file; index = index }) slot h.fits
      (written-stands m actor file h.fits first.4)
      ((λ i. grant_at m (record { file = sym first.5 i; index = sym first.1 i }) (sym first.2 i))
      ∙ first.3) holding.grants holds.keeps.grants
  held-close file (Told.Done place) may = tt
  held-close file _ may = tt

  held-abort : (file : ℕ) (reply : MetaReply) → MayTell rules actor m reply (Ask.Abort file)
      → HeldGone holding file reply
  held-abort file Told.Gone may = held-file m actor file holding.file holds.keeps.file may
  held-abort file (Told.Done place) may = tt
  held-abort file _ may = tt

  held-release : (lease : ℕ) (reply : MetaReply) → MayTell rules actor m reply (Ask.Release lease)
      → HeldReleased ended holding lease reply
  held-release lease Told.Gone may =
      held-lease m past ended actor lease holding.lease h.leases may holds.keeps.lease
      holds.told.lease
  held-release lease (Told.Done place) may = tt
  held-release lease _ may = tt

  held-confirmed : (block : BlockId) (slot version lease : ℕ) (reply : MetaReply)
      → MayTell rules actor m reply (Ask.Confirm block slot version lease)
      → HeldConfirmed holding block slot version lease reply
  held-confirmed block slot version lease (Told.Stale held given) may =
      held-confirm past m actor block slot version lease h fit may.0 may.1 holding.grants
      holds.keeps.grants
  held-confirmed block slot version lease (Told.Done place) may = tt
  held-confirmed block slot version lease _ may = tt

  held-tells : (reply : MetaReply) (request : MetaRequest) → MayTell rules actor m reply request
      → HeldTells ended holding reply request
  held-tells reply (Ask.Grant file index slot again) may =
      held-grant file index slot again reply may
  held-tells reply (Ask.Close file) may = held-close file reply may
  held-tells reply (Ask.Abort file) may = held-abort file reply may
  held-tells reply (Ask.Release lease) may = held-release lease reply may
  held-tells reply (Ask.Confirm block slot version lease) may =
      held-confirmed block slot version lease reply may
  held-tells reply (Ask.Mkdir path) may = tt
  held-tells reply _ may = tt

-- ---- the answers that any request may get

module _ (rules : Rules) (actor : ℕ) (outcome : Outcome) (m : MetaImage) (ended : ℕ → Bool)
    (holding : Holding) (request : MetaRequest) where
  any-gone : (file : ℕ) (reply : MetaReply) → AnyMayGet rules actor outcome m request reply
      → HeldGone holding file reply
  any-gone file Told.Gone any = absurd any
  any-gone file (Told.Done place) any = tt
  any-gone file _ any = tt

  any-closed : (file : ℕ) (reply : MetaReply) → AnyMayGet rules actor outcome m request reply
      → HeldClosed holding file reply
  any-closed file Told.Gone any = absurd any
  any-closed file (Told.Incomplete index slot) any = absurd any
  any-closed file (Told.Done place) any = tt
  any-closed file _ any = tt

  any-released : (lease : ℕ) (reply : MetaReply) → AnyMayGet rules actor outcome m request reply
      → HeldReleased ended holding lease reply
  any-released lease Told.Gone any = absurd any
  any-released lease (Told.Done place) any = tt
  any-released lease _ any = tt

  any-confirmed : (block : BlockId) (slot version lease : ℕ) (reply : MetaReply)
      → AnyMayGet rules actor outcome m request reply
      → HeldConfirmed holding block slot version lease reply
  any-confirmed block slot version lease (Told.Stale held given) any = absurd any
  any-confirmed block slot version lease (Told.Done place) any = tt
  any-confirmed block slot version lease _ any = tt

any-tells : (rules : Rules) (actor : ℕ) (outcome : Outcome) (m : MetaImage) (ended : ℕ → Bool)
    (holding : Holding) (reply : MetaReply) (request : MetaRequest)
    → AnyMayGet rules actor outcome m request reply → HeldTells ended holding reply request
any-tells rules actor outcome m ended holding reply (Ask.Grant file index slot again) any =
    any-gone rules actor outcome m ended holding (Ask.Grant file index slot again) file reply any
any-tells rules actor outcome m ended holding reply (Ask.Close file) any =
    any-closed rules actor outcome m ended holding (Ask.Close file) file reply any
any-tells rules actor outcome m ended holding reply (Ask.Abort file) any =
    any-gone rules actor outcome m ended holding (Ask.Abort file) file reply any
any-tells rules actor outcome m ended holding reply (Ask.Release lease) any =
    any-released rules actor outcome m ended holding (Ask.Release lease) lease reply any
any-tells rules actor outcome m ended holding reply (Ask.Confirm block slot version lease) any =
    any-confirmed rules actor outcome m ended holding (Ask.Confirm block slot version lease) block
    slot version lease reply any
any-tells rules actor outcome m ended holding reply (Ask.Mkdir path) any = tt
any-tells rules actor outcome m ended holding reply _ any = tt

pub held-are-answered : HeldAreAnswered
held-are-answered rules actor request outcome past m ended holding sound fit left who may range
    holds =
    let served = meta_step rules actor request outcome m in
    ⊎_elim
    (λ told. held-tells rules actor past m ended holding (keeps-of past m sound) fit holds
    served.reply request told.1)
    (λ any. any-tells rules actor outcome m ended holding served.reply request any)
    (steps-answer rules actor request outcome past m sound left who may range).answer
