-- A pending grant fits its file: on a closed file it is that of a recovery or move, whose lease was
-- given to its actor on the file; on an unclosed one that of the put which writes the file, and
-- without a lease. Every step keeps that, whatever is asked: the law `grants_fit_files`, on which
-- the laws of what is held rest.
use Rattle.qfs_base.specs.EachLaws.{each_weaker}
use Rattle.qfs_base.specs.Sizes.{LAST_U32}
use Rattle.qfs_base.specs.Table.{Each, place}
use Rattle.qfs_base.specs.declared.change.Change.TheVariants.{AbortFile, AddDirectory, CloseFile}
use Rattle.qfs_base.specs.declared.change.Change.TheVariants.{ConfirmSlot, EmptySlot, FailGrant}
use Rattle.qfs_base.specs.declared.change.Change.TheVariants.{GiveLease, GiveUp, GrantSlot}
use Rattle.qfs_base.specs.declared.change.Change.TheVariants.{RemoveFile}
use Rattle.qfs_base.specs.declared.change.Change.{Change}
use Rattle.qfs_base.specs.declared.chunk.BlockId.{BlockId}
use Rattle.qfs_base.specs.declared.history.Outcome.{Outcome}
use Rattle.qfs_base.specs.declared.image.Grant.{Grant}
use Rattle.qfs_base.specs.declared.image.MetaImage.{MetaImage}
use Rattle.qfs_base.specs.declared.image.SlotRecord.{SlotRecord}
use Rattle.qfs_base.specs.declared.reply.Granted.{Granted}
use Rattle.qfs_base.specs.declared.reply.MetaReply.TheVariants as Told
use Rattle.qfs_base.specs.declared.reply.MetaReply.{MetaReply}
use Rattle.qfs_base.specs.declared.request.MetaRequest.{MetaRequest}
use Rattle.qfs_base.specs.declared.rules.Rules.{Rules}
use Rattle.qfs_laws_meta.specs.Kept.{Fits, Keeps, kept}
use Rattle.qfs_laws_meta.specs.RequestChanges.{Does, GivesGrant, GrantsIn, Prepares, Provides}
use Rattle.qfs_laws_meta.specs.RequestChanges.{decide-does, grant_at, step-does}
use Rattle.qfs_laws_meta.specs.Requests.{AllMake, Fine, apply-append, kept-all, make-split}
use Rattle.qfs_laws_meta.specs.Requests.{told_all}
use Rattle.qfs_laws_meta.specs.SlotsBehind.{Touches, failed_record, slot-touched, slot-untouched}
use Rattle.qfs_laws_meta.specs.SlotsBehind.{touched, touches-or}
use Rattle.qfs_laws_meta.specs.StaysSound.{decide-fine, keeps-of}
use Rattle.qfs_laws_meta.specs.StillStands.{EndsFile, IsClosedIn, Writes, still-closed}
use Rattle.qfs_laws_meta.specs.StillStands.{still-writes}
use Rattle.qfs_laws_slots.specs.Changes.{MayMake, told}
use Rattle.qfs_laws_slots.specs.Losing.{losing-frame}
use Rattle.qfs_laws_tables.specs.EachRow.{each-right}
use Rattle.qfs_laws_tables.specs.SomeRow.{any_append, any_last}
use Rattle.qfs_model_meta.specs.Apply.{apply, apply_all, grant_slot, with_slots}
use Rattle.qfs_model_meta.specs.Asked.{MayAsk}
use Rattle.qfs_model_meta.specs.Decide.{decide}
use Rattle.qfs_model_meta.specs.Decision.{Makes}
use Rattle.qfs_model_meta.specs.Dropped.{dropped_at}
use Rattle.qfs_model_meta.specs.Grammar.{IsActor}
use Rattle.qfs_model_meta.specs.Holding.{is_given}
use Rattle.qfs_model_meta.specs.Past.{GivenLease, Past, is_of_put, no_past, remember, with_copy}
use Rattle.qfs_model_meta.specs.Past.{with_grant, with_lease}
use Rattle.qfs_model_meta.specs.Servers.{server_at}
use Rattle.qfs_model_meta.specs.Slots.{confirmed_slot, emptied_slot, failed_slot, granted_slot}
use Rattle.qfs_model_meta.specs.Slots.{never_granted, sealed_slot, slot_at, ungranted_slot}
use Rattle.qfs_model_meta.specs.Sound.{IsSound}
use Rattle.qfs_model_meta.specs.Step.{meta_step, next_turn, opening, stays}
use Rattle.qfs_model_meta.specs.TreeRows.{closed_file, unclosed_file}
use Rattle.std.proofs.Common.{Bool, List, None, Option, Some, [], ap, arith, false, inl, inr}
use Rattle.std.proofs.Common.{length, refl, subst, sym, true, ℕ, ⊎_elim, ◌+◌, ◌<◌, ◌==◌, ◌∙◌, ◌∷◌}
use Rattle.std.proofs.Common.{◌≡◌, ◌≤◌, ◌⊎◌}
use Rattle.std.proofs.lemmas.Bool.Decides.{nat_tests}
use Rattle.std.specs.List.{list_any}
use Rattle.std.specs.Prelude.{IsTrue, is_some, ⊤}

-- the lease of a grant as it was given
abbrev pub lease_of : BlockId → Grant → GivenLease
lease_of block grant =
    record { lease = grant.lease; actor = grant.actor; file = block.file }

abbrev pub WasGiven : Past → GivenLease → Type 0
WasGiven past lease = IsTrue (list_any (is_given lease) past.leases)

pub record IsRepair (past : Past) (m : MetaImage) (block : BlockId) (grant : Grant) : Type 0 where
  pub numbered : 0 < grant.lease
  pub given : WasGiven past (lease_of block grant)
  pub closed : IsClosedIn m block.file

pub record IsPut (m : MetaImage) (block : BlockId) (grant : Grant) : Type 0 where
  pub lease : grant.lease ≡ 0
  pub writes : Writes m grant.actor block.file

abbrev pub FitsFile : Past → MetaImage → BlockId → Grant → Type 0
FitsFile past m block grant = IsRepair past m block grant ⊎ IsPut m block grant

abbrev pub GrantsFit : Past → MetaImage → Type 0
GrantsFit past m =
    (block : BlockId) (slot : ℕ) (grant : Grant) → grant_at m block slot ≡ Some grant
    → FitsFile past m block grant

-- the law
abbrev pub GrantsStayFit : Type 0
GrantsStayFit =
    (rules : Rules) (actor : ℕ) (request : MetaRequest) (outcome : Outcome) (past : Past)
    (m : MetaImage)
    → IsSound past m → GrantsFit past m → length past.granted + 1 < LAST_U32 → IsActor actor
    → MayAsk past request
    → GrantsFit (remember actor past (meta_step rules actor request outcome m).reply)
    (meta_step rules actor request outcome m).meta

-- it holds at the start, where nothing is granted
abbrev pub GrantsFitAtFirst : Type 0
GrantsFitAtFirst = (servers : ℕ) → GrantsFit no_past (opening servers)

pub grants-fit-at-first : GrantsFitAtFirst
unfolding opening slot_at never_granted
grants-fit-at-first servers block slot grant is = absurd (cc)

-- ---- what was told stays told

-- what was given as a lease still was, after one more reply
pub given-more : (actor : ℕ) (past : Past) (reply : MetaReply) (test : GivenLease → Bool)
    → list_any test past.leases ≡ true → list_any test (remember actor past reply).leases ≡ true
unfolding remember with_lease
given-more actor past (Told.Granted g) test was = one (is_of_put g)
  where
    one : (b : Bool) → list_any test (with_grant actor g past b).leases ≡ true
    one true = unfold with_grant with_copy in was
    one false =
        unfold with_grant with_copy with_lease in any_append test past.leases
        (record { lease = g.lease; actor = actor; file = g.block.file } ∷ []) was
given-more actor past (Told.Opened o) test was =
    any_append test past.leases
    (record { lease = o.lease; actor = actor; file = o.file } ∷ []) was
given-more actor past (Told.Ordered condemned turn) test was = was
given-more actor past (Told.Done place) test was = was
given-more actor past _ test was = was

pub given-self : (lease : GivenLease) → is_given lease lease ≡ true
unfolding is_given
given-self lease = grind (arith, nat_tests)

-- the lease that a reply gives was given
pub given-told : (actor : ℕ) (past : Past) (g : Granted) → 0 < g.lease
    → WasGiven (remember actor past (Told.Granted g))
    (record { lease = g.lease; actor = actor; file = g.block.file })
unfolding remember with_grant is_of_put with_lease with_copy
given-told actor past g some =
    subst (λ b. WasGiven (with_grant actor g past b)
    (record { lease = g.lease; actor = actor; file = g.block.file })) (sym leased)
    (any_last (is_given (record { lease = g.lease; actor = actor; file = g.block.file }))
    past.leases (record { lease = g.lease; actor = actor; file = g.block.file })
    (given-self (record { lease = g.lease; actor = actor; file = g.block.file })))
  where
    leased : (g.lease == 0) ≡ false
    leased = grind (arith, nat_tests)

pub fits-more : (actor : ℕ) (past : Past) (m : MetaImage) (reply : MetaReply) → GrantsFit past m
    → GrantsFit (remember actor past reply) m
fits-more actor past m reply fit block slot grant is =
    ⊎_elim (λ r. inl (record {
      numbered = r.numbered;
      given = given-more actor past reply (is_given (lease_of block grant)) r.given;
      closed = r.closed;
    })) (λ p. inr p) (fit block slot grant is)

-- ---- one change

-- what is granted newly fits
abbrev pub NewFits : Past → MetaImage → Change → Type 0
NewFits past m (GrantSlot block slot server actor lease) =
    ((0 < lease) × WasGiven past (record { lease = lease; actor = actor; file = block.file })
    × IsClosedIn m block.file)
    ⊎ ((lease ≡ 0) × Writes m actor block.file)
NewFits past m change = ⊤

pub ends-touches : (change : Change) (block : BlockId) (slot : ℕ) → EndsFile change block.file
    → Touches change block slot
ends-touches (CloseFile file actor command) block slot ends = sym ends
ends-touches (AbortFile file) block slot ends = sym ends
ends-touches (RemoveFile path file) block slot ends = sym ends
ends-touches (AddDirectory path) block slot ends = absurd ends
ends-touches _ block slot ends = absurd ends

no-grant : (grant : Grant) → None ≡ Some grant → ⊥
no-grant grant e = cc

-- a grant that a touched slot has is the one that it is given
fits-touched : (past : Past) (m : MetaImage) (change : Change) (block : BlockId) (slot : ℕ)
    (grant : Grant)
    → NewFits past m change → Touches change block slot
    → (touched change m (slot_at m.slots block slot)).grant ≡ Some grant
    → FitsFile past (apply m change) block grant
unfolding apply grant_slot with_slots sealed_slot never_granted granted_slot failed_record
    ungranted_slot confirmed_slot emptied_slot failed_slot
fits-touched past m (CloseFile file actor command) block slot grant new is at =
    absurd (no-grant grant at)
fits-touched past m (AbortFile file) block slot grant new is at = absurd (no-grant grant at)
fits-touched past m (RemoveFile path file) block slot grant new is at = absurd (no-grant grant at)
fits-touched past m (FailGrant other number) block slot grant new is at =
    one (grant_at m block slot) refl at
  where
    one : (o : Option Grant) → grant_at m block slot ≡ o
        → (failed_record (slot_at m.slots block slot) o).grant ≡ Some grant
        → FitsFile past (apply m (FailGrant other number)) block grant
    one None none some = absurd (no-grant grant (sym none ∙ some))
    one (Some g) is some = absurd (no-grant grant some)
fits-touched past m (GiveUp other number) block slot grant new is at = absurd (no-grant grant at)
fits-touched past m (ConfirmSlot other number) block slot grant new is at =
    absurd (no-grant grant at)
fits-touched past m (EmptySlot other number) block slot grant new is at =
    absurd (no-grant grant at)
fits-touched past m (GrantSlot other number server actor lease) block slot grant new is at =
    let same : record {
      copy = record {
        server = server;
        life = (server_at m.servers server).life;
        version = (slot_at m.slots block slot).next;
      };
      actor = actor;
      lease = lease;
    } ≡ grant = some-is at in
    let by : actor ≡ grant.actor = ap (λ (g : Grant). g.actor) same in
    let under : lease ≡ grant.lease = ap (λ (g : Grant). g.lease) same in
    let file : other.file ≡ block.file = ap (λ (b : BlockId). b.file) is.0 in
    ⊎_elim
    (λ r. inl (record {
      numbered = subst (λ l. 0 < l) under r.0;
      given = subst (WasGiven past) (λ i. record { lease = under i; actor = by i; file = file i })
          r.1;
      closed = subst (IsClosedIn m) file r.2;
    }))
    (λ p. inr (record {
      lease = sym under ∙ p.0;
      writes = subst (λ a. Writes m a block.file) by (subst (Writes m actor) file p.1);
    })) new
  where
    some-is : {a b : Grant} → Some a ≡ Some b → a ≡ b
    some-is e = cc
fits-touched past m (AddDirectory path) block slot grant new is at = absurd is
fits-touched past m _ block slot grant new is at = absurd is

fit-change : (known past : Past) (m : MetaImage) (change : Change) → MayMake past m change
    → Fits m → NewFits known m change → GrantsFit known m → GrantsFit known (apply m change)
fit-change known past m change may f new fit block slot grant is =
    ⊎_elim
    (λ touches. fits-touched known m change block slot grant new touches
    (ap (λ (st : SlotRecord). st.grant) (sym (slot-touched m change block slot touches)) ∙ is))
    (λ apart.
    let at : grant_at m block slot ≡ Some grant = ap (λ (st : SlotRecord). st.grant)
    (sym (slot-untouched m change block slot apart)) ∙ is in
    let stays : EndsFile change block.file → ⊥ = λ ends. apart
    (ends-touches change block slot ends) in
    ⊎_elim
    (λ r. inl (record {
      numbered = r.numbered;
      given = r.given;
      closed = still-closed past m change may f block.file stays r.closed;
    }))
    (λ p. inr (record {
      lease = p.lease;
      writes = still-writes past m change may f grant.actor block.file stays p.writes;
    })) (fit block slot grant at))
    (touches-or change block slot)

-- ---- the changes of a request

abbrev pub GrantsNone : Change → Type 0
GrantsNone (GrantSlot block slot server actor lease) = ⊥
GrantsNone change = ⊤

none-new : (known : Past) (m : MetaImage) (change : Change) → GrantsNone change
    → NewFits known m change
none-new known m (GrantSlot block slot server actor lease) none = absurd none
none-new known m (AddDirectory path) none = tt
none-new known m _ none = tt

fit-all : (known past : Past) (m : MetaImage) (changes : List Change) → AllMake past m changes
    → Keeps past m → Each GrantsNone changes → GrantsFit known m
    → GrantsFit known (apply_all changes m)
unfolding apply_all
fit-all known past m [] may h none fit = fit
fit-all known past m (change ∷ changes) may h none fit =
    fit-all known (told change m past) (apply m change) changes may.1
    (kept past m change may.0 h) none.1
    (fit-change known past m change may.0 h.fits (none-new known m change none.0) fit)

-- a change that does what a request may do grants nothing, where nothing is told of a grant
pub none-granted : (actor : ℕ) (m : MetaImage) (request : MetaRequest) (reply : MetaReply)
    → ((g : Granted) → reply ≡ Told.Granted g → ⊥) → (change : Change)
    → Does actor m request reply change → GrantsNone change
none-granted actor m request reply quiet (GrantSlot block slot server by lease) does =
    quiet does.1.0 does.1.1
none-granted actor m request reply quiet (AddDirectory path) does = tt
none-granted actor m request reply quiet _ does = tt

-- the state before a grant: the tree is the same, and so are versions and the lives of servers
pub record Prepared (m n : MetaImage) : Type 0 where
  pub tree : n.tree ≡ m.tree
  pub servers : n.servers ≡ m.servers

pub prepared : (actor : ℕ) (m : MetaImage) (g : Granted) (first : List Change)
    → Prepares actor g first → Prepared m (apply_all first m)
unfolding apply_all
prepared actor m g first (inl none) =
    subst (λ cs. Prepared m (apply_all cs m)) (sym none.0) (record { tree = refl; servers = refl })
prepared actor m g first (inr (inl fails)) =
    let frame = (losing-frame m (FailGrant g.block g.slot) tt).is in
    subst (λ cs. Prepared m (apply_all cs m)) (sym fails.0) (record {
      tree = ap (λ (n : MetaImage). n.tree) frame;
      servers = ap (λ (n : MetaImage). n.servers) frame;
    })
prepared actor m g first (inr (inr lends)) =
    subst (λ cs. Prepared m (apply_all cs m)) (sym lends.1)
    (unfold apply in record { tree = refl; servers = refl })

-- the slot's next version is the same
pub same-next : (actor : ℕ) (m : MetaImage) (g : Granted) (first : List Change)
    → Prepares actor g first
    → (slot_at (apply_all first m).slots g.block g.slot).next ≡
    (slot_at m.slots g.block g.slot).next
unfolding apply_all
same-next actor m g first (inl none) =
    ap (λ cs. (slot_at (apply_all cs m).slots g.block g.slot).next) none.0
same-next actor m g first (inr (inl fails)) =
    ap (λ cs. (slot_at (apply_all cs m).slots g.block g.slot).next) fails.0
    ∙ ap (λ (st : SlotRecord). st.next)
    (slot-touched m (FailGrant g.block g.slot) g.block g.slot (refl, refl))
    ∙ one (slot_at m.slots g.block g.slot) (grant_at m g.block g.slot)
  where
    one : (state : SlotRecord) (o : Option Grant) → (failed_record state o).next ≡ state.next
    one state None = unfold failed_record in refl
    one state (Some grant) = unfold failed_record failed_slot ungranted_slot in refl
same-next actor m g first (inr (inr lends)) =
    ap (λ cs. (slot_at (apply_all cs m).slots g.block g.slot).next) lends.1
    ∙ ap (λ (st : SlotRecord). st.next) (slot-untouched m
    (GiveLease actor g.block.file lends.0) g.block g.slot (λ e. e))

prepares-none : (actor : ℕ) (g : Granted) (first : List Change) → Prepares actor g first
    → Each GrantsNone first
prepares-none actor g first (inl none) = subst (Each GrantsNone) (sym none.0) tt
prepares-none actor g first (inr (inl fails)) = subst (Each GrantsNone) (sym fails.0) (tt, tt)
prepares-none actor g first (inr (inr lends)) = subst (Each GrantsNone) (sym lends.1) (tt, tt)

-- a grant in the state that decided it is one in the state before it
new-fits : (actor : ℕ) (past : Past) (m n : MetaImage) (g : Granted) (server : ℕ)
    → Prepared m n → 1 ≤ m.next_lease → GrantsIn actor m g.block g.slot g.lease
    → NewFits (remember actor past (Told.Granted g)) n
    (GrantSlot g.block g.slot server actor g.lease)
new-fits actor past m n g server same first (inl put) =
    inr (
      put.0,
      subst (λ tree. IsTrue (is_some (unclosed_file actor g.block.file tree)))
          (sym same.tree) put.1,
    )
new-fits actor past m n g server same first (inr leased) =
    let some : 0 < g.lease = let e = leased.0 in omega arith in
    inl (
      some,
      given-told actor past g some,
      subst (λ tree. IsTrue (is_some (closed_file g.block.file tree))) (sym same.tree) leased.1,
    )

-- what the last change of a grant does
pub granting-does : (actor : ℕ) (m : MetaImage) (request : MetaRequest) (g : Granted)
    (changes : List Change)
    → GivesGrant actor m g changes → Each (Does actor m request (Told.Granted g)) changes
    → GrantsIn actor m g.block g.slot g.lease
granting-does actor m request g changes gives each =
    (each-right (Does actor m request (Told.Granted g)) gives.first
    (GrantSlot g.block g.slot g.server actor g.lease ∷ [])
    (subst (Each (Does actor m request (Told.Granted g))) gives.is each)).0.2

fit-granted : (actor : ℕ) (past : Past) (m : MetaImage) (request : MetaRequest) (g : Granted)
    (changes : List Change)
    → AllMake past m changes → Keeps past m → Each (Does actor m request (Told.Granted g)) changes
    → GivesGrant actor m g changes → GrantsFit past m
    → GrantsFit (remember actor past (Told.Granted g)) (apply_all changes m)
unfolding apply_all
fit-granted actor past m request g changes may h each gives fit =
    let known : Past = remember actor past (Told.Granted g) in
    let last : Change = GrantSlot g.block g.slot g.server actor g.lease in
    let n : MetaImage = apply_all gives.first m in
    let makes = make-split past m gives.first (last ∷ [])
    (subst (AllMake past m) gives.is may) in
    let k : Keeps (told_all gives.first m past) n = kept-all past m gives.first makes.0 h in
    let before : GrantsFit known n = fit-all known past m gives.first makes.0 h
    (prepares-none actor g gives.first gives.prepares)
    (fits-more actor past m (Told.Granted g) fit) in
    subst (λ (o : MetaImage). GrantsFit known o)
    (sym (ap (λ cs. apply_all cs m) gives.is ∙ apply-append m gives.first (last ∷ [])))
    (fit-change known (told_all gives.first m past) n last makes.1.0 k.fits
    (new-fits actor past m n g g.server (prepared actor m g gives.first gives.prepares)
    h.fits.first_lease (granting-does actor m request g changes gives each)) before)

-- ---- the step

pub granted-or : (reply : MetaReply)
    → ((g : Granted) × (reply ≡ Told.Granted g)) ⊎ ((g : Granted) → reply ≡ Told.Granted g → ⊥)
granted-or (Told.Granted g) = inl (g, refl)
granted-or (Told.Done place) = inr (λ g e. cc)
granted-or _ = inr (λ g e. cc)

fit-makes : (actor : ℕ) (past : Past) (m : MetaImage) (request : MetaRequest) (reply : MetaReply)
    (changes : List Change)
    → AllMake past m changes → Keeps past m → Each (Does actor m request reply) changes
    → Provides actor m changes reply → GrantsFit past m
    → GrantsFit (remember actor past reply) (apply_all changes m)
fit-makes actor past m request reply changes may h each gives fit =
    ⊎_elim
    (λ is. subst (λ r. GrantsFit (remember actor past r) (apply_all changes m)) (sym is.1)
    (fit-granted actor past m request is.0 changes may h
    (subst (λ r. Each (Does actor m request r) changes) is.1 each)
    (subst (Provides actor m changes) is.1 gives) fit))
    (λ quiet. fit-all (remember actor past reply) past m changes may h
    (each_weaker (Does actor m request reply) GrantsNone
    (none-granted actor m request reply quiet) changes each) (fits-more actor past m reply fit))
    (granted-or reply)

turned-fit : (past : Past) (m : MetaImage) → GrantsFit past m → GrantsFit past (next_turn m)
unfolding next_turn
turned-fit past m fit block slot grant is =
    ⊎_elim
    (λ r. inl (record { numbered = r.numbered; given = r.given; closed = r.closed }))
    (λ p. inr (record { lease = p.lease; writes = p.writes })) (fit block slot grant is)

pub grants-stay-fit : GrantsStayFit
unfolding meta_step
grants-stay-fit rules actor request outcome past m sound fit left who may =
    let h = keeps-of past m sound in
    let fine = decide-fine rules actor past m request sound left who may in
    step-does (λ served. GrantsFit (remember actor past served.reply) served.meta) actor m request
    (decide rules actor m request) outcome (dropped_at actor m.dropped)
    (decide-does rules actor m request h.fits)
    (λ reply _. unfold stays in fits-more actor past m reply fit)
    (λ changes reply is _ each gives.
    let makes : Fine actor past m (Makes changes reply) = subst (Fine actor past m) is fine in
    turned-fit (remember actor past reply) (apply_all changes m)
    (fit-makes actor past m request reply changes makes.0 h each gives fit))
