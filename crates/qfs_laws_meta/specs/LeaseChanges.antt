-- Each lease keeps what it lists: every change keeps it. For the law `stays_sound`.
use Rattle.qfs_base.specs.Table.{Each, without}
use Rattle.qfs_base.specs.declared.chunk.BlockId.{BlockId}
use Rattle.qfs_base.specs.declared.chunk.ChunkKey.{ChunkKey}
use Rattle.qfs_base.specs.declared.chunk.Copy.{Copy}
use Rattle.qfs_base.specs.declared.image.CondemnedRow.{CondemnedRow}
use Rattle.qfs_base.specs.declared.image.Grant.{Grant}
use Rattle.qfs_base.specs.declared.image.Lease.{Lease}
use Rattle.qfs_base.specs.declared.image.MetaImage.{MetaImage}
use Rattle.qfs_base.specs.declared.image.ServerView.{ServerView}
use Rattle.qfs_base.specs.declared.image.SlotRecord.{SlotRecord}
use Rattle.qfs_model_meta.specs.Apply.{bring_up, change_record, condemn_stray, condemn_unknown}
use Rattle.qfs_model_meta.specs.Apply.{confirm_slot, empty_slot, fail_grant, finish_lease, give_up}
use Rattle.qfs_model_meta.specs.Apply.{grant_slot, with_slots}
use Rattle.qfs_model_meta.specs.Condemned.{condemn_any, condemned_row, forget_if_risen, is_copy_of}
use Rattle.qfs_model_meta.specs.Condemned.{is_numbered, is_on_server, mark_ordered, sweep, unblock}
use Rattle.qfs_model_meta.specs.Condemned.{unblock_all}
use Rattle.qfs_model_meta.specs.Grammar.{IsServer}
use Rattle.qfs_model_meta.specs.Leases.{end_lease, give_lease, is_lease, is_live_lease, leases_on}
use Rattle.qfs_model_meta.specs.Past.{GivenLease, ListedCopy, Past}
use Rattle.qfs_model_meta.specs.Servers.{change_server, is_live, server_at, server_up}
use Rattle.qfs_model_meta.specs.Slots.{change_slot, confirmed_slot, emptied_slot, failed_slot}
use Rattle.qfs_model_meta.specs.Slots.{forget_file, granted_copy, granted_slot, never_granted}
use Rattle.qfs_model_meta.specs.Slots.{same_copy, seal_file, slot_at, ungranted_slot}
use Rattle.qfs_model_meta.specs.Sound.{KeepsListed, is_blocked_copy, is_lease_of, same_lease}
use Rattle.qfs_model_meta.specs.Sound.{same_lease_number}
use Rattle.std.proofs.Common.{Bool, List, None, Option, Some, [], ap, arith, cond, false, filter}
use Rattle.std.proofs.Common.{inl, inr, length, map, nat_eq, nat_lt, not, refl, subst, sym, true, ℕ}
use Rattle.std.proofs.Common.{⊎_elim, ◌&&◌, ◌+◌, ◌<◌, ◌==◌, ◌||◌, ◌∙◌, ◌∷◌, ◌≡◌, ◌≤◌, ◌⊎◌}
use Rattle.std.proofs.lemmas.Bool.{and_from, and_parts, eq-eqb, eqb-true, ne_eqb, not-true}
use Rattle.std.proofs.lemmas.Bool.{true≢false}
use Rattle.std.proofs.lemmas.Bool.Decides.{nat_tests}
use Rattle.std.specs.List.{IsDistinct, list_any}
use Rattle.std.specs.Prelude.{IsTrue}
use Rattle.qfs_laws_slots.specs.Condemning.{condemn-cases, condemn_any-cases, condemn_any-frame}
use Rattle.qfs_laws_slots.specs.RowKeys.{is_lease-is, own-lease, own-number}
use Rattle.qfs_laws_slots.specs.Servers.{server-cases}
use Rattle.qfs_laws_slots.specs.Slots.{forgotten-cases, placed-cases, same_block-self, same_copy-is}
use Rattle.qfs_laws_slots.specs.Slots.{same_copy-self, sealed-cases, slot-cases}
use Rattle.qfs_laws_tables.specs.Distinct.{distinct-both}
use Rattle.qfs_base.specs.EachLaws.{each_weaker}
use Rattle.qfs_laws_tables.specs.EachRow.{each_passes}
use Rattle.qfs_laws_tables.specs.SomeRow.{any_append, any_change_given, any_each, any_filter}
use Rattle.qfs_laws_tables.specs.SomeRow.{any_last, any_map, any_of_filter}
use Rattle.qfs_laws_slots.specs.Lists.{live-before}

-- ---- a live lease is on the file of what it lists

-- a lease was given as it is
abbrev pub was_given : Lease → GivenLease → Bool
was_given lease given = same_lease given lease

abbrev pub OnFile : ListedCopy → Lease → Type 0
OnFile l lease = lease.lease ≡ l.lease → lease.file ≡ l.of_slot.block.file

pub lease-file : (past : Past) (l : ListedCopy) (lease : Lease)
    → IsDistinct same_lease_number past.leases
    → IsTrue (list_any (was_given lease) past.leases) → IsTrue
    (list_any (is_lease_of l) past.leases) → OnFile l lease
unfolding same_lease_number same_lease is_lease_of
lease-file past l lease once given listed same =
    distinct-both (lease.file ≡ l.of_slot.block.file) same_lease_number (was_given lease)
    (is_lease_of l)
    (λ x y a b. eq-eqb _ _ (sym (number x a) ∙ same ∙ sym (eqb-true _ _ (and_parts _ _ b).0)))
    (λ x y b a. eq-eqb _ _ (eqb-true _ _ (and_parts _ _ b).0 ∙ sym same ∙ number y a))
    (λ x a b. sym (eqb-true _ _ (and_parts _ _ a).1) ∙ eqb-true _ _ (and_parts _ _ b).1)
    past.leases once given listed
  where
    number : (x : GivenLease) → was_given lease x ≡ true → lease.lease ≡ x.lease
    number x a = sym (eqb-true _ _ (and_parts _ _ (and_parts _ _ a).0).0)

pub on_file : (past : Past) (l : ListedCopy) (leases : List Lease)
    → IsDistinct same_lease_number past.leases
    → Each (λ lease. IsTrue (list_any (was_given lease) past.leases)) leases → IsTrue
    (list_any (is_lease_of l) past.leases) → Each (OnFile l) leases
on_file past l leases once given listed =
    each_weaker _ _ (λ lease g. lease-file past l lease once g listed) leases given

-- a live lease blocks what is condemned of its file
pub blocks : (l : ListedCopy) (leases : List Lease) → Each (OnFile l) leases
    → IsTrue (is_live_lease l.lease leases)
    → list_any (nat_eq l.lease) (leases_on l.of_slot.block.file leases) ≡ true
unfolding is_live_lease leases_on
blocks l [] on live = absurd (cc)
blocks l (lease ∷ leases) on live =
    let file : ℕ = l.of_slot.block.file in
    let rest : List Lease = filter (λ (lease : Lease). lease.file == file) leases in
    (elim (is_lease l.lease lease) as
    (λ b. is_lease l.lease lease ≡ b → (b || list_any (is_lease l.lease) leases) ≡ true
    → list_any (nat_eq l.lease) (map (λ (lease : Lease). lease.lease)
    (cond (lease.file == file) (lease ∷ rest) rest)) ≡ true) [
      | true ↦ λ is _.
          let same : lease.lease ≡ l.lease = own-lease l.lease lease is in
          let here : (lease.file == file) ≡ true = eq-eqb _ _ (on.0 same) in
          let own : nat_eq l.lease lease.lease ≡ true = eq-eqb _ _ (sym same) in
          subst (λ b. list_any (nat_eq l.lease)
          (map (λ (lease : Lease). lease.lease) (cond b (lease ∷ rest) rest)) ≡ true) (sym here)
          (ap (λ b. b || list_any (nat_eq l.lease) (map (λ (lease : Lease). lease.lease) rest)) own)
      | false ↦ λ is live.
          let later = blocks l leases on.1 live in
          elim (lease.file == file) as (λ b. list_any (nat_eq l.lease)
          (map (λ (lease : Lease). lease.lease) (cond b (lease ∷ rest) rest)) ≡ true) [
            | true ↦ elim (nat_eq l.lease lease.lease) as
                (λ b. (b || list_any (nat_eq l.lease)
                (map (λ (lease : Lease). lease.lease) rest)) ≡ true) [ true ↦ refl | false ↦ later ]
            | false ↦ later
          ]
    ]) refl live

-- ---- what is condemned

pub condemned-keeps : (test : CondemnedRow → Bool) (block : BlockId) (slot : ℕ) (m : MetaImage)
    (found : Option Copy)
    → list_any test m.condemned ≡ true
    → list_any test (condemn_any block slot m found).condemned ≡ true
condemned-keeps test block slot m found any =
    condemn_any-cases (λ n. list_any test n.condemned ≡ true) block slot m found (λ _. any)
    (λ _ _ _. any) (λ copy _ _. any_append test m.condemned
    (condemned_row m.next_condemned block slot copy m.leases ∷ []) any)

pub condemned-blocks : (block : BlockId) (slot lease : ℕ) (m : MetaImage) (found : Option Copy)
    (copy : Copy)
    → found ≡ Some copy → is_live m.servers copy ≡ true
    → list_any (nat_eq lease) (leases_on block.file m.leases) ≡ true
    → list_any (is_blocked_copy lease (record { block = block; slot = slot; copy = copy }))
    (condemn_any block slot m found).condemned ≡ true
unfolding is_blocked_copy condemned_row is_copy_of
condemned-blocks block slot lease m found copy is live blocked =
    condemn_any-cases (λ n. list_any
    (is_blocked_copy lease (record { block = block; slot = slot; copy = copy })) n.condemned ≡ true)
    block slot m found
    (λ none. absurd (let e : Some copy ≡ None = sym is ∙ none in cc))
    (λ other at dead. absurd (let e : other ≡ copy =
    (let q : Some other ≡ Some copy = sym at ∙ is in cc) in true≢false
    (sym live ∙ sym (ap (is_live m.servers) e) ∙ dead)))
    (λ other at _.
    let e : other ≡ copy = (let q : Some other ≡ Some copy = sym at ∙ is in cc) in
    any_last _ m.condemned (condemned_row m.next_condemned block slot other m.leases)
    (let b = same_block-self block in
    let s : (slot == slot) ≡ true = eq-eqb slot slot refl in
    let c : same_copy other copy ≡ true = ap (λ k. same_copy k copy) e ∙ same_copy-self copy in
    and_from _ _ (and_from _ _ (and_from _ _ (and_from _ _ b s) c) refl) blocked))

-- ---- slots lose copies

-- what a change of one slot leaves of its current copy: it stays, or it is condemned
abbrev pub Covers : MetaImage → List CondemnedRow → BlockId → ℕ → (SlotRecord → SlotRecord) → Type 0
Covers m rows block slot change =
    (copy : Copy) (lease : ℕ) → (slot_at m.slots block slot).current ≡ Some copy → is_live m.servers
    copy ≡ true → list_any (nat_eq lease) (leases_on block.file m.leases) ≡ true
    → ((change (slot_at m.slots block slot)).current ≡ Some copy) ⊎ IsTrue
    (list_any (is_blocked_copy lease (record { block = block; slot = slot; copy = copy })) rows)

pub keeps-lost : (change : SlotRecord → SlotRecord) (block : BlockId) (slot : ℕ) (m : MetaImage)
    (rows : List CondemnedRow)
    → ((copy : Copy) → (change never_granted).current ≡ Some copy → ⊥)
    → ((test : CondemnedRow → Bool) → list_any test m.condemned ≡ true → list_any test rows ≡ true)
    → Covers m rows block slot change
    → (l : ListedCopy) → Each (OnFile l) m.leases → KeepsListed m l → KeepsListed
    (record m { slots = change_slot block slot change m.slots; condemned = rows }) l
keeps-lost change block slot m rows none more covers l on keeps live =
    let lives = and_parts _ _ live in
    ⊎_elim
    (λ current. slot-cases (λ state. (state.current ≡ Some l.of_slot.copy) ⊎ IsTrue
    (list_any (is_blocked_copy l.lease l.of_slot) rows)) block l.of_slot.block slot l.of_slot.slot
    change m.slots
    (λ either. ⊎_elim (λ c. absurd (none l.of_slot.copy c)) (λ b. inr b) either)
    (λ b s.
    let at : slot_at m.slots block slot ≡ slot_at m.slots l.of_slot.block l.of_slot.slot =
    (λ i. slot_at m.slots (b i) (s i)) in
    let blocked : list_any (nat_eq l.lease) (leases_on block.file m.leases) ≡ true = subst
    (λ (k : BlockId). list_any (nat_eq l.lease) (leases_on k.file m.leases) ≡ true) (sym b)
    (blocks l m.leases on lives.0) in
    ⊎_elim
    (λ c. inl (ap (λ st. (change st).current) (sym at) ∙ c))
    (λ c. inr (subst (λ k. IsTrue (list_any
    (is_blocked_copy l.lease (record { block = k; slot = l.of_slot.slot; copy = l.of_slot.copy }))
    rows)) b (subst (λ k. IsTrue (list_any
    (is_blocked_copy l.lease (record { block = block; slot = k; copy = l.of_slot.copy })) rows)) s
    c)))
    (covers l.of_slot.copy l.lease (ap (λ (st : SlotRecord). st.current) at ∙ current) lives.1
    blocked))
    (λ _. inl current))
    (λ b. inr (more _ b))
    (keeps live)

-- ---- the other changes

-- a live lease is none that ended
pub differs : (number own : ℕ) (leases : List Lease)
    → list_any (is_lease own) (without (is_lease number) leases) ≡ true → (own == number) ≡ false
differs number own leases any =
    any_each ((own == number) ≡ false) (λ (lease : Lease). not (is_lease number lease) ≡ true)
    (is_lease own)
    (λ lease away is. ap (λ k. k == number) (sym (own-lease own lease is)) ∙ sym
    (is_lease-is number lease) ∙ not-true _ away)
    (without (is_lease number) leases)
    (each_passes (λ (lease : Lease). not (is_lease number lease)) leases) any

still : (number : ℕ) (l : ListedCopy) → (l.lease == number) ≡ false → (rows : List CondemnedRow)
    → list_any (is_blocked_copy l.lease l.of_slot) rows ≡ true
    → list_any (is_blocked_copy l.lease l.of_slot) (unblock_all number rows) ≡ true
unfolding unblock_all unblock is_blocked_copy is_copy_of
still number l differ rows any =
    any_map (is_blocked_copy l.lease l.of_slot) (is_blocked_copy l.lease l.of_slot) (unblock number)
    (λ row blocked.
    let p = and_parts _ _ blocked in
    and_from _ _ p.0 (any_filter (nat_eq l.lease) (λ blocker. not (blocker == number))
    (λ blocker is. let e : l.lease ≡ blocker = eqb-true _ _ is in ap (λ k. not (k == number))
    (sym e) ∙ ap not differ) row.blockers p.1))
    rows any

pub keeps-unblocked : (number : ℕ) (m : MetaImage) (l : ListedCopy) → KeepsListed m l
    → KeepsListed (finish_lease number m) l
unfolding finish_lease end_lease is_live_lease
keeps-unblocked number m l keeps live =
    let lives = and_parts _ _ live in
    let before : IsTrue (is_live_lease l.lease m.leases) = any_of_filter (is_lease l.lease)
    (λ (lease : Lease). not (is_lease number lease)) m.leases lives.0 in
    ⊎_elim (λ c. inl c)
    (λ b. inr (still number l (differs number l.lease m.leases lives.0) m.condemned b))
    (keeps (and_from _ _ before lives.1))

pub keeps-marked : (number : ℕ) (m : MetaImage) (l : ListedCopy)
    → Each (λ (row : CondemnedRow). row.condemned.number ≡ number → row.blockers ≡ []) m.condemned
    → KeepsListed m l → KeepsListed (record m { condemned = mark_ordered number m.condemned }) l
unfolding mark_ordered is_blocked_copy
keeps-marked number m l free keeps live =
    ⊎_elim (λ c. inl c)
    (λ b. inr (any_change_given (λ (row : CondemnedRow). row.condemned.number ≡ number →
    row.blockers ≡ []) (is_blocked_copy l.lease l.of_slot) (is_numbered number)
    (λ (row : CondemnedRow). record row { ordered = true })
    (λ row none blocked is. let e : row.blockers ≡ [] = none (own-number number row is) in let t =
    (and_parts _ _ blocked).1 in absurd (true≢false (sym t ∙ ap (list_any (nat_eq l.lease)) e)))
    m.condemned free b))
    (keeps live)

pub keeps-swept : (number : ℕ) (m : MetaImage) (l : ListedCopy) → KeepsListed m l
    → KeepsListed (record m { condemned = sweep number m.condemned }) l
unfolding sweep is_blocked_copy
keeps-swept number m l keeps live =
    ⊎_elim (λ c. inl c)
    (λ b. inr (any_filter (is_blocked_copy l.lease l.of_slot)
    (λ (row : CondemnedRow). not (is_numbered number row && row.ordered))
    (λ row blocked. one (is_numbered number row) row.ordered
    (and_parts _ _ (and_parts _ _ blocked).0).1) m.condemned b))
    (keeps live)
  where
    one : (a b : Bool) → not b ≡ true → not (a && b) ≡ true
    one true b h = h
    one false b h = refl

unforgotten : (server : ℕ) (m : MetaImage) (l : ListedCopy)
    → ((slot_at m.slots l.of_slot.block l.of_slot.slot).current ≡ Some l.of_slot.copy) ⊎ IsTrue
    (list_any (is_blocked_copy l.lease l.of_slot) m.condemned)
    → ((slot_at m.slots l.of_slot.block l.of_slot.slot).current ≡ Some l.of_slot.copy) ⊎ IsTrue
    (list_any (is_blocked_copy l.lease l.of_slot) (forget_if_risen server m.condemned false))
unfolding forget_if_risen
unforgotten server m l h = h

elsewhere : (server : ℕ) (rows : List CondemnedRow) (l : ListedCopy)
    → (server ≡ l.of_slot.copy.server → ⊥)
    → list_any (is_blocked_copy l.lease l.of_slot) rows ≡ true → (b : Bool)
    → list_any (is_blocked_copy l.lease l.of_slot) (forget_if_risen server rows b) ≡ true
unfolding forget_if_risen is_blocked_copy is_copy_of is_on_server
elsewhere server rows l differs any false = any
elsewhere server rows l differs any true =
    any_filter (is_blocked_copy l.lease l.of_slot)
    (λ (row : CondemnedRow). not (row.condemned.copy.server == server))
    (λ row blocked.
    let same : row.condemned.copy ≡ l.of_slot.copy = same_copy-is _ _
    (and_parts _ _ (and_parts _ _ (and_parts _ _ blocked).0).0).1 in
    ap not (ne_eqb _ _ (λ e. differs (sym e ∙ ap (λ (k : Copy). k.server) same)))) rows any

-- a server's life rises
pub keeps-risen : (server life : ℕ) (m : MetaImage) (l : ListedCopy)
    → IsServer (length m.servers) server → (server_at m.servers server).life ≤ life
    → l.of_slot.copy.life ≤ (server_at m.servers l.of_slot.copy.server).life → KeepsListed m l →
    KeepsListed (bring_up server life m) l
unfolding bring_up is_live server_up
keeps-risen server life m l is rises below keeps live =
    let lives = and_parts _ _ live in
    let c : Copy = l.of_slot.copy in
    server-cases (λ v. (c.life == v.life) ≡ true →
    ((slot_at m.slots l.of_slot.block l.of_slot.slot).current ≡ Some c) ⊎ IsTrue
    (list_any (is_blocked_copy l.lease l.of_slot)
    (forget_if_risen server m.condemned (nat_lt (server_at m.servers server).life life))))
    (server_up life) m.servers server c.server is
    (λ same at.
    let e : c.life ≡ life = eqb-true _ _ at in
    let f : (server_at m.servers server).life ≡ (server_at m.servers c.server).life = ap
    (λ k. (server_at m.servers k).life) same in
    let stays : nat_lt (server_at m.servers server).life life ≡ false = grind (arith, nat_tests) in
    subst (λ b. ((slot_at m.slots l.of_slot.block l.of_slot.slot).current ≡ Some c) ⊎ IsTrue
    (list_any (is_blocked_copy l.lease l.of_slot) (forget_if_risen server m.condemned b)))
    (sym stays)
    (unforgotten server m l (keeps (and_from _ _ lives.0 (eq-eqb _ _ (omega arith))))))
    (λ differs at. ⊎_elim (λ c. inl c) (λ b. inr (elsewhere server m.condemned l differs b _))
    (keeps (and_from _ _ lives.0 at)))
    lives.1

-- a change of a server that keeps its life
pub keeps-server : (change : ServerView → ServerView)
    → ((v : ServerView) → (change v).life ≡ v.life) → (server : ℕ) (m : MetaImage) (l : ListedCopy)
    → IsServer (length m.servers) server
    → KeepsListed m l → KeepsListed (record m { servers = change_server change m.servers server }) l
unfolding is_live
keeps-server change same server m l is keeps live =
    let lives = and_parts _ _ live in
    let c : Copy = l.of_slot.copy in
    server-cases (λ v. (c.life == v.life) ≡ true →
    ((slot_at m.slots l.of_slot.block l.of_slot.slot).current ≡ Some c) ⊎ IsTrue
    (list_any (is_blocked_copy l.lease l.of_slot) m.condemned))
    change m.servers server c.server is
    (λ _ at. keeps (and_from _ _ lives.0 (ap (λ k. c.life == k) (sym (same _)) ∙ at)))
    (λ _ at. keeps (and_from _ _ lives.0 at))
    lives.1

pub keeps-given : (actor file until : ℕ) (m : MetaImage) (l : ListedCopy) → l.lease < m.next_lease
    → KeepsListed m l
    → KeepsListed (record m {
      leases = give_lease m.next_lease actor file until m.leases;
      next_lease = m.next_lease + 1;
    }) l
unfolding is_live_lease
keeps-given actor file until m l older keeps live =
    let lives = and_parts _ _ live in
    keeps (and_from _ _ (live-before actor file until m.next_lease l.lease m.leases older lives.0)
    lives.1)

pub keeps-granted : (block : BlockId) (slot server actor lease : ℕ) (m : MetaImage) (l : ListedCopy)
    → KeepsListed m l → KeepsListed (grant_slot block slot server actor lease m) l
unfolding grant_slot with_slots granted_slot
keeps-granted block slot server actor lease m l keeps live =
    ⊎_elim
    (λ c. inl (placed-cases (λ st. st.current ≡ Some l.of_slot.copy) block l.of_slot.block slot
    l.of_slot.slot _ m.slots
    (λ b s. (λ i. (slot_at m.slots (b i) (s i)).current) ∙ c) (λ _. c)))
    (λ b. inr b)
    (keeps live)

-- a file without current copies is sealed, or forgotten
pub keeps-sealed : (file : ℕ) (m : MetaImage) (l : ListedCopy)
    → ((block : BlockId) (slot : ℕ) → block.file ≡ file →
    (slot_at m.slots block slot).current ≡ None)
    → KeepsListed m l → KeepsListed (record m { slots = seal_file file m.slots }) l
keeps-sealed file m l bare keeps live =
    ⊎_elim
    (λ c. sealed-cases (λ st. (st.current ≡ Some l.of_slot.copy) ⊎ IsTrue
    (list_any (is_blocked_copy l.lease l.of_slot) m.condemned)) file l.of_slot.block l.of_slot.slot
    m.slots
    (λ at. inl (ap (λ (st : SlotRecord). st.current) (sym at) ∙ c))
    (λ own. absurd (let n = bare l.of_slot.block l.of_slot.slot (eqb-true _ _ own) in let e : Some
    l.of_slot.copy ≡ None = sym c ∙ n in cc))
    (λ _. inl c))
    (λ b. inr b)
    (keeps live)

pub keeps-forgotten : (file : ℕ) (m : MetaImage) (l : ListedCopy)
    → ((block : BlockId) (slot : ℕ) → block.file ≡ file →
    (slot_at m.slots block slot).current ≡ None)
    → KeepsListed m l → KeepsListed (record m { slots = forget_file file m.slots }) l
keeps-forgotten file m l bare keeps live =
    ⊎_elim
    (λ c. forgotten-cases (λ st. (st.current ≡ Some l.of_slot.copy) ⊎ IsTrue
    (list_any (is_blocked_copy l.lease l.of_slot) m.condemned)) file l.of_slot.block l.of_slot.slot
    m.slots
    (λ own. absurd (let n = bare l.of_slot.block l.of_slot.slot (eqb-true _ _ own) in let e : Some
    l.of_slot.copy ≡ None = sym c ∙ n in cc))
    (λ _. inl c))
    (λ b. inr b)
    (keeps live)

-- ---- slots lose copies, change by change

keeps-condemned : (change : SlotRecord → SlotRecord) (block : BlockId) (slot : ℕ) (m : MetaImage)
    (found : Option Copy)
    → ((copy : Copy) → (change never_granted).current ≡ Some copy → ⊥)
    → ((copy : Copy) → (slot_at m.slots block slot).current ≡ Some copy →
    ((change (slot_at m.slots block slot)).current ≡ Some copy) ⊎ (found ≡ Some copy))
    → (l : ListedCopy) → Each (OnFile l) m.leases → KeepsListed m l
    → KeepsListed (record (condemn_any block slot m found)
    { slots = change_slot block slot change (condemn_any block slot m found).slots }) l
keeps-condemned change block slot m found none stays l on keeps =
    subst (λ (k : MetaImage). KeepsListed
    (record k { slots = change_slot block slot change k.slots }) l)
    (sym (condemn_any-frame block slot m found).is)
    (keeps-lost change block slot m (condemn_any block slot m found).condemned none
    (λ test any. condemned-keeps test block slot m found any)
    (λ copy lease current live blocked. ⊎_elim (λ c. inl c)
    (λ is. inr (condemned-blocks block slot lease m found copy is live blocked))
    (stays copy current))
    l on keeps)

pub keeps-given_up : (block : BlockId) (slot : ℕ) (m : MetaImage) (found : Option Grant)
    (l : ListedCopy)
    → Each (OnFile l) m.leases → KeepsListed m l → KeepsListed (give_up block slot m found) l
unfolding give_up change_record with_slots condemn_any ungranted_slot never_granted
keeps-given_up block slot m None l on keeps = keeps
keeps-given_up block slot m (Some grant) l on keeps =
    keeps-condemned ungranted_slot block slot m (Some grant.copy) (λ copy e. cc) (λ copy c. inl c) l
    on keeps

given_up-leases : (block : BlockId) (slot : ℕ) (m : MetaImage) (grant : Grant)
    → (give_up block slot m (Some grant)).leases ≡ m.leases
unfolding give_up change_record with_slots
given_up-leases block slot m grant =
    condemn-cases (λ n. n.leases ≡ m.leases) block slot grant.copy m (λ _. refl) (λ _. refl)

pub keeps-failed : (block : BlockId) (slot : ℕ) (m : MetaImage) (found : Option Grant)
    (l : ListedCopy)
    → Each (OnFile l) m.leases → KeepsListed m l → KeepsListed (fail_grant block slot m found) l
unfolding fail_grant change_record with_slots failed_slot never_granted
keeps-failed block slot m None l on keeps = keeps
keeps-failed block slot m (Some grant) l on keeps =
    keeps-lost (failed_slot grant.copy.server) block slot (give_up block slot m (Some grant))
    (give_up block slot m (Some grant)).condemned
    (λ copy e. cc) (λ test any. any) (λ copy lease c _ _. inl c) l
    (subst (Each (OnFile l)) (sym (given_up-leases block slot m grant)) on)
    (keeps-given_up block slot m (Some grant) l on keeps)

pub keeps-confirmed : (block : BlockId) (slot : ℕ) (m : MetaImage) (l : ListedCopy)
    → Each (OnFile l) m.leases → KeepsListed m l
    → KeepsListed (confirm_slot block slot m (slot_at m.slots block slot)) l
unfolding confirm_slot change_record with_slots confirmed_slot never_granted granted_copy
keeps-confirmed block slot m l on keeps =
    keeps-condemned confirmed_slot block slot m (slot_at m.slots block slot).current (λ copy e. cc)
    (λ copy c. inr c) l on keeps

pub keeps-emptied : (block : BlockId) (slot : ℕ) (m : MetaImage) (l : ListedCopy)
    → Each (OnFile l) m.leases → KeepsListed m l
    → KeepsListed (empty_slot block slot m (slot_at m.slots block slot)) l
unfolding empty_slot change_record with_slots emptied_slot never_granted
keeps-emptied block slot m l on keeps =
    let state : SlotRecord = slot_at m.slots block slot in
    let n : MetaImage = condemn_any block slot m state.current in
    let o : MetaImage = condemn_any block slot n (granted_copy state.grant) in
    let frame : o ≡ record m { condemned = o.condemned; next_condemned = o.next_condemned } =
    (condemn_any-frame block slot n (granted_copy state.grant)).is
    ∙ ap (λ (k : MetaImage). record k
    { condemned = o.condemned; next_condemned = o.next_condemned })
    (condemn_any-frame block slot m state.current).is in
    subst (λ (k : MetaImage). KeepsListed
    (record k { slots = change_slot block slot emptied_slot k.slots }) l) (sym frame)
    (keeps-lost emptied_slot block slot m o.condemned (λ copy e. cc)
    (λ test any. condemned-keeps test block slot n (granted_copy state.grant)
    (condemned-keeps test block slot m state.current any))
    (λ copy lease current live blocked. inr
    (condemned-keeps _ block slot n (granted_copy state.grant)
    (condemned-blocks block slot lease m state.current copy current live blocked)))
    l on keeps)

pub keeps-stray : (server life : ℕ) (key : ChunkKey) (m : MetaImage) (l : ListedCopy)
    → KeepsListed m l → KeepsListed (condemn_stray server life key m) l
unfolding condemn_stray condemn_unknown
keeps-stray server life key m l keeps = one _
  where
    copy : Copy
    copy = record { server = server; life = life; version = key.version }

    one : (b : Bool) → KeepsListed (condemn_unknown key.block key.slot copy m b) l
    one true = keeps
    one false =
        condemn-cases (λ n. KeepsListed n l) key.block key.slot copy m (λ _. keeps)
        (λ _ live. ⊎_elim (λ c. inl c) (λ b. inr (any_append _ m.condemned _ b)) (keeps live))
