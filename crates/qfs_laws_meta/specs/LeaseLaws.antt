-- Leases hold: every change keeps it. For the law `stays_sound`.
use Rattle.qfs_base.specs.Table.{Each}
use Rattle.qfs_base.specs.declared.change.Change.{Change}
use Rattle.qfs_base.specs.declared.change.Change.TheVariants.{AbortFile, AddDirectory, CloseFile}
use Rattle.qfs_base.specs.declared.change.Change.TheVariants.{CondemnStray, ConfirmSlot, EmptySlot}
use Rattle.qfs_base.specs.declared.change.Change.TheVariants.{EndLease, FailGrant, GiveLease}
use Rattle.qfs_base.specs.declared.change.Change.TheVariants.{GiveUp, GrantSlot, MarkOrdered}
use Rattle.qfs_base.specs.declared.change.Change.TheVariants.{RemoveFile, ServerDown, ServerLeaves}
use Rattle.qfs_base.specs.declared.change.Change.TheVariants.{ServerSleeps, ServerUp, TakeCondemned}
use Rattle.qfs_base.specs.declared.chunk.BlockId.{BlockId}
use Rattle.qfs_base.specs.declared.image.Lease.{Lease}
use Rattle.qfs_base.specs.declared.image.MetaImage.{MetaImage}
use Rattle.qfs_model_meta.specs.Apply.{add_file, apply, bring_up, condemn_stray, finish_lease}
use Rattle.qfs_model_meta.specs.Apply.{grant_slot, with_slots, write_entry}
use Rattle.qfs_model_meta.specs.Leases.{end_lease, give_lease, is_lease}
use Rattle.qfs_model_meta.specs.Past.{GivenLease, ListedCopy, Past, SlotCopy, with_copy}
use Rattle.qfs_model_meta.specs.Servers.{server_asleep, server_at, server_down, server_leaving}
use Rattle.qfs_model_meta.specs.Sound.{KeepsListed, LeasesHold, LivesRise, is_lease_of, same_lease}
use Rattle.qfs_model_meta.specs.Sound.{same_lease_number}
use Rattle.std.proofs.Common.{[], ap, arith, false, not, refl, subst, sym, true, ℕ, ◌+◌, ◌<◌, ◌==◌}
use Rattle.std.proofs.Common.{◌∷◌, ◌≡◌, ◌≤◌}
use Rattle.std.proofs.lemmas.Bool.{and_parts, eqb-true}
use Rattle.std.proofs.lemmas.Bool.Decides.{nat_tests}
use Rattle.std.specs.List.{list_any}
use Rattle.std.specs.Prelude.{IsTrue, ⊤}
use Rattle.qfs_laws_meta.specs.LeaseChanges.{OnFile, keeps-confirmed, keeps-emptied, keeps-failed}
use Rattle.qfs_laws_meta.specs.LeaseChanges.{keeps-forgotten, keeps-given, keeps-given_up}
use Rattle.qfs_laws_meta.specs.LeaseChanges.{keeps-granted, keeps-marked, keeps-risen, keeps-sealed}
use Rattle.qfs_laws_meta.specs.LeaseChanges.{keeps-server, keeps-stray, keeps-swept}
use Rattle.qfs_laws_meta.specs.LeaseChanges.{keeps-unblocked, on_file, was_given}
use Rattle.qfs_laws_slots.specs.Changes.{MayMake, told}
use Rattle.qfs_laws_slots.specs.Granted.{Granted, granted-has}
use Rattle.qfs_laws_slots.specs.Losing.{losing-frame, stray-frame}
use Rattle.qfs_laws_slots.specs.Slots.{Bare}
use Rattle.qfs_laws_tables.specs.Distinct.{distinct-push}
use Rattle.qfs_base.specs.EachLaws.{each_filter, each_weaker}
use Rattle.qfs_laws_tables.specs.EachRow.{each_both, each_push}
use Rattle.qfs_laws_tables.specs.SomeRow.{any_append, any_each, any_last}

-- what is bare where a change needs it
abbrev pub NeedsBare : MetaImage → Change → Type 0
NeedsBare m (CloseFile file actor command) = Bare m file
NeedsBare m (AbortFile file) = Bare m file
NeedsBare m change = ⊤

-- leases that stay, or of which some ended
leases-stay : (past : Past) (m n : MetaImage) → n.next_lease ≡ m.next_lease
    → Each (λ lease. IsTrue (list_any (was_given lease) past.leases)) n.leases
    → ((l : ListedCopy) → Each (OnFile l) m.leases → KeepsListed m l → KeepsListed n l) → LeasesHold
    past m → LeasesHold past n
leases-stay past m n next given keeps h = record {
  once = h.once;
  numbers = each_weaker _ _ (λ (lease : GivenLease) (l : lease.lease < m.next_lease). less _ _ _ l
      next) past.leases h.numbers;
  given = given;
  listed = h.listed;
  kept =
      each_weaker (λ (l : ListedCopy). IsTrue (list_any (is_lease_of l) past.leases) × KeepsListed m
      l) (KeepsListed n) (λ l b. keeps l (on_file past l m.leases h.once h.given b.0) b.1)
      past.listed
      (each_both (λ (l : ListedCopy). IsTrue (list_any (is_lease_of l) past.leases)) (KeepsListed m)
      past.listed h.listed h.kept);
}
  where
    less : (a b c : ℕ) → a < b → c ≡ b → a < c
    less a b c p q = omega arith

own-given : (number actor file until : ℕ)
    → same_lease (record { lease = number; actor = actor; file = file })
    (record { lease = number; actor = actor; file = file; until = until }) ≡ true
unfolding same_lease
own-given number actor file until = grind (arith, nat_tests)

pub lease-of : (l : ListedCopy) (lease : GivenLease) → is_lease_of l lease ≡ true
    → lease.lease ≡ l.lease
unfolding is_lease_of
lease-of l lease is = eqb-true _ _ (and_parts _ _ is).0

ended : (number : ℕ) (m : MetaImage) (past : Past)
    → Each (λ lease. IsTrue (list_any (was_given lease) past.leases)) m.leases
    → Each (λ lease. IsTrue (list_any (was_given lease) past.leases)) (finish_lease number m).leases
unfolding finish_lease end_lease
ended number m past given = each_filter _ (λ lease. not (is_lease number lease)) m.leases given

granted-next : (block : BlockId) (slot server actor lease : ℕ) (m : MetaImage)
    → (grant_slot block slot server actor lease m).next_lease ≡ m.next_lease
unfolding grant_slot with_slots
granted-next block slot server actor lease m = refl

granted-leases : (block : BlockId) (slot server actor lease : ℕ) (m : MetaImage) (past : Past)
    → Each (λ l. IsTrue (list_any (was_given l) past.leases)) m.leases
    → Each (λ l. IsTrue (list_any (was_given l) past.leases))
    (grant_slot block slot server actor lease m).leases
unfolding grant_slot with_slots
granted-leases block slot server actor lease m past given = given

-- a lease is given
given-holds : (past : Past) (actor file until : ℕ) (m : MetaImage) → LeasesHold past m
    → LeasesHold (told (GiveLease actor file until) m past) (apply m (GiveLease actor file until))
unfolding apply give_lease same_lease_number
given-holds past actor file until m h =
    let new : GivenLease = record { lease = m.next_lease; actor = actor; file = file } in
    let live : Lease = record { lease = m.next_lease; actor = actor; file = file; until = until } in
    record {
      once = distinct-push same_lease_number past.leases new h.once
          (each_weaker _ _ (λ (lease : GivenLease) (l : lease.lease < m.next_lease). apart _ _ l)
          past.leases h.numbers);
      numbers = each_push _ past.leases new
          (each_weaker _ _ (λ (lease : GivenLease) (l : lease.lease < m.next_lease). later _ _ l)
          past.leases h.numbers) (omega arith);
      given = each_push _ m.leases live
          (each_weaker _ _ (λ lease a. any_append (was_given lease) past.leases (new ∷ []) a)
          m.leases h.given) (any_last (was_given live) past.leases new
          (own-given m.next_lease actor file until));
      listed = each_weaker _ _ (λ l a. any_append (is_lease_of l) past.leases (new ∷ []) a)
          past.listed h.listed;
      kept =
          each_weaker (λ (l : ListedCopy). IsTrue (list_any (is_lease_of l) past.leases)
          × KeepsListed m l) _ (λ l b. keeps-given actor file until m l (below l b.0) b.1)
          past.listed
          (each_both (λ (l : ListedCopy). IsTrue (list_any (is_lease_of l) past.leases))
          (KeepsListed m) past.listed h.listed h.kept);
    }
  where
    apart : (a b : ℕ) → a < b → (a == b) ≡ false
    apart a b l = grind (arith, nat_tests)

    later : (a b : ℕ) → a < b → a < b + 1
    later a b l = omega arith

    below : (l : ListedCopy) → list_any (is_lease_of l) past.leases ≡ true → l.lease < m.next_lease
    below l any =
        any_each (l.lease < m.next_lease) (λ (lease : GivenLease). lease.lease < m.next_lease)
        (is_lease_of l) (λ lease under is. subst (λ k. k < m.next_lease) (lease-of l lease is)
        under) past.leases h.numbers any

pub kept-leases : (past : Past) (m : MetaImage) (change : Change) → MayMake past m change
    → NeedsBare m change → LivesRise past m
    → Each (λ (l : ListedCopy). Granted past l.of_slot.block l.of_slot.slot l.of_slot.copy)
    past.listed
    → LeasesHold past m → LeasesHold (told change m past) (apply m change)
unfolding apply write_entry add_file with_slots with_copy server_down server_leaving server_asleep
    finish_lease bring_up
kept-leases past m (GiveLease actor file until) may bare lives known h =
    given-holds past actor file until m h
kept-leases past m (EndLease lease) may bare lives known h =
    leases-stay past m (finish_lease lease m) refl (ended lease m past h.given)
    (λ l on. keeps-unblocked lease m l) h
kept-leases past m (CloseFile file actor command) may bare lives known h =
    leases-stay past m _ refl h.given (λ l on. keeps-sealed file m l bare) h
kept-leases past m (AbortFile file) may bare lives known h =
    leases-stay past m _ refl h.given (λ l on. keeps-forgotten file m l bare) h
kept-leases past m (RemoveFile path file) may bare lives known h =
    leases-stay past m _ refl h.given (λ l on. keeps-forgotten file m l may.bare) h
kept-leases past m (GrantSlot block slot server actor lease) may bare lives known h =
    let k = leases-stay past m (grant_slot block slot server actor lease m)
    (granted-next block slot server actor lease m)
    (granted-leases block slot server actor lease m past h.given)
    (λ l on. keeps-granted block slot server actor lease m l) h in
    record { once = k.once; numbers = k.numbers; given = k.given; listed = k.listed; kept = k.kept }
kept-leases past m (FailGrant block slot) may bare lives known h =
    let frame = (losing-frame m (FailGrant block slot) tt).is in
    leases-stay past m (apply m (FailGrant block slot)) (ap (λ (n : MetaImage). n.next_lease) frame)
    (subst (λ (n : MetaImage). Each (λ lease. IsTrue (list_any (was_given lease) past.leases))
    n.leases) (sym frame) h.given) (λ l on. keeps-failed block slot m _ l on) h
kept-leases past m (GiveUp block slot) may bare lives known h =
    let frame = (losing-frame m (GiveUp block slot) tt).is in
    leases-stay past m (apply m (GiveUp block slot)) (ap (λ (n : MetaImage). n.next_lease) frame)
    (subst (λ (n : MetaImage). Each (λ lease. IsTrue (list_any (was_given lease) past.leases))
    n.leases) (sym frame) h.given) (λ l on. keeps-given_up block slot m _ l on) h
kept-leases past m (ConfirmSlot block slot) may bare lives known h =
    let frame = (losing-frame m (ConfirmSlot block slot) tt).is in
    leases-stay past m (apply m (ConfirmSlot block slot))
    (ap (λ (n : MetaImage). n.next_lease) frame)
    (subst (λ (n : MetaImage). Each (λ lease. IsTrue (list_any (was_given lease) past.leases))
    n.leases) (sym frame) h.given) (λ l on. keeps-confirmed block slot m l on) h
kept-leases past m (EmptySlot block slot) may bare lives known h =
    let frame = (losing-frame m (EmptySlot block slot) tt).is in
    leases-stay past m (apply m (EmptySlot block slot)) (ap (λ (n : MetaImage). n.next_lease) frame)
    (subst (λ (n : MetaImage). Each (λ lease. IsTrue (list_any (was_given lease) past.leases))
    n.leases) (sym frame) h.given) (λ l on. keeps-emptied block slot m l on) h
kept-leases past m (MarkOrdered number) may bare lives known h =
    leases-stay past m _ refl h.given (λ l on. keeps-marked number m l may) h
kept-leases past m (TakeCondemned number) may bare lives known h =
    leases-stay past m _ refl h.given (λ l on. keeps-swept number m l) h
kept-leases past m (CondemnStray server life key) may bare lives known h =
    let frame = stray-frame server life key m in
    leases-stay past m (condemn_stray server life key m)
    (ap (λ (n : MetaImage). n.next_lease) frame)
    (subst (λ (n : MetaImage). Each (λ lease. IsTrue (list_any (was_given lease) past.leases))
    n.leases) (sym frame) h.given) (λ l on. keeps-stray server life key m l) h
kept-leases past m (ServerUp server life) may bare lives known h = record {
  once = h.once;
  numbers = h.numbers;
  given = h.given;
  listed = h.listed;
  kept =
      each_weaker (λ (l : ListedCopy). Granted past l.of_slot.block l.of_slot.slot l.of_slot.copy
      × KeepsListed m l) _
      (λ l b. keeps-risen server life m l may.0 may.1
      (granted-has (λ (g : SlotCopy). g.copy.life ≤ (server_at m.servers g.copy.server).life) past
      l.of_slot.block l.of_slot.slot l.of_slot.copy lives b.0) b.1) past.listed
      (each_both (λ (l : ListedCopy). Granted past l.of_slot.block l.of_slot.slot l.of_slot.copy)
      (KeepsListed m) past.listed known h.kept);
}
kept-leases past m (ServerDown server) may bare lives known h =
    leases-stay past m _ refl h.given (λ l on. keeps-server server_down (λ v. refl) server m l may)
    h
kept-leases past m (ServerLeaves server) may bare lives known h =
    leases-stay past m _ refl h.given
    (λ l on. keeps-server server_leaving (λ v. refl) server m l may) h
kept-leases past m (ServerSleeps server until) may bare lives known h =
    leases-stay past m _ refl h.given
    (λ l on. keeps-server (server_asleep until) (λ v. refl) server m l may) h
kept-leases past m (AddDirectory path) may bare lives known h =
    record { once = h.once; numbers = h.numbers; given = h.given; listed = h.listed; kept = h.kept }
kept-leases past m _ may bare lives known h =
    record { once = h.once; numbers = h.numbers; given = h.given; listed = h.listed; kept = h.kept }
