-- Copies that were ordered deleted stay let go: every change keeps it. For the law `stays_sound`.
use Rattle.qfs_base.specs.Table.{Each}
use Rattle.qfs_base.specs.declared.change.Change.{Change}
use Rattle.qfs_base.specs.declared.change.Change.TheVariants.{AbortFile, AddDirectory, CloseFile}
use Rattle.qfs_base.specs.declared.change.Change.TheVariants.{CondemnStray, ConfirmSlot, EmptySlot}
use Rattle.qfs_base.specs.declared.change.Change.TheVariants.{EndLease, FailGrant, GiveLease}
use Rattle.qfs_base.specs.declared.change.Change.TheVariants.{GiveUp, GrantSlot, RemoveFile}
use Rattle.qfs_base.specs.declared.chunk.BlockId.{BlockId}
use Rattle.qfs_base.specs.declared.chunk.Copy.{Copy}
use Rattle.qfs_base.specs.declared.image.MetaImage.{MetaImage}
use Rattle.qfs_base.specs.declared.image.SlotRecord.{SlotRecord}
use Rattle.qfs_base.specs.declared.image.SlotRow.{SlotRow}
use Rattle.qfs_base.specs.declared.reply.Condemned.{Condemned}
use Rattle.qfs_model_meta.specs.Apply.{add_file, apply, bring_up, finish_lease, grant_slot}
use Rattle.qfs_model_meta.specs.Apply.{with_slots, write_entry}
use Rattle.qfs_model_meta.specs.Leases.{end_lease, give_lease, is_lease, is_live_lease}
use Rattle.qfs_model_meta.specs.Past.{ListedCopy, Past, is_copy, with_copy}
use Rattle.qfs_model_meta.specs.Slots.{change_slot, forget_file, granted_copy, granted_slot}
use Rattle.qfs_model_meta.specs.Slots.{never_granted, seal_file, sealed_slot, slot_at}
use Rattle.qfs_model_meta.specs.Sound.{IsBehind, IsLetGo}
use Rattle.qfs_model_meta.specs.TreeRows.{file_stands}
use Rattle.std.proofs.Common.{List, None, Option, Some, ap, arith, not, refl, subst, sym, true, ℕ}
use Rattle.std.proofs.Common.{◌<◌, ◌≡◌, ◌≢◌}
use Rattle.std.specs.Option.{option_to_list}
use Rattle.std.specs.Prelude.{IsTrue}
use Rattle.qfs_laws_slots.specs.Changes.{MayGrant, MayMake, told}
use Rattle.qfs_laws_slots.specs.Granted.{Granted, granted-has}
use Rattle.qfs_laws_slots.specs.Losing.{IsLosing, losing-frame, losing-slots, stray-frame}
use Rattle.qfs_laws_slots.specs.Losses.{Loses, current_in, loses-current, loses-pending, pending_in}
use Rattle.qfs_laws_slots.specs.Slots.{forgotten-cases, placed-cases, sealed-cases}
use Rattle.qfs_base.specs.EachLaws.{each_weaker}
use Rattle.qfs_laws_tables.specs.EachRow.{each_both}
use Rattle.qfs_laws_tables.specs.SomeRow.{any_of_filter}
use Rattle.qfs_laws_slots.specs.Lists.{live-before}

-- no copy of a slot is this one
abbrev pub Differs : Copy → BlockId → ℕ → Copy → Type 0
Differs copy block slot other = other ≡ copy → ⊥

-- the slot neither has the copy nor a grant of it
pub record IsFree (copy : Copy) (block : BlockId) (slot : ℕ) (slots : List SlotRow) : Type 0 where
  pub current : Each (Differs copy block slot) (current_in slots block slot)
  pub pending : Each (Differs copy block slot) (pending_in slots block slot)

not-some : (copy : Copy) (block : BlockId) (slot : ℕ) (o : Option Copy) → o ≢ Some copy
    → Each (Differs copy block slot) (option_to_list o)
not-some copy block slot None h = tt
not-some copy block slot (Some other) h = ((λ e. h (ap Some e)), tt)

some-not : (copy : Copy) (block : BlockId) (slot : ℕ) (o : Option Copy)
    → Each (Differs copy block slot) (option_to_list o) → o ≢ Some copy
some-not copy block slot None h e = cc
some-not copy block slot (Some other) h e = h.0 (let q : other ≡ copy = cc in q)

abbrev pub NoLease : Past → MetaImage → Condemned → Type 0
NoLease past m c =
    Each (λ (listed : ListedCopy). IsTrue (is_live_lease listed.lease m.leases) → is_copy c.block
    c.slot c.copy listed.of_slot ≢ true) past.listed

pub free-of : (past : Past) (m : MetaImage) (c : Condemned) → IsLetGo past m c
    → IsFree c.copy c.block c.slot m.slots
free-of past m c go =
    record {
      current = not-some c.copy c.block c.slot _ go.not_current;
      pending = not-some c.copy
          c.block c.slot _ go.not_granted;
    }

pub let_go : (past : Past) (m : MetaImage) (c : Condemned) → IsFree c.copy c.block c.slot m.slots
    → NoLease past m c → IsLetGo past m c
let_go past m c free none =
    record {
      not_current = some-not c.copy c.block c.slot _ free.current;
      not_granted = some-not
          c.copy c.block c.slot _ free.pending;
      not_listed = none;
    }

free-lost : (copy : Copy) (block : BlockId) (slot : ℕ) (change : SlotRecord → SlotRecord)
    → Loses change → (other : BlockId) (number : ℕ) (rows : List SlotRow)
    → IsFree copy block slot rows → IsFree copy block slot (change_slot other number change rows)
free-lost copy block slot change loses other number rows free = record {
  current = loses-current (Differs copy) change loses other block number slot rows free.current
      free.pending;
  pending = loses-pending (Differs copy) change loses other block number slot rows free.current
      free.pending;
}

free-sealed : (copy : Copy) (block : BlockId) (slot file : ℕ) (rows : List SlotRow)
    → IsFree copy block slot rows → IsFree copy block slot (seal_file file rows)
unfolding sealed_slot granted_copy never_granted
free-sealed copy block slot file rows free = record {
  current = sealed-cases (λ st. Each (Differs copy block slot) (option_to_list st.current)) file
      block slot rows (λ _. tt) (λ _. free.pending) (λ _. free.current);
  pending = sealed-cases (λ st. Each (Differs copy block slot)
      (option_to_list (granted_copy st.grant))) file block slot rows (λ _. tt) (λ _. tt)
      (λ _. free.pending);
}

free-forgotten : (copy : Copy) (block : BlockId) (slot file : ℕ) (rows : List SlotRow)
    → IsFree copy block slot rows → IsFree copy block slot (forget_file file rows)
unfolding granted_copy never_granted
free-forgotten copy block slot file rows free = record {
  current = forgotten-cases (λ st. Each (Differs copy block slot) (option_to_list st.current)) file
      block slot rows (λ _. tt) (λ _. free.current);
  pending = forgotten-cases (λ st. Each (Differs copy block slot)
      (option_to_list (granted_copy st.grant))) file block slot rows (λ _. tt) (λ _. free.pending);
}

-- a new grant has a version that no ordered copy has
free-granted : (past : Past) (block : BlockId) (slot server actor lease : ℕ) (m : MetaImage)
    (c : Condemned)
    → MayGrant m block slot server actor lease → Each (IsBehind m) past.granted
    → Granted past c.block c.slot c.copy
    → IsFree c.copy c.block c.slot m.slots → IsFree c.copy c.block c.slot
    (grant_slot block slot server actor lease m).slots
unfolding grant_slot with_slots granted_slot granted_copy
free-granted past block slot server actor lease m c may behind was free = record {
  current =
      placed-cases (λ st. Each (Differs c.copy c.block c.slot) (option_to_list st.current)) block
      c.block slot c.slot _ m.slots
      (λ b s. subst (λ (st : SlotRecord). Each (Differs c.copy c.block c.slot)
      (option_to_list st.current)) (sym (λ i. slot_at m.slots (b i) (s i))) free.current)
      (λ _. free.current);
  pending =
      placed-cases (λ st. Each (Differs c.copy c.block c.slot)
      (option_to_list (granted_copy st.grant))) block c.block slot c.slot _ m.slots
      (λ b s. (
        (λ e.
            let under = (granted-has (IsBehind m) past c.block c.slot c.copy behind was
            (subst (λ (k : BlockId). IsTrue (file_stands k.file m.tree)) b may.stands)).1 in
            let at : (slot_at m.slots block slot).next ≡ (slot_at m.slots c.block c.slot).next =
            (λ i. (slot_at m.slots (b i) (s i)).next) in
            let v : (slot_at m.slots block slot).next ≡ c.copy.version = ap
            (λ (k : Copy). k.version) e in
            omega arith),
        tt,
      ))
      (λ _. free.pending);
}

-- leases that are live after a change were live before
ended-lease : (number own : ℕ) (m : MetaImage)
    → IsTrue (is_live_lease own (finish_lease number m).leases)
    → IsTrue (is_live_lease own m.leases)
unfolding finish_lease end_lease is_live_lease
ended-lease number own m live =
    any_of_filter (is_lease own) (λ lease. not (is_lease number lease)) m.leases live

given-lease : (actor file until own : ℕ) (m : MetaImage) → own < m.next_lease
    → IsTrue (is_live_lease own (give_lease m.next_lease actor file until m.leases))
    → IsTrue (is_live_lease own m.leases)
unfolding is_live_lease
given-lease actor file until own m older live =
    live-before actor file until m.next_lease own m.leases older live

-- the slots that a change leaves keep a copy let go
frees : (past : Past) (m n : MetaImage) → n.leases ≡ m.leases
    → ((c : Condemned) → Granted past c.block c.slot c.copy → IsFree c.copy c.block c.slot m.slots →
    IsFree c.copy c.block c.slot n.slots)
    → Each (λ (c : Condemned). Granted past c.block c.slot c.copy) past.ordered → Each
    (IsLetGo past m) past.ordered → Each (IsLetGo past n) past.ordered
frees past m n leases slots known each =
    each_weaker (λ (c : Condemned). Granted past c.block c.slot c.copy × IsLetGo past m c)
    (IsLetGo past n)
    (λ c b. let_go past n c (slots c b.0 (free-of past m c b.1))
    (subst (λ ls. Each (λ (listed : ListedCopy). IsTrue (is_live_lease listed.lease ls) → is_copy
    c.block c.slot c.copy listed.of_slot ≢ true) past.listed) (sym leases) b.1.not_listed))
    past.ordered (each_both (λ (c : Condemned). Granted past c.block c.slot c.copy) (IsLetGo past m)
    past.ordered known each)

frees-losing : (past : Past) (m : MetaImage) (change : Change) → IsLosing change
    → Each (λ (c : Condemned). Granted past c.block c.slot c.copy) past.ordered
    → Each (IsLetGo past m) past.ordered → Each (IsLetGo past (apply m change)) past.ordered
frees-losing past m change is known h =
    frees past m (apply m change) (ap (λ (n : MetaImage). n.leases) (losing-frame m change is).is)
    (λ c _ free. losing-slots (IsFree c.copy c.block c.slot)
    (λ change loses block slot rows. free-lost c.copy c.block c.slot change loses block slot rows) m
    change is free) known h

granted-same : (block : BlockId) (slot server actor lease : ℕ) (m : MetaImage)
    → (grant_slot block slot server actor lease m).leases ≡ m.leases
unfolding grant_slot with_slots
granted-same block slot server actor lease m = refl

ended-slots : (lease : ℕ) (m : MetaImage) (c : Condemned)
    → (slot_at m.slots c.block c.slot).current ≢ Some c.copy
    → (slot_at (finish_lease lease m).slots c.block c.slot).current ≢ Some c.copy
unfolding finish_lease
ended-slots lease m c h = h

ended-grants : (lease : ℕ) (m : MetaImage) (c : Condemned)
    → granted_copy (slot_at m.slots c.block c.slot).grant ≢ Some c.copy
    → granted_copy (slot_at (finish_lease lease m).slots c.block c.slot).grant ≢ Some c.copy
unfolding finish_lease
ended-grants lease m c h = h

pub kept-let_go : (past : Past) (m : MetaImage) (change : Change) → MayMake past m change
    → Each (IsBehind m) past.granted
    → Each (λ (c : Condemned). Granted past c.block c.slot c.copy) past.ordered
    → Each (λ (l : ListedCopy). l.lease < m.next_lease) past.listed
    → Each (IsLetGo past m) past.ordered → Each (IsLetGo (told change m past) (apply m change))
    past.ordered
unfolding apply write_entry add_file with_slots bring_up with_copy
kept-let_go past m (GrantSlot block slot server actor lease) may behind known older h =
    each_weaker (IsLetGo past (grant_slot block slot server actor lease m)) _
    (λ c go. record {
      not_current = go.not_current;
      not_granted = go.not_granted;
      not_listed =
          go.not_listed;
    }) past.ordered
    (frees past m (grant_slot block slot server actor lease m)
    (granted-same block slot server actor lease m)
    (λ c was free. free-granted past block slot server actor lease m c may behind was free) known h)
kept-let_go past m (FailGrant block slot) may behind known older h =
    frees-losing past m (FailGrant block slot) tt known h
kept-let_go past m (GiveUp block slot) may behind known older h =
    frees-losing past m (GiveUp block slot) tt known h
kept-let_go past m (ConfirmSlot block slot) may behind known older h =
    frees-losing past m (ConfirmSlot block slot) tt known h
kept-let_go past m (EmptySlot block slot) may behind known older h =
    frees-losing past m (EmptySlot block slot) tt known h
kept-let_go past m (CloseFile file actor command) may behind known older h =
    frees past m (apply m (CloseFile file actor command)) refl
    (λ c _ free. free-sealed c.copy c.block c.slot file m.slots free) known h
kept-let_go past m (AbortFile file) may behind known older h =
    frees past m (apply m (AbortFile file)) refl
    (λ c _ free. free-forgotten c.copy c.block c.slot file m.slots free) known h
kept-let_go past m (RemoveFile path file) may behind known older h =
    frees past m (apply m (RemoveFile path file)) refl
    (λ c _ free. free-forgotten c.copy c.block c.slot file m.slots free) known h
kept-let_go past m (CondemnStray server life key) may behind known older h =
    subst (λ (n : MetaImage). Each (IsLetGo past n) past.ordered)
    (sym (stray-frame server life key m))
    (each_weaker (IsLetGo past m) _
    (λ c go. record {
      not_current = go.not_current;
      not_granted = go.not_granted;
      not_listed =
          go.not_listed;
    }) past.ordered h)
kept-let_go past m (EndLease lease) may behind known older h =
    each_weaker (IsLetGo past m) _ (λ c go. record {
      not_current = ended-slots lease m c go.not_current;
      not_granted = ended-grants lease m c
          go.not_granted;
      not_listed = each_weaker _ _
          (λ l none live. none (ended-lease lease l.lease m live)) past.listed go.not_listed;
    })
    past.ordered h
kept-let_go past m (GiveLease actor file until) may behind known older h =
    each_weaker (IsLetGo past m) _ (λ c go. record {
      not_current = go.not_current;
      not_granted = go.not_granted;
      not_listed =
          each_weaker (λ (l : ListedCopy). (l.lease < m.next_lease)
          × (IsTrue (is_live_lease l.lease m.leases) → is_copy c.block c.slot c.copy l.of_slot ≢
          true)) _ (λ l b live. b.1 (given-lease actor file until l.lease m b.0 live)) past.listed
          (each_both (λ (l : ListedCopy). l.lease < m.next_lease) _ past.listed older
          go.not_listed);
    }) past.ordered h
kept-let_go past m (AddDirectory path) may behind known older h =
    each_weaker (IsLetGo past m) _ (λ c go. record
    { not_current = go.not_current; not_granted = go.not_granted; not_listed = go.not_listed })
    past.ordered h
kept-let_go past m _ may behind known older h =
    each_weaker (IsLetGo past m) _ (λ c go. record
    { not_current = go.not_current; not_granted = go.not_granted; not_listed = go.not_listed })
    past.ordered h
