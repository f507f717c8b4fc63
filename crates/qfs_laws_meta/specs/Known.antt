-- Each version of a slot is granted once, and each copy that is known was granted: what losses of
-- copies keep of this. For the law `stays_sound`.
use Rattle.qfs_base.specs.Table.{Each}
use Rattle.qfs_base.specs.declared.chunk.BlockId.{BlockId}
use Rattle.qfs_base.specs.declared.chunk.Copy.{Copy}
use Rattle.qfs_base.specs.declared.image.CondemnedRow.{CondemnedRow}
use Rattle.qfs_base.specs.declared.image.MetaImage.{MetaImage}
use Rattle.qfs_base.specs.declared.image.SlotRecord.{SlotRecord}
use Rattle.qfs_base.specs.declared.image.SlotRow.{SlotRow}
use Rattle.qfs_base.specs.declared.reply.Condemned.{Condemned}
use Rattle.qfs_model_meta.specs.Condemned.{condemn_any}
use Rattle.qfs_model_meta.specs.Past.{ListedCopy, Past, SlotCopy, same_version}
use Rattle.qfs_model_meta.specs.Slots.{change_slot, change_state, granted_copy, is_slot}
use Rattle.qfs_model_meta.specs.Slots.{never_granted, same_block, slot_at}
use Rattle.qfs_model_meta.specs.Sound.{IsBehind}
use Rattle.qfs_model_meta.specs.TreeRows.{file_stands}
use Rattle.std.proofs.Common.{List, Option, ap, arith, false, find, length, refl, subst, sym, true}
use Rattle.std.proofs.Common.{ℕ, ◌+◌, ◌<◌, ◌∙◌, ◌≡◌, ◌≤◌}
use Rattle.std.proofs.lemmas.Bool.Decides.{nat_tests}
use Rattle.std.specs.List.{IsDistinct}
use Rattle.std.specs.Option.{option_to_list}
use Rattle.std.specs.Prelude.{IsTrue, is_some}
use Rattle.qfs_laws_slots.specs.Condemning.{condemn_any-frame, condemned-count, condemned-each}
use Rattle.qfs_laws_slots.specs.Condemning.{condemned_count, count_in, same_slot}
use Rattle.qfs_laws_slots.specs.Granted.{Granted}
use Rattle.qfs_laws_slots.specs.Losses.{Loses, current_in, loses-current, loses-pending, pending_in}
use Rattle.qfs_laws_slots.specs.Slots.{has-changed, same_block-self, slot-cases}
use Rattle.qfs_base.specs.EachLaws.{each_weaker}
use Rattle.qfs_laws_tables.specs.EachRow.{each_change}
use Rattle.qfs_laws_tables.specs.Sums.{weigh_if}

-- ---- what is known of the slots

abbrev pub held : ℕ → SlotRecord → ℕ
held v state = count_in v state.current + count_in v (granted_copy state.grant)

-- each version is that of at most one copy that is known of a slot
abbrev pub Once : List SlotRow → List CondemnedRow → Type 0
Once slots condemned =
    (v : ℕ) (block : BlockId) (slot : ℕ) → held v (slot_at slots block slot) + condemned_count v
    block slot condemned ≤ 1

abbrev pub RowGranted : Past → CondemnedRow → Type 0
RowGranted past row = Granted past row.condemned.block row.condemned.slot row.condemned.copy

-- no slot has had more versions than copies were granted in all
abbrev pub Counted : Past → List SlotRow → Type 0
Counted past slots = Each (λ (row : SlotRow). row.state.next ≤ length past.granted + 1) slots

pub record Knows (past : Past) (m : MetaImage) : Type 0 where
  pub once : IsDistinct same_version past.granted
  pub of_files : Each (λ (granted : SlotCopy). granted.block.file < m.next_file) past.granted
  pub behind : Each (IsBehind m) past.granted
  pub counted : Counted past m.slots
  pub different : Once m.slots m.condemned
  pub current : (block : BlockId) (slot : ℕ)
      → Each (Granted past block slot) (current_in m.slots block slot)
  pub pending : (block : BlockId) (slot : ℕ)
      → Each (Granted past block slot) (pending_in m.slots block slot)
  pub condemned : Each (RowGranted past) m.condemned
  pub ordered : Each (λ (c : Condemned). Granted past c.block c.slot c.copy) past.ordered
  pub listed : Each (λ (l : ListedCopy). Granted past l.of_slot.block l.of_slot.slot l.of_slot.copy)
      past.listed

-- ---- a slot loses copies, which are condemned

symmetric : (block other : BlockId) (slot number : ℕ)
    → is_slot block slot (record {
      block = other;
      slot = number;
      state = never_granted;
    }) ≡ same_slot block slot other number
unfolding is_slot same_block
symmetric block other slot number = grind (arith, nat_tests)

same_slot-self : (block other : BlockId) (slot number : ℕ) → block ≡ other → slot ≡ number
    → same_slot block slot other number ≡ true
same_slot-self block other slot number b s =
    subst (λ k. same_slot block slot k number ≡ true) b
    (subst (λ k. same_slot block slot block k ≡ true) s
    (let own = same_block-self block in grind (arith, nat_tests)))

pub nothing : (v : ℕ) → held v never_granted ≡ 0
unfolding never_granted granted_copy
nothing v = refl

pub loses-once : (change : SlotRecord → SlotRecord) (block : BlockId) (slot : ℕ) (m n : MetaImage)
    (loss : ℕ → ℕ)
    → Once m.slots m.condemned
    → ((v : ℕ) (other : BlockId) (number : ℕ) → condemned_count v other number n.condemned ≤
    condemned_count v other number m.condemned + weigh_if (same_slot block slot other number)
    (loss v))
    → ((v : ℕ) → held v (change (slot_at m.slots block slot)) + loss v ≤ held v
    (slot_at m.slots block slot))
    → Once (change_slot block slot change m.slots) n.condemned
loses-once change block slot m n loss once condemned lost v other number =
    slot-cases (λ state. held v state + condemned_count v other number n.condemned ≤ 1) block other
    slot number change m.slots
    (λ p. let e : held v never_granted ≡ 0 = nothing v in omega arith)
    (λ b s.
    let at : slot_at m.slots block slot ≡ slot_at m.slots other number =
    (λ i. slot_at m.slots (b i) (s i)) in
    let l = lost v in
    let e = ap (held v) at in
    let f = ap (λ state. held v (change state)) at in
    let c : condemned_count v other number n.condemned ≤ condemned_count v other number m.condemned
    + weigh_if true (loss v) = subst
    (λ t. condemned_count v other number n.condemned ≤ condemned_count v other number
    m.condemned + weigh_if t (loss v)) (same_slot-self block other slot number b s)
    (condemned v other number) in
    let o = once v other number in
    omega arith)
    (λ off.
    let c : condemned_count v other number n.condemned ≤ condemned_count v other number m.condemned
    + weigh_if false (loss v) = subst
    (λ t. condemned_count v other number n.condemned ≤ condemned_count v other number
    m.condemned + weigh_if t (loss v)) (sym (symmetric block other slot number) ∙ off)
    (condemned v other number) in
    let o = once v other number in
    omega arith)

pub loses-behind : (change : SlotRecord → SlotRecord) → Loses change
    → (block : BlockId) (slot : ℕ) (m n : MetaImage)
    → n.tree ≡ m.tree → n.slots ≡ change_slot block slot change m.slots → (g : SlotCopy) → IsBehind
    m g → IsBehind n g
unfolding change_slot
loses-behind change loses block slot m n trees slots g behind stands =
    let before = behind (subst (λ t. IsTrue (file_stands g.block.file t)) trees stands) in (
      subst (λ rows. IsTrue (is_some (find (is_slot g.block g.slot) rows))) (sym slots)
          (subst (λ b. IsTrue b) (sym (has-changed (is_slot block slot) change g.block g.slot
          m.slots)) before.0),
      subst (λ rows. g.copy.version < (slot_at rows g.block g.slot).next) (sym slots)
          (slot-cases (λ state. g.copy.version < state.next) block g.block slot g.slot change
          m.slots
          (λ p. let e = loses.next never_granted in omega arith)
          (λ _ _. let e = loses.next (slot_at m.slots g.block g.slot) in let h = before.1 in omega
          arith)
          (λ _. before.1)),
    )

lost-counted : (past : Past) (change : SlotRecord → SlotRecord) → Loses change
    → (block : BlockId) (slot : ℕ) (rows : List SlotRow) → Counted past rows
    → Counted past (change_slot block slot change rows)
unfolding change_slot change_state
lost-counted past change loses block slot rows each =
    each_change _ _ (is_slot block slot) (change_state change)
    (λ row _ l. let e = loses.next row.state in omega arith) (λ row _ l. l) rows each

-- a slot loses copies, those that are gone are condemned where they are live
pub knows-lost : (past : Past) (change : SlotRecord → SlotRecord) → Loses change
    → (block : BlockId) (slot : ℕ) (m n : MetaImage) (loss : ℕ → ℕ)
    → ((v : ℕ) (other : BlockId) (number : ℕ) → condemned_count v other number n.condemned ≤
    condemned_count v other number m.condemned + weigh_if (same_slot block slot other number)
    (loss v))
    → ((v : ℕ) → held v (change (slot_at m.slots block slot)) + loss v ≤ held v
    (slot_at m.slots block slot))
    → Each (RowGranted past) n.condemned
    → Knows past m → Knows past (record m {
      slots = change_slot block slot change m.slots;
      condemned = n.condemned;
      next_condemned =
          n.next_condemned;
    })
knows-lost past change loses block slot m n loss condemned lost granted h = record {
  once = h.once;
  of_files = h.of_files;
  behind = each_weaker _ _ (loses-behind change loses block slot m
      (record m {
        slots = change_slot block slot change m.slots;
        condemned = n.condemned;
        next_condemned = n.next_condemned;
      }) refl refl) past.granted h.behind;
  counted = lost-counted past change loses block slot m.slots h.counted;
  different = loses-once change block slot m n loss h.different condemned lost;
  current = λ other number. loses-current (Granted past) change loses block other slot number
      m.slots (h.current other number) (h.pending other number);
  pending = λ other number. loses-pending (Granted past) change loses block other slot number
      m.slots (h.current other number) (h.pending other number);
  condemned = granted;
  ordered = h.ordered;
  listed = h.listed;
}

-- a copy of a slot that is condemned, while the slot loses it
pub knows-condemned : (past : Past) (change : SlotRecord → SlotRecord) → Loses change
    → (block : BlockId) (slot : ℕ) (m : MetaImage) (found : Option Copy)
    → Each (Granted past block slot) (option_to_list found)
    → ((v : ℕ) → held v (change (slot_at m.slots block slot)) + count_in v found ≤ held v
    (slot_at m.slots block slot))
    → Knows past m → Knows past (record (condemn_any block slot m found)
    { slots = change_slot block slot change (condemn_any block slot m found).slots })
knows-condemned past change loses block slot m found granted lost h =
    let n : MetaImage = condemn_any block slot m found in
    let frame = (condemn_any-frame block slot m found).is in
    subst (λ (k : MetaImage). Knows past
    (record k { slots = change_slot block slot change k.slots })) (sym frame)
    (knows-lost past change loses block slot m n (λ v. count_in v found)
    (λ v other number. condemned-count v block other slot number m found) lost
    (condemned-each (Granted past) block slot m found granted h.condemned) h)
