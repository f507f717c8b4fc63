-- The copies that were granted: each version of a slot is one copy. Cited by the laws of the
-- metaserver.
use Rattle.qfs_base.specs.Table.{Each}
use Rattle.qfs_base.specs.declared.chunk.BlockId.{BlockId}
use Rattle.qfs_base.specs.declared.chunk.Copy.{Copy}
use Rattle.qfs_model_meta.specs.Past.{Past, SlotCopy, is_copy, same_version, was_granted, with_copy}
use Rattle.qfs_model_meta.specs.Slots.{same_block}
use Rattle.std.proofs.Common.{List, [], ap, arith, false, refl, subst, sym, true, ℕ, ◌||◌, ◌∙◌, ◌∷◌}
use Rattle.std.proofs.Common.{◌≡◌}
use Rattle.std.proofs.lemmas.Bool.{and_parts, eqb-true, true≢false}
use Rattle.std.proofs.lemmas.Bool.Decides.{nat_tests}
use Rattle.std.specs.List.{AllByRecursion, IsDistinct, list_any}
use Rattle.std.specs.Prelude.{IsTrue}
use Rattle.qfs_laws_slots.specs.Slots.{same_block-is, same_block-self, same_copy-is, same_copy-self}
use Rattle.qfs_laws_tables.specs.SomeRow.{any_append, any_each, any_last}

abbrev pub Granted : Past → BlockId → ℕ → Copy → Type 0
Granted past block slot copy = IsTrue (was_granted past.granted block slot copy)

pub is_copy-is : (block : BlockId) (slot : ℕ) (copy : Copy) (g : SlotCopy)
    → is_copy block slot copy g ≡ true → (g.block ≡ block) × (g.slot ≡ slot) × (g.copy ≡ copy)
unfolding is_copy
is_copy-is block slot copy g is =
    let x = and_parts _ _ is in
    let y = and_parts _ _ x.0 in
    (same_block-is g.block block y.0, eqb-true _ _ y.1, same_copy-is g.copy copy x.1)

pub is_copy-self : (g : SlotCopy) → is_copy g.block g.slot g.copy g ≡ true
unfolding is_copy
is_copy-self g =
    let block = same_block-self g.block in let copy = same_copy-self g.copy in grind
    (arith, nat_tests)

-- what is so of all that was granted is so of a copy that was
pub granted-has : (P : SlotCopy → Type 0) (past : Past) (block : BlockId) (slot : ℕ) (copy : Copy)
    → Each P past.granted → Granted past block slot copy
    → P (record { block = block; slot = slot; copy = copy })
unfolding was_granted
granted-has P past block slot copy each was =
    any_each (P (record { block = block; slot = slot; copy = copy })) P (is_copy block slot copy)
    (λ g p is. let same = is_copy-is block slot copy g is in
    let e : g ≡ record { block = block; slot = slot; copy = copy } = λ i. record
    { block = same.0 i; slot = same.1 i; copy = same.2 i } in
    subst P e p)
    past.granted each was

pub granted-more : (past : Past) (g : SlotCopy) (block : BlockId) (slot : ℕ) (copy : Copy)
    → Granted past block slot copy → Granted (with_copy g past) block slot copy
unfolding was_granted with_copy
granted-more past g block slot copy was =
    any_append (is_copy block slot copy) past.granted (g ∷ []) was

pub granted-new : (past : Past) (g : SlotCopy) → Granted (with_copy g past) g.block g.slot g.copy
unfolding was_granted with_copy
granted-new past g = any_last (is_copy g.block g.slot g.copy) past.granted g (is_copy-self g)

-- two copies of a slot that were granted are the same if their versions are
same_version-of : (block : BlockId) (slot : ℕ) (c x : Copy) (g h : SlotCopy)
    → is_copy block slot c g ≡ true → is_copy block slot x h ≡ true → c.version ≡ x.version
    → same_version g h ≡ true
unfolding same_version
same_version-of block slot c x g h is at version =
    let a = is_copy-is block slot c g is in
    let b = is_copy-is block slot x h at in
    let blocks : same_block g.block h.block ≡ true = subst (λ k. same_block k h.block ≡ true)
    (sym a.0) (subst (λ k. same_block block k ≡ true) (sym b.0) (same_block-self block)) in
    let slots : g.slot ≡ h.slot = a.1 ∙ sym b.1 in
    let versions : g.copy.version ≡ h.copy.version = ap (λ (k : Copy). k.version) a.2 ∙ version
    ∙ sym (ap (λ (k : Copy). k.version) b.2) in
    grind (arith, nat_tests)

away : (block : BlockId) (slot : ℕ) (c x : Copy) (g : SlotCopy) (hs : List SlotCopy)
    → is_copy block slot c g ≡ true → c.version ≡ x.version
    → AllByRecursion (λ h. same_version g h ≡ false) hs → list_any (is_copy block slot x) hs ≡ true
    → ⊥
away block slot c x g [] is version each any = cc
away block slot c x g (h ∷ hs) is version each any =
    (elim (is_copy block slot x h) as
    (λ b. is_copy block slot x h ≡ b → (b || list_any (is_copy block slot x) hs) ≡ true → ⊥) [
      | true ↦ λ at any. let t = same_version-of block slot c x g h is at version in let f =
          each.0 in true≢false (sym t ∙ f)
      | false ↦ λ at any. away block slot c x g hs is version each.1 any
    ]) refl any

pub one_copy : (block : BlockId) (slot : ℕ) (c x : Copy) (gs : List SlotCopy)
    → IsDistinct same_version gs → c.version ≡ x.version
    → list_any (is_copy block slot c) gs ≡ true → list_any (is_copy block slot x) gs ≡ true → c ≡ x
unfolding IsDistinct
one_copy block slot c x [] distinct version a b = absurd (cc)
one_copy block slot c x (g ∷ gs) distinct version a b =
    (elim (is_copy block slot c g) as
    (λ s. is_copy block slot c g ≡ s → (s || list_any (is_copy block slot c) gs) ≡ true → c ≡ x) [
      | true ↦ λ is _. (elim (is_copy block slot x g) as
          (λ t. is_copy block slot x g ≡ t → (t || list_any (is_copy block slot x) gs) ≡ true →
          c ≡ x) [
            | true ↦ λ at _. sym (is_copy-is block slot c g is).2 ∙ (is_copy-is block slot x g at).2
            | false ↦ λ at b. absurd (away block slot c x g gs is version distinct.0 b)
          ]) refl b
      | false ↦ λ is a. (elim (is_copy block slot x g) as
          (λ t. is_copy block slot x g ≡ t → (t || list_any (is_copy block slot x) gs) ≡ true →
          c ≡ x) [
            | true ↦ λ at _. absurd (away block slot x c g gs at (sym version) distinct.0 a)
            | false ↦ λ at b. one_copy block slot c x gs distinct.1 version a b
          ]) refl b
    ]) refl a
