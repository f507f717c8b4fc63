-- Two lists of entries in the order of their keys are one where each key has the same value in both.
use Rattle.std.proofs.Common.{◌≡◌, Bool, true, false, cond, List, [], ◌∷◌, Option, Some, None, refl, sym, ap, ◌∙◌}
use Rattle.std.specs.List.{AllByRecursion}
use Rattle.std.specs.List.Sorted.{IsStrictlySortedBy}
use Rattle.std.specs.Map.{keys_of}
use Rattle.std.specs.Ordering.{is_eq, ordering_reverse}
use Rattle.std.specs.declared.cmp.Ordering.{Ordering}
use Rattle.std.specs.declared.cmp.Ordering.TheVariants.{Less, Equal, Greater}
use Rattle.std.proofs.lemmas.Map.{lookup-none}
use Rattle.std.proofs.lemmas.Map.Entries.{none_below_head}
use Rattle.std.proofs.lemmas.Map.Keys.{sorted_head, sorted_tail}
use Rattle.std.proofs.lemmas.Option.{same_Some}
use Rattle.qfs_base.specs.Key.{key_cmp}
use Rattle.qfs_base.specs.KeyLaws.{key_cmp_total, key_cmp-Equal}
use Rattle.qfs_base.specs.KeyMap.{value_at}
use Rattle.qfs_base.specs.declared.chunk.ChunkKey.{ChunkKey}
use Rattle.qfs_store.proofs.KeyLaws.{same_key, same_key-is, same_itself}

module _ {X : Type 0} where
  -- a key below all others isn't among them
  pub behind_none : (key : ChunkKey) (es : List (ChunkKey × X)) → AllByRecursion (λ q. key_cmp key q ≡ Less) (keys_of es) → value_at key_cmp es key ≡ None
  behind_none key [] behind = refl
  behind_none key (e ∷ es) behind = ap (λ (r : Ordering). cond (is_eq r) (Some e.1) (value_at key_cmp es key)) behind.0 ∙ behind_none key es behind.1

  before_none : (key : ChunkKey) (e : ChunkKey × X) (es : List (ChunkKey × X)) → IsStrictlySortedBy key_cmp (keys_of (e ∷ es)) → key_cmp key e.0 ≡ Less → value_at key_cmp (e ∷ es) key ≡ None
  before_none key e es rising less = lookup-none (λ k. is_eq (key_cmp key k)) (e ∷ es) (none_below_head key_cmp_total key e es rising less)

  at_head : (e : ChunkKey × X) (es : List (ChunkKey × X)) → value_at key_cmp (e ∷ es) e.0 ≡ Some e.1
  at_head e es = ap (λ (b : Bool). cond b (Some e.1) (value_at key_cmp es e.0)) (same_itself e.0)

  none_is_some : (x : X) (o : Option X) → o ≡ None → o ≡ Some x → ⊥
  none_is_some x o none some = cc

  tail_value : (b : Bool) (x y : X) (one other : Option X) → (b ≡ true → one ≡ None) → (b ≡ true → other ≡ None) → cond b (Some x) one ≡ cond b (Some y) other → one ≡ other
  tail_value true x y one other first second same = first refl ∙ sym (second refl)
  tail_value false x y one other first second same = same

  pub same_entries : (es fs : List (ChunkKey × X)) → IsStrictlySortedBy key_cmp (keys_of es) → IsStrictlySortedBy key_cmp (keys_of fs) → ((q : ChunkKey) → value_at key_cmp es q ≡ value_at key_cmp fs q) → es ≡ fs
  same_entries [] [] one other same = refl
  same_entries [] (f ∷ fs) one other same = absurd (none_is_some f.1 None refl (same f.0 ∙ at_head f fs))
  same_entries (e ∷ es) [] one other same = absurd (none_is_some e.1 None refl (sym (same e.0) ∙ at_head e es))
  same_entries (e ∷ es) (f ∷ fs) one other same =
      elim (key_cmp e.0 f.0) as (λ (r : Ordering). key_cmp e.0 f.0 ≡ r → e ∷ es ≡ f ∷ fs) [
        | Less ↦ λ at. absurd (none_is_some e.1 (value_at key_cmp (f ∷ fs) e.0) (before_none e.0 f fs other at) (sym (same e.0) ∙ at_head e es))
        | Greater ↦ λ at. absurd (none_is_some f.1 (value_at key_cmp (e ∷ es) f.0) (before_none f.0 e es one (key_cmp_total.antisymm f.0 e.0 ∙ ap ordering_reverse at)) (same f.0 ∙ at_head f fs))
        | Equal ↦ λ at.
            let key : e.0 ≡ f.0 = key_cmp-Equal e.0 f.0 at in
            let value : e.1 ≡ f.1 = same_Some e.1 f.1 (sym (at_head e es) ∙ same e.0 ∙ ap (value_at key_cmp (f ∷ fs)) key ∙ at_head f fs) in
            let rest : es ≡ fs = same_entries es fs (sorted_tail key_cmp e.0 (keys_of es) one) (sorted_tail key_cmp f.0 (keys_of fs) other) (λ q.
            tail_value (same_key q e.0) e.1 f.1 (value_at key_cmp es q) (value_at key_cmp fs q)
            (λ here. ap (value_at key_cmp es) (sym (same_key-is q e.0 here)) ∙ behind_none e.0 es (sorted_head key_cmp e.0 (keys_of es) one))
            (λ here. ap (value_at key_cmp fs) (sym (same_key-is q e.0 here) ∙ key) ∙ behind_none f.0 fs (sorted_head key_cmp f.0 (keys_of fs) other))
            (same q ∙ ap (λ (k : ChunkKey). cond (same_key q k) (Some f.1) (value_at key_cmp fs q)) (sym key))) in
            λ i. (key i, value i) ∷ rest i
      ] refl
