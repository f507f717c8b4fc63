-- What the words of `KeyMap` do to each other, for every total order of the keys.
use Rattle.std.proofs.Common.{◌≡◌, Bool, true, false, List, [], ◌∷◌, Option, Some, None, cond, true≢false, refl, sym, ap, ◌∙◌}
use Rattle.std.specs.Cmp.{IsTotalOrder, alike_right}
use Rattle.std.specs.Ordering.{is_eq, eq_by_cmp, match_ordering}
use Rattle.std.specs.declared.cmp.Ordering.{Ordering}
use Rattle.std.specs.declared.cmp.Ordering.TheVariants.{Less, Equal, Greater}
use Rattle.std.specs.List.{AllByRecursion}
use Rattle.std.specs.List.Sorted.{IsStrictlySortedBy}
use Rattle.std.specs.Map.{keys_of, remove_entry}
use Rattle.qfs_base.specs.KeyMap.{value_at, with_entry, without_key, unless}

-- ---- choices

cond-swap : {X : Type 0} (a b : Bool) (x y z : X) → (a ≡ true → b ≡ false) → cond a x (cond b y z) ≡ cond b y (cond a x z)
cond-swap true true x y z apart = absurd (true≢false (apart refl))
cond-swap true false x y z apart = refl
cond-swap false true x y z apart = refl
cond-swap false false x y z apart = refl

cond-again : {X : Type 0} (b : Bool) (x y z : X) → cond b x (cond b y z) ≡ cond b x z
cond-again true x y z = refl
cond-again false x y z = refl

cond-same : {X : Type 0} (b : Bool) (x : X) → cond b x x ≡ x
cond-same true x = refl
cond-same false x = refl

equal_if : (r : Ordering) → is_eq r ≡ true → r ≡ Equal
equal_if Less e = absurd (true≢false (sym e))
equal_if Equal e = refl
equal_if Greater e = absurd (true≢false (sym e))

-- ---- keys

module _ {K : Type 0} {cmp : K → K → Ordering} (order : IsTotalOrder cmp) where
  -- a key that equals another doesn't equal what the other is apart from
  not_both : (k q a : K) → is_eq (cmp k a) ≡ false → is_eq (cmp q a) ≡ true → eq_by_cmp cmp q k ≡ false
  not_both k q a apart at =
      elim (cmp q k) as (λ r. cmp q k ≡ r → is_eq r ≡ false) [
        | Less ↦ λ h. refl
        | Equal ↦ λ h. absurd (true≢false (sym at ∙ ap is_eq (order.congr q k a h) ∙ apart))
        | Greater ↦ λ h. refl
      ] refl

  equal_tests : (k q a : K) → is_eq (cmp k a) ≡ true → is_eq (cmp q a) ≡ eq_by_cmp cmp q k
  equal_tests k q a at = ap is_eq (sym (alike_right order k a q (equal_if (cmp k a) at)))

  -- a key that equals one equals none of those behind it
  passed : (k a : K) (ks : List K) → is_eq (cmp k a) ≡ true → AllByRecursion (λ y. cmp a y ≡ Less) ks → AllByRecursion (λ q. is_eq (cmp k q) ≡ false) ks
  passed k a [] at behind = tt
  passed k a (x ∷ xs) at behind = (ap is_eq (order.congr k a x (equal_if (cmp k a) at) ∙ behind.0), passed k a xs at behind.1)

module _ {K V : Type 0} {cmp : K → K → Ordering} (order : IsTotalOrder cmp) where
  -- ---- an entry that is set

  replaced : (k q : K) (v : V) (e : K × V) (found : Option V) → cmp k e.0 ≡ Equal
      → cond (is_eq (cmp q e.0)) (Some v) found ≡ cond (eq_by_cmp cmp q k) (Some v) (cond (is_eq (cmp q e.0)) (Some e.1) found)
  replaced k q v e found tied =
      ap (λ b. cond b (Some v) found) (equal_tests order k q e.0 (ap is_eq tied))
      ∙ sym (cond-again (eq_by_cmp cmp q k) (Some v) (Some e.1) found)
      ∙ ap (λ b. cond (eq_by_cmp cmp q k) (Some v) (cond b (Some e.1) found)) (sym (equal_tests order k q e.0 (ap is_eq tied)))

  -- an entry that is set is found at its key, and every other key has what it had
  pub value_at-with_entry : (es : List (K × V)) (k : K) (v : V) (q : K) → value_at cmp (with_entry cmp es k v) q ≡ cond (eq_by_cmp cmp q k) (Some v) (value_at cmp es q)
  value_at-with_entry [] k v q = refl
  value_at-with_entry (e ∷ es) k v q =
      elim (cmp k e.0) as (λ r. cmp k e.0 ≡ r → value_at cmp (match_ordering r ((k, v) ∷ e ∷ es) ((e.0, v) ∷ es) (e ∷ with_entry cmp es k v)) q ≡ cond (eq_by_cmp cmp q k) (Some v) (value_at cmp (e ∷ es) q)) [
        | Less ↦ λ h. refl
        | Equal ↦ λ h. replaced k q v e (value_at cmp es q) h
        | Greater ↦ λ h.
            ap (cond (is_eq (cmp q e.0)) (Some e.1)) (value_at-with_entry es k v q)
            ∙ cond-swap (is_eq (cmp q e.0)) (eq_by_cmp cmp q k) (Some e.1) (Some v) (value_at cmp es q) (not_both order k q e.0 (ap is_eq h))
      ] refl

  -- ---- a key that is taken out

  value_at-unless : (b : Bool) (e : K × V) (es : List (K × V)) (q : K) → value_at cmp (unless b e es) q ≡ cond b (value_at cmp es q) (cond (is_eq (cmp q e.0)) (Some e.1) (value_at cmp es q))
  value_at-unless true e es q = refl
  value_at-unless false e es q = refl

  taken : (k q : K) (e : K × V) (found : Option V) (b : Bool) → is_eq (cmp k e.0) ≡ b
      → cond b (cond (eq_by_cmp cmp q k) None found) (cond (is_eq (cmp q e.0)) (Some e.1) (cond (eq_by_cmp cmp q k) None found))
      ≡ cond (eq_by_cmp cmp q k) None (cond (is_eq (cmp q e.0)) (Some e.1) found)
  taken k q e found true at =
      sym (cond-again (eq_by_cmp cmp q k) None (Some e.1) found)
      ∙ ap (λ b. cond (eq_by_cmp cmp q k) None (cond b (Some e.1) found)) (sym (equal_tests order k q e.0 at))
  taken k q e found false at = cond-swap (is_eq (cmp q e.0)) (eq_by_cmp cmp q k) (Some e.1) None found (not_both order k q e.0 at)

  -- a key that is taken out isn't there, and every other key has what it had
  pub value_at-without_key : (es : List (K × V)) (k q : K) → value_at cmp (without_key cmp es k) q ≡ cond (eq_by_cmp cmp q k) None (value_at cmp es q)
  value_at-without_key [] k q = sym (cond-same {X = Option V} (eq_by_cmp cmp q k) None)
  value_at-without_key (e ∷ es) k q =
      value_at-unless (is_eq (cmp k e.0)) e (without_key cmp es k) q
      ∙ ap (λ found. cond (is_eq (cmp k e.0)) found (cond (is_eq (cmp q e.0)) (Some e.1) found)) (value_at-without_key es k q)
      ∙ taken k q e (value_at cmp es q) (is_eq (cmp k e.0)) refl

  pub without_key-absent : (es : List (K × V)) (k : K) → AllByRecursion (λ q. is_eq (cmp k q) ≡ false) (keys_of es) → without_key cmp es k ≡ es
  without_key-absent [] k none = refl
  without_key-absent (e ∷ es) k none = ap (λ b. unless b e (without_key cmp es k)) none.0 ∙ ap (λ others. e ∷ others) (without_key-absent es k none.1)

  -- where the keys rise, only the first entry of a key can be taken out
  pub without_key-rising : (es : List (K × V)) (k : K) → IsStrictlySortedBy cmp (keys_of es) → remove_entry (λ q. is_eq (cmp k q)) es ≡ without_key cmp es k
  unfolding IsStrictlySortedBy
  without_key-rising [] k rising = refl
  without_key-rising (e ∷ es) k rising =
      elim (is_eq (cmp k e.0)) as (λ b. is_eq (cmp k e.0) ≡ b → cond b es (e ∷ remove_entry (λ q. is_eq (cmp k q)) es) ≡ unless b e (without_key cmp es k)) [
        | true ↦ λ at. sym (without_key-absent es k (passed order k e.0 (keys_of es) at rising.0))
        | false ↦ λ apart. ap (λ others. e ∷ others) (without_key-rising es k rising.1)
      ] refl
