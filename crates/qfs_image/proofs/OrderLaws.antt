-- Rows of which each comes before the next are in order.
use Rattle.std.proofs.Common.{◌≡◌, ◌∙◌, refl, sym, ap, ℕ, ◌+◌, ◌<◌, ◌≤◌, arith, zero, suc, Bool, true, false, cond, ltb, eqb, ◌&&◌, List, [], ◌∷◌, length, drop, get_or}
use Rattle.std.specs.Prelude.{nat_lt}
use Rattle.std.specs.Cmp.{IsTotalOrder, both_ways}
use Rattle.std.specs.List.{list_all}
use Rattle.std.specs.Ordering.{is_lt, nat_cmp}
use Rattle.std.specs.declared.cmp.Ordering.{Ordering}
use Rattle.std.specs.declared.cmp.Ordering.TheVariants.{Less, Equal, Greater}
use Rattle.std.proofs.lemmas.Bool.{and_from, and_parts}
use Rattle.qfs_base.specs.Table.{IsRising}
use Rattle.qfs_laws_tables.specs.EachRow.{all-each}
use Rattle.qfs_base.specs.EachLaws.{each_weaker}
use Rattle.qfs_model_disks.specs.Tests.{are_rising}
use Rattle.qfs_image.specs.Rules.{follow, follow_from}
use Rattle.qfs_image.proofs.TestLaws.{all_of_each, all_weaker}

pub lt_is : (o : Ordering) → is_lt o ≡ true → o ≡ Less
lt_is Less e = refl
lt_is Equal e = absurd cc
lt_is Greater e = absurd cc

less_test : (a b : Bool) → is_lt (cond a Less (cond b Equal Greater)) ≡ a
less_test true b = refl
less_test false true = refl
less_test false false = refl

-- numbers in their order
pub lt_test : (x y : ℕ) → is_lt (nat_cmp x y) ≡ nat_lt x y
lt_test x y = less_test (ltb x y) (eqb x y)

-- ---- all pairs

pub rising_each : {X : Type 0} (order : X → X → Ordering) (rows : List X) → are_rising order rows ≡ true → IsRising order rows
unfolding are_rising
rising_each order [] is = tt
rising_each order (row ∷ rows) is =
    let p = and_parts _ _ is in
    (each_weaker _ _ (λ later less. lt_is (order row later) less) rows (all-each _ rows p.0), rising_each order rows p.1)

pub each_rising : {X : Type 0} (order : X → X → Ordering) (rows : List X) → IsRising order rows → are_rising order rows ≡ true
unfolding are_rising
each_rising order [] rising = refl
each_rising order (row ∷ rows) rising =
    and_from _ _ (all_of_each _ (λ later. is_lt (order row later)) (λ later less. ap is_lt less) rows rising.0) (each_rising order rows rising.1)

-- ---- neighbours

follow_from_weaker : {X : Type 0} (p q : X → X → Bool) → ((a b : X) → p a b ≡ true → q a b ≡ true) → (row : X) (rows : List X)
    → follow_from p row rows ≡ true → follow_from q row rows ≡ true
unfolding follow_from
follow_from_weaker p q weaker row [] is = refl
follow_from_weaker p q weaker row (next ∷ rows) is =
    let parts = and_parts _ _ is in
    and_from _ _ (weaker row next parts.0) (follow_from_weaker p q weaker next rows parts.1)

pub follow_weaker : {X : Type 0} (p q : X → X → Bool) → ((a b : X) → p a b ≡ true → q a b ≡ true) → (rows : List X)
    → follow p rows ≡ true → follow q rows ≡ true
unfolding follow
follow_weaker p q weaker [] is = refl
follow_weaker p q weaker (row ∷ rows) is = follow_from_weaker p q weaker row rows is

follow_from_both : {X : Type 0} (p q : X → X → Bool) (row : X) (rows : List X) → follow_from p row rows ≡ true → follow_from q row rows ≡ true
    → follow_from (λ a b. p a b && q a b) row rows ≡ true
unfolding follow_from
follow_from_both p q row [] one other = refl
follow_from_both p q row (next ∷ rows) one other =
    let f = and_parts _ _ one in
    let g = and_parts _ _ other in
    and_from _ _ (and_from _ _ f.0 g.0) (follow_from_both p q next rows f.1 g.1)

pub follow_both : {X : Type 0} (p q : X → X → Bool) (rows : List X) → follow p rows ≡ true → follow q rows ≡ true
    → follow (λ a b. p a b && q a b) rows ≡ true
unfolding follow
follow_both p q [] one other = refl
follow_both p q (row ∷ rows) one other = follow_from_both p q row rows one other

module _ {X : Type 0} (order : X → X → Ordering) (total : IsTotalOrder order) where
  all_above : (row : X) (rows : List X) → follow_from (λ a b. is_lt (order a b)) row rows ≡ true → list_all (λ later. is_lt (order row later)) rows ≡ true
  unfolding follow_from
  all_above row [] is = refl
  all_above row (next ∷ rows) is =
      let p = and_parts _ _ is in
      let behind = all_above next rows p.1 in
      and_from _ _ p.0
      (all_weaker (λ later. is_lt (order next later)) (λ later. is_lt (order row later))
      (λ later less. ap is_lt (total.trans row next later (lt_is _ p.0) (lt_is _ less))) rows behind)

  rising_from : (row : X) (rows : List X) → follow_from (λ a b. is_lt (order a b)) row rows ≡ true → are_rising order (row ∷ rows) ≡ true
  unfolding are_rising follow_from
  rising_from row [] is = refl
  rising_from row (next ∷ rows) is = and_from _ _ (all_above row (next ∷ rows) is) (rising_from next rows (and_parts _ _ is).1)

  from_rising : (row : X) (rows : List X) → are_rising order (row ∷ rows) ≡ true → follow_from (λ a b. is_lt (order a b)) row rows ≡ true
  unfolding are_rising follow_from
  from_rising row [] is = refl
  from_rising row (next ∷ rows) is =
      let p = and_parts _ _ is in
      and_from _ _ (and_parts _ _ p.0).0 (from_rising next rows p.1)

  pub follow_rising : (rows : List X) → follow (λ a b. is_lt (order a b)) rows ≡ true → are_rising order rows ≡ true
  unfolding are_rising follow
  follow_rising [] is = refl
  follow_rising (row ∷ rows) is = rising_from row rows is

  pub rising_follow : (rows : List X) → are_rising order rows ≡ true → follow (λ a b. is_lt (order a b)) rows ≡ true
  unfolding are_rising follow
  rising_follow [] is = refl
  rising_follow (row ∷ rows) is = from_rising row rows is

  -- a test of neighbours that is their order tests the order of all
  pub in_order : (before : X → X → Bool) → ((a b : X) → is_lt (order a b) ≡ before a b) → (rows : List X) → are_rising order rows ≡ follow before rows
  in_order before same rows =
      both_ways _ _ (λ is. follow_weaker _ before (λ a b less. sym (same a b) ∙ less) rows (rising_follow rows is))
      (λ is. follow_rising rows (follow_weaker before _ (λ a b less. same a b ∙ less) rows is))

-- ---- in the loop that looks at neighbours

pub step_from : {X : Type 0} (before : X → X → Bool) (rows : List X) (k j : ℕ) (x y : X) → j ≡ k + 1 → j < length rows → x ≡ get_or rows k x → y ≡ get_or rows j y
    → follow before (drop k rows) ≡ (before x y && follow before (drop j rows))
unfolding follow follow_from
step_from before [] k j x y is inside at next = absurd (omega arith)
step_from before (row ∷ []) k j x y is inside at next = absurd (omega arith)
step_from before (row ∷ more ∷ rows) zero zero x y is inside at next = absurd (omega arith)
step_from before (row ∷ more ∷ rows) zero (suc zero) x y is inside at next = rw (at, next) refl
step_from before (row ∷ more ∷ rows) zero (suc (suc j)) x y is inside at next = absurd (omega arith)
step_from before (row ∷ more ∷ rows) (suc k) zero x y is inside at next = absurd (omega arith)
step_from before (row ∷ more ∷ rows) (suc k) (suc j) x y is inside at next = step_from before (more ∷ rows) k j x y (omega arith) (omega arith) at next

-- fewer than two rows are in order
pub few_follow : {X : Type 0} (before : X → X → Bool) (rows : List X) (k : ℕ) → length rows ≤ k + 1 → follow before (drop k rows) ≡ true
unfolding follow follow_from
few_follow before [] zero few = refl
few_follow before [] (suc k) few = refl
few_follow before (row ∷ []) zero few = refl
few_follow before (row ∷ more ∷ rows) zero few = absurd (omega arith)
few_follow before (row ∷ rows) (suc k) few = few_follow before rows k (omega arith)
