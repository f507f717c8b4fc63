-- Rising numbers that are all of a range are the range, and what holds of keys that are put at
-- their places one after another.
use Rattle.std.proofs.Common.{◌≡◌, ℕ, zero, suc, ◌+◌, ◌<◌, ◌≤◌, nat_eq, Bool, true, false, ◌||◌, List, [], ◌∷◌, flat_map, refl, sym, ap, subst, ◌∙◌, arith}
use Rattle.std.proofs.lemmas.Bool.{false≢true}
use Rattle.std.proofs.lemmas.Bool.Decides.{nat_tests}
use Rattle.std.specs.BTreeSet.{insert_key}
use Rattle.std.specs.Cmp.{IsTotalOrder}
use Rattle.std.specs.List.{list_any, range_with_len}
use Rattle.std.specs.Bool.{⊤}
use Rattle.std.specs.Ordering.{match_ordering, ordering_reverse}
use Rattle.std.specs.declared.cmp.Ordering.{Ordering}
use Rattle.std.specs.declared.cmp.Ordering.TheVariants.{Less, Equal, Greater}
use Rattle.qfs_base.specs.EachLaws.{each_weaker}
use Rattle.qfs_base.specs.Table.{Each, IsRising}
use Rattle.qfs_laws_tables.specs.EachRow.{each-left, each-right}
use Rattle.qfs_laws_tables.specs.SomeRow.{any_each}

-- ---- numbers

abbrev pub Rises : List ℕ → Type 0
Rises [] = ⊤
Rises (n ∷ ns) = Each (λ later. n < later) ns × Rises ns

-- the first of rising numbers is the first of the range that they are all of
first_is : (first n : ℕ) (ns : List ℕ) → first ≤ n → Each (λ later. n < later) ns
    → (nat_eq first n || list_any (nat_eq first) ns) ≡ true → n ≡ first
first_is first n ns low above has =
    elim (nat_eq first n) as (λ b. nat_eq first n ≡ b → (b || list_any (nat_eq first) ns) ≡ true
    → n ≡ first) [
      | true ↦ λ is _. grind (arith, nat_tests)
      | false ↦ λ _ any. any_each (n ≡ first) (λ later. n < later) (nat_eq first)
          (λ later over is. absurd (grind (arith, nat_tests))) ns above any
    ] refl has

pub range_is : (count first : ℕ) (ns : List ℕ) → Rises ns → Each (λ n. first ≤ n) ns
    → Each (λ n. n < first + count) ns
    → ((i : ℕ) → first ≤ i → i < first + count → list_any (nat_eq i) ns ≡ true)
    → ns ≡ range_with_len first count
range_is zero first [] rises low high has = refl
range_is zero first (n ∷ ns) rises low high has =
    let l = low.0 in let h = high.0 in absurd (omega arith)
range_is (suc count) first [] rises low high has =
    absurd (false≢true (has first (omega arith) (omega arith)))
range_is (suc count) first (n ∷ ns) rises low high has =
    let here : n ≡ first = first_is first n ns low.0 rises.0
    (has first (omega arith) (omega arith)) in
    let rest : ns ≡ range_with_len (first + 1) count = range_is count (first + 1) ns rises.1
    (each_weaker (λ later. n < later) (λ later. first + 1 ≤ later) (λ later over. omega arith) ns
    rises.0)
    (each_weaker (λ m. m < first + suc count) (λ m. m < first + 1 + count) (λ m h. omega arith) ns
    high.1)
    (λ i l h. later_has i l (has i (omega arith) (omega arith)) here) in
    (λ k. here k ∷ rest k)
  where
    later_has : (i : ℕ) → first + 1 ≤ i → (nat_eq i n || list_any (nat_eq i) ns) ≡ true
        → n ≡ first → list_any (nat_eq i) ns ≡ true
    later_has i l any here =
        let apart : nat_eq i n ≡ false = grind (arith, nat_tests) in
        subst (λ b. (b || list_any (nat_eq i) ns) ≡ true) apart any

-- ---- keys that are put at their places (this belongs to qfs_laws_tables)

either_twice : (a b : Bool) → (a || b) ≡ (a || (a || b))
either_twice true b = refl
either_twice false b = refl

pub either_first : (a b c : Bool) → (b || (a || c)) ≡ (a || (b || c))
either_first true true c = refl
either_first true false c = refl
either_first false true c = refl
either_first false false c = refl

module _ {K : Type 0} (cmp : K → K → Ordering) where
  pub any_inserted : ((a b : K) → cmp a b ≡ Equal → a ≡ b) → (test : K → Bool) (ks : List K) (k : K)
      → list_any test (insert_key cmp ks k) ≡ (test k || list_any test ks)
  any_inserted same test [] k = refl
  any_inserted same test (x ∷ xs) k =
      elim (cmp k x) as (λ r. cmp k x ≡ r → list_any test
      (match_ordering r (k ∷ x ∷ xs) (x ∷ xs) (x ∷ insert_key cmp xs k))
      ≡ (test k || (test x || list_any test xs))) [
        | Less ↦ λ _. refl
        | Equal ↦ λ is. either_twice (test x) (list_any test xs)
            ∙ ap (λ key. test key || (test x || list_any test xs)) (sym (same k x is))
        | Greater ↦ λ _. ap (λ b. test x || b) (any_inserted same test xs k)
            ∙ either_first (test k) (test x) (list_any test xs)
      ] refl

  pub each_inserted : (P : K → Type 0) (ks : List K) (k : K) → P k → Each P ks
      → Each P (insert_key cmp ks k)
  each_inserted P [] k p each = (p, tt)
  each_inserted P (x ∷ xs) k p each =
      elim (cmp k x) as (λ r. Each P
      (match_ordering r (k ∷ x ∷ xs) (x ∷ xs) (x ∷ insert_key cmp xs k))) [
        | Less ↦ (p, each)
        | Equal ↦ each
        | Greater ↦ (each.0, each_inserted P xs k p each.1)
      ]

  pub inserted_rises : IsTotalOrder cmp → (ks : List K) (k : K) → IsRising cmp ks
      → IsRising cmp (insert_key cmp ks k)
  inserted_rises total [] k rising = (tt, tt)
  inserted_rises total (x ∷ xs) k rising =
      elim (cmp k x) as (λ r. cmp k x ≡ r → IsRising cmp
      (match_ordering r (k ∷ x ∷ xs) (x ∷ xs) (x ∷ insert_key cmp xs k))) [
        | Less ↦ λ below. (
          (
            below,
            each_weaker _ _ (λ later above. total.trans k x later below above) xs rising.0,
          ),
          rising,
        )
        | Equal ↦ λ _. rising
        | Greater ↦ λ above. (
          each_inserted (λ later. cmp x later ≡ Less) xs k
              (total.antisymm x k ∙ ap ordering_reverse above) rising.0,
          inserted_rises total xs k rising.1,
        )
      ] refl

-- ---- lists of lists

pub each_of_flat : {X Y : Type 0} (P : Y → Type 0) (f : X → List Y) (xs : List X)
    → Each P (flat_map f xs) → Each (λ x. Each P (f x)) xs
each_of_flat P f [] each = tt
each_of_flat P f (x ∷ xs) each = (
  each-left P (f x) (flat_map f xs) each,
  each_of_flat P f xs (each-right P (f x) (flat_map f xs) each),
)

-- two functions that agree on each item give the same
pub flat_map_each : {X Y : Type 0} (f g : X → List Y) (xs : List X) → Each (λ x. f x ≡ g x) xs
    → flat_map f xs ≡ flat_map g xs
flat_map_each f g [] each = refl
flat_map_each f g (x ∷ xs) each = rw (each.0, flat_map_each f g xs each.1) refl
