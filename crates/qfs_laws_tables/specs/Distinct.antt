-- Lists without repeats. Of numbers: each of them counts at most once. Cited by the other laws, and
-- for the name tree over tables.
use Rattle.qfs_base.specs.Table.{Each}
use Rattle.std.proofs.Common.{Bool, List, [], arith, false, nat_eq, refl, subst, sym, true, ℕ, ◌++◌}
use Rattle.std.proofs.Common.{◌+◌, ◌||◌, ◌∙◌, ◌∷◌, ◌≡◌, ◌≤◌}
use Rattle.std.proofs.lemmas.Bool.{true≢false}
use Rattle.std.proofs.lemmas.Bool.Decides.{nat_tests}
use Rattle.std.specs.List.{AllByRecursion, IsDistinct, list_any}
use Rattle.qfs_laws_tables.specs.Sums.{total, weigh_if}

abbrev pub one_if : Bool → ℕ
one_if b = weigh_if b 1

abbrev pub copies : ℕ → List ℕ → ℕ
copies n ns = total (λ k. one_if (nat_eq k n)) ns

apart-none : (n : ℕ) (ns : List ℕ) → AllByRecursion (λ k. nat_eq n k ≡ false) ns → copies n ns ≡ 0
apart-none n [] each = refl
apart-none n (k ∷ ns) each =
    let rest = apart-none n ns each.1 in
    let here : nat_eq k n ≡ false = let h = each.0 in grind (arith, nat_tests) in
    rw here (omega arith)

none-apart : (n : ℕ) (ns : List ℕ) → copies n ns ≡ 0 → AllByRecursion (λ k. nat_eq n k ≡ false) ns
none-apart n [] none = tt
none-apart n (k ∷ ns) none =
    (elim (nat_eq k n) as (λ b. nat_eq k n ≡ b → one_if b + copies n ns ≡ 0 → (nat_eq n k ≡ false)
    × AllByRecursion (λ k. nat_eq n k ≡ false) ns) [
      | true ↦ λ is none. absurd (omega arith)
      | false ↦ λ is none. (grind (arith, nat_tests), none-apart n ns (omega arith))
    ]) refl none

pub distinct-once : (ns : List ℕ) → IsDistinct nat_eq ns → (n : ℕ) → copies n ns ≤ 1
unfolding IsDistinct
distinct-once [] distinct n = omega arith
distinct-once (k ∷ ns) distinct n =
    (elim (nat_eq k n) as (λ b. nat_eq k n ≡ b → one_if b + copies n ns ≤ 1) [
      | true ↦ λ is. let same : k ≡ n = grind (arith, nat_tests) in let none = subst
          (λ m. copies m ns ≡ 0) same (apart-none k ns distinct.0) in omega arith
      | false ↦ λ is. let rest = distinct-once ns distinct.1 n in omega arith
    ]) refl

pub once-distinct : (ns : List ℕ) → ((n : ℕ) → copies n ns ≤ 1) → IsDistinct nat_eq ns
unfolding IsDistinct
once-distinct [] once = tt
once-distinct (k ∷ ns) once = (
  none-apart k ns (let at = once k in let own : nat_eq k k ≡ true = grind (arith, nat_tests) in
      let here : one_if true + copies k ns ≤ 1 = subst (λ b. one_if b + copies k ns ≤ 1) own at in
      omega arith),
  once-distinct ns (λ n. let at = once n in omega arith),
)

pub distinct-push : {X : Type 0} (eq : X → X → Bool) (xs : List X) (y : X) → IsDistinct eq xs
    → Each (λ x. eq x y ≡ false) xs → IsDistinct eq (xs ++ y ∷ [])
unfolding IsDistinct
distinct-push eq [] y distinct apart = (tt, tt)
distinct-push eq (x ∷ xs) y distinct apart =
    (all xs distinct.0, distinct-push eq xs y distinct.1 apart.1)
  where
    all : (zs : List _) → AllByRecursion (λ z. eq x z ≡ false) zs
        → AllByRecursion (λ z. eq x z ≡ false) (zs ++ y ∷ [])
    all [] h = (apart.0, tt)
    all (z ∷ zs) h = (h.0, all zs h.1)

far : {X : Type 0} (e : X → X → Bool) (t : X → Bool) (x : X) → ((y : X) → t y ≡ true → e x y ≡ true)
    → (ys : List X) → AllByRecursion (λ y. e x y ≡ false) ys → list_any t ys ≡ true → ⊥
far e t x agrees [] each any = cc
far e t x agrees (y ∷ ys) each any =
    (elim (t y) as (λ b. t y ≡ b → (b || list_any t ys) ≡ true → ⊥) [
      | true ↦ λ is _. true≢false (sym (agrees y is) ∙ each.0)
      | false ↦ λ is any. far e t x agrees ys each.1 any
    ]) refl any

-- where no two items agree, one that passes one test and one that passes another are the same if
-- such items agree
pub distinct-both : {X : Type 0} (Y : Type 0) (eq : X → X → Bool) (p q : X → Bool)
    → ((x y : X) → p x ≡ true → q y ≡ true → eq x y ≡ true)
    → ((x y : X) → q x ≡ true → p y ≡ true → eq x y ≡ true)
    → ((x : X) → p x ≡ true → q x ≡ true → Y) → (xs : List X) → IsDistinct eq xs → list_any p
    xs ≡ true → list_any q xs ≡ true → Y
unfolding IsDistinct
distinct-both Y eq p q pq qp both [] distinct a b = absurd (cc)
distinct-both Y eq p q pq qp both (x ∷ xs) distinct a b =
    (elim (p x) as (λ s. p x ≡ s → (s || list_any p xs) ≡ true → Y) [
      | true ↦ λ is _. (elim (q x) as (λ t. q x ≡ t → (t || list_any q xs) ≡ true → Y) [
        | true ↦ λ at _. both x is at
        | false ↦ λ at b. absurd (far eq q x (λ y. pq x y is) xs distinct.0 b)
      ]) refl b
      | false ↦ λ is a. (elim (q x) as (λ t. q x ≡ t → (t || list_any q xs) ≡ true → Y) [
        | true ↦ λ at _. absurd (far eq p x (λ y. qp x y at) xs distinct.0 a)
        | false ↦ λ at b. distinct-both Y eq p q pq qp both xs distinct.1 a b
      ]) refl b
    ]) refl a
