-- The sum of a weight over the rows of a table. Cited by the other laws, and for the name tree over
-- tables.
use Rattle.qfs_base.specs.Table.{Each, change_row, change_where}
use Rattle.qfs_base.specs.declared.image.SlotRow.{SlotRow}
use Rattle.std.proofs.Common.{Bool, List, Some, [], ap, arith, cond, false, filter, find, map, refl}
use Rattle.std.proofs.Common.{sym, true, ℕ, ◌++◌, ◌+◌, ◌||◌, ◌∙◌, ◌∷◌, ◌≡◌, ◌≤◌}
use Rattle.std.proofs.lemmas.Bool.{true≢false}
use Rattle.std.specs.List.{list_any}
use Rattle.std.specs.Prelude.{flat_map}

abbrev pub total : {X : Type 0} → (X → ℕ) → List X → ℕ
total w [] = 0
total w (x ∷ xs) = w x + total w xs

pub total-append : {X : Type 0} (w : X → ℕ) (xs ys : List X)
    → total w (xs ++ ys) ≡ total w xs + total w ys
total-append w [] ys = omega arith
total-append w (x ∷ xs) ys = let rest = total-append w xs ys in omega arith

pub total-map : {X Y : Type 0} (w : Y → ℕ) (f : X → Y) (xs : List X)
    → total w (map f xs) ≡ total (λ x. w (f x)) xs
total-map w f [] = refl
total-map w f (x ∷ xs) = ap (λ n. w (f x) + n) (total-map w f xs)

pub total-flat_map : {X Y : Type 0} (w : Y → ℕ) (f : X → List Y) (xs : List X)
    → total w (flat_map f xs) ≡ total (λ x. total w (f x)) xs
total-flat_map w f [] = refl
total-flat_map w f (x ∷ xs) =
    total-append w (f x) (flat_map f xs) ∙ ap (λ n. total w (f x) + n) (total-flat_map w f xs)

-- a filter counts only what passes
abbrev pub weigh_if : Bool → ℕ → ℕ
weigh_if b n = cond b n 0

pub total-filter : {X : Type 0} (w : X → ℕ) (test : X → Bool) (xs : List X)
    → total w (filter test xs) ≡ total (λ x. weigh_if (test x) (w x)) xs
total-filter w test [] = refl
total-filter w test (x ∷ xs) =
    elim (test x) as (λ b. total w (cond b (x ∷ filter test xs) (filter test xs)) ≡ weigh_if b (w x)
    + total (λ x. weigh_if (test x) (w x)) xs) [
      | true ↦ ap (λ n. w x + n) (total-filter w test xs)
      | false ↦ let rest = total-filter w test xs in omega arith
    ]

pub total-filter-le : {X : Type 0} (w : X → ℕ) (test : X → Bool) (xs : List X)
    → total w (filter test xs) ≤ total w xs
total-filter-le w test [] = omega arith
total-filter-le w test (x ∷ xs) =
    let rest = total-filter-le w test xs in
    elim (test x) as (λ b. total w (cond b (x ∷ filter test xs) (filter test xs)) ≤ w x + total w
    xs) [
      | true ↦ omega arith
      | false ↦ omega arith
    ]

pub total-le : {X : Type 0} (P : X → Type 0) (w v : X → ℕ) → ((x : X) → P x → w x ≤ v x)
    → (xs : List X) → Each P xs → total w xs ≤ total v xs
total-le P w v less [] each = omega arith
total-le P w v less (x ∷ xs) each =
    let here = less x each.0 in let rest = total-le P w v less xs each.1 in omega arith

pub total-same : {X : Type 0} (w v : X → ℕ) → ((x : X) → w x ≡ v x) → (xs : List X)
    → total w xs ≡ total v xs
total-same w v same [] = refl
total-same w v same (x ∷ xs) = let here = same x in let rest = total-same w v same xs in omega arith

pub total-none : {X : Type 0} (w : X → ℕ) (xs : List X) → Each (λ x. w x ≡ 0) xs → total w xs ≡ 0
total-none w [] each = refl
total-none w (x ∷ xs) each = let here = each.0 in let rest = total-none w xs each.1 in omega arith

pub none-total : {X : Type 0} (w : X → ℕ) (xs : List X) → total w xs ≡ 0 → Each (λ x. w x ≡ 0) xs
none-total w [] none = tt
none-total w (x ∷ xs) none = (omega arith, none-total w xs (omega arith))

-- what is found weighs in
pub found-le-total : {X : Type 0} (w : X → ℕ) (test : X → Bool) (xs : List X) (x : X)
    → find test xs ≡ Some x → w x ≤ total w xs
found-le-total w test [] x found = absurd (cc)
found-le-total w test (y ∷ xs) x found =
    (elim (test y) as (λ b. cond b (Some y) (find test xs) ≡ Some x → w x ≤ w y + total w xs) [
      | true ↦ λ found. let same : y ≡ x = cc in let e = ap w same in omega arith
      | false ↦ λ found. let rest = found-le-total w test xs x found in omega arith
    ]) found

pub changed-fewer : (w : SlotRow → ℕ) (test : SlotRow → Bool) (change : SlotRow → SlotRow)
    → ((row : SlotRow) → w (change row) ≤ w row) → (rows : List SlotRow)
    → total w (change_where test change rows) ≤ total w rows
changed-fewer w test change fewer [] = omega arith
changed-fewer w test change fewer (row ∷ rows) =
    let rest = changed-fewer w test change fewer rows in
    elim (test row) as (λ b. w (change_row change row b) + total w (change_where test change rows) ≤
    w row + total w rows) [
      | true ↦ let f = fewer row in omega arith
      | false ↦ omega arith
    ]

some-weight : {X : Type 0} (w : X → ℕ) (p : X → Bool) → ((x : X) → p x ≡ true → 1 ≤ w x)
    → (xs : List X) → list_any p xs ≡ true → 1 ≤ total w xs
some-weight w p pw [] any = absurd (true≢false (sym any))
some-weight w p pw (x ∷ xs) any =
    (elim (p x) as (λ b. p x ≡ b → (b || list_any p xs) ≡ true → 1 ≤ w x + total w xs) [
      | true ↦ λ is _. let u = pw x is in omega arith
      | false ↦ λ _ any. let v = some-weight w p pw xs any in omega arith
    ]) refl any

pub once-both : {X : Type 0} (Y : Type 0) (w : X → ℕ) (p q : X → Bool)
    → ((x : X) → p x ≡ true → 1 ≤ w x) → ((x : X) → q x ≡ true → 1 ≤ w x)
    → ((x : X) → p x ≡ true → q x ≡ true → Y) → (xs : List X) → total w xs ≤ 1
    → list_any p xs ≡ true → list_any q xs ≡ true → Y
once-both Y w p q pw qw both [] once a b = absurd (true≢false (sym a))
once-both Y w p q pw qw both (x ∷ xs) once a b =
    (elim (p x) as (λ s. p x ≡ s → (s || list_any p xs) ≡ true → Y) [
      | true ↦ λ is _. (elim (q x) as (λ t. q x ≡ t → (t || list_any q xs) ≡ true → Y) [
        | true ↦ λ at _. both x is at
        | false ↦ λ _ b. let u = pw x is in absurd (let v = some-weight w q qw xs b in omega arith)
      ]) refl b
      | false ↦ λ _ a. (elim (q x) as (λ t. q x ≡ t → (t || list_any q xs) ≡ true → Y) [
        | true ↦ λ at _. let u = qw x at in absurd (let v = some-weight w p pw xs a in omega arith)
        | false ↦ λ _ b. once-both Y w p q pw qw both xs (omega arith) a b
      ]) refl b
    ]) refl a
