-- Rows that are placed: what is found then, what rows weigh that are placed where none has their
-- key, and maps of tables that are placed, kept by a test or changed. Cited by the other laws, and
-- for tables, leases, names and the metaserver in memory.
use Rattle.qfs_base.specs.Table.{Each, IsRising, change_row, change_where, place, place_all}
use Rattle.qfs_base.specs.Table.{place_before}
use Rattle.std.proofs.Common.{Bool, List, None, Some, [], ap, arith, cond, false, filter, find, map}
use Rattle.std.proofs.Common.{refl, subst, sym, true, ℕ, ◌++◌, ◌+◌, ◌||◌, ◌∙◌, ◌∷◌, ◌≡◌, ◌≤◌}
use Rattle.std.specs.Cmp.{IsTotalOrder}
use Rattle.std.specs.List.{list_any}
use Rattle.std.specs.Option.{option_map}
use Rattle.std.specs.Ordering.{ordering_reverse}
use Rattle.std.specs.declared.cmp.Ordering.{Ordering}
use Rattle.std.specs.declared.cmp.Ordering.TheVariants.{Equal, Greater, Less}
use Rattle.qfs_laws_tables.specs.EachRow.{each_of_all, each_place}
use Rattle.qfs_laws_tables.specs.InOrder.{place_rises}
use Rattle.qfs_laws_tables.specs.Keys.{less-not}
use Rattle.qfs_laws_tables.specs.Sums.{total}

abbrev pub Apart : {X : Type 0} → (X → X → Ordering) → X → List X → Type 0
Apart order new rows = Each (λ row. order new row ≡ Equal → ⊥) rows

pub any-placed : {X : Type 0} (order : X → X → Ordering) (test : X → Bool) (new : X) (rows : List X)
    → Apart order new rows → list_any test (place order new rows) ≡ (test new || list_any test rows)
any-placed order test new [] apart = refl
any-placed order test new (row ∷ rows) apart =
    (elim (order new row) as (λ o. order new row ≡ o → list_any test
    (place_before new row rows (place order new rows) o) ≡ (test new
    || (test row || list_any test rows))) [
      | Less ↦ λ _. refl
      | Equal ↦ λ is. absurd (apart.0 is)
      | Greater ↦ λ _. ap (λ b. test row || b) (any-placed order test new rows apart.1) ∙ swap
          (test row) (test new) (list_any test rows)
    ]) refl
  where
    swap : (a b c : Bool) → (a || (b || c)) ≡ (b || (a || c))
    swap true true c = refl
    swap true false c = refl
    swap false true c = refl
    swap false false c = refl

pub total-placed_apart : {X : Type 0} (order : X → X → Ordering) (w : X → ℕ) (new : X)
    (rows : List X)
    → Apart order new rows → total w (place order new rows) ≡ w new + total w rows
total-placed_apart order w new [] apart = refl
total-placed_apart order w new (row ∷ rows) apart =
    let rest = total-placed_apart order w new rows apart.1 in
    (elim (order new row) as (λ o. order new row ≡ o → total w
    (place_before new row rows (place order new rows) o) ≡ w new + (w row + total w rows)) [
      | Less ↦ λ _. refl
      | Equal ↦ λ is. absurd (apart.0 is)
      | Greater ↦ λ _. omega arith
    ]) refl

-- a row that is placed weighs at most what it weighs more
pub total-placed_le : {X : Type 0} (order : X → X → Ordering) (w : X → ℕ) (new : X)
    (rows : List X)
    → total w (place order new rows) ≤ w new + total w rows
total-placed_le order w new [] = omega arith
total-placed_le order w new (row ∷ rows) =
    let rest = total-placed_le order w new rows in
    elim (order new row) as (λ o. total w
    (place_before new row rows (place order new rows) o) ≤ w new + (w row + total w rows)) [
      | Less ↦ omega arith
      | Equal ↦ omega arith
      | Greater ↦ omega arith
    ]

module _ {X : Type 0} {order : X → X → Ordering} (total_order : IsTotalOrder order) where
  abbrev pub AllApart : List X → List X → Type 0
  AllApart news rows = Each (λ new. Apart order new rows) news

  still-apart : (new : X) (news rows : List X) → Each (λ later. order new later ≡ Less) news
      → AllApart news rows → AllApart news (place order new rows)
  still-apart new [] rows above apart = tt
  still-apart new (next ∷ news) rows above apart = (
    each_place (λ row. order next row ≡ Equal → ⊥) order new rows
        (λ tie. less-not (sym above.0 ∙ total_order.antisymm new next ∙ ap ordering_reverse tie))
        apart.0,
    still-apart new news rows above.1 apart.1,
  )

  pub any-placed_all : (test : X → Bool) (news rows : List X) → IsRising order news
      → AllApart news rows
      → list_any test (place_all order news rows) ≡ (list_any test news || list_any test rows)
  any-placed_all test [] rows rising apart = refl
  any-placed_all test (new ∷ news) rows rising apart =
      any-placed_all test news (place order new rows) rising.1
      (still-apart new news rows rising.0 apart.1)
      ∙ ap (λ b. list_any test news || b) (any-placed order test new rows apart.0)
      ∙ swap (list_any test news) (test new) (list_any test rows)
    where
      swap : (a b c : Bool) → (a || (b || c)) ≡ ((b || a) || c)
      swap true true c = refl
      swap true false c = refl
      swap false true c = refl
      swap false false c = refl

  pub total-placed_all : (w : X → ℕ) (news rows : List X) → IsRising order news → AllApart news rows
      → total w (place_all order news rows) ≡ total w news + total w rows
  total-placed_all w [] rows rising apart = omega arith
  total-placed_all w (new ∷ news) rows rising apart =
      let rest = total-placed_all w news (place order new rows) rising.1
      (still-apart new news rows rising.0 apart.1) in
      let here = total-placed_apart order w new rows apart.0 in
      omega arith

  pub each-placed_all : (P : X → Type 0) (news rows : List X) → Each P news → Each P rows
      → Each P (place_all order news rows)
  each-placed_all P [] rows n each = each
  each-placed_all P (new ∷ news) rows n each =
      each-placed_all P news (place order new rows) n.1 (each_place P order new rows n.0 each)

  pub placed_all-rises : (news rows : List X) → IsRising order rows
      → IsRising order (place_all order news rows)
  placed_all-rises [] rows rising = rising
  placed_all-rises (new ∷ news) rows rising =
      placed_all-rises news (place order new rows) (place_rises total_order new rows rising)

-- what is found of a table in which a row was placed: the row, or what was found before
pub find-placed : {X : Type 0} (order : X → X → Ordering) (test : X → Bool) (new : X)
    (rows : List X)
    → test new ≡ true → Each (λ row. order new row ≡ Greater → test row ≡ false) rows
    → find test (place order new rows) ≡ Some new
find-placed order test new [] own others = rw own refl
find-placed order test new (row ∷ rows) own others =
    elim (order new row) as (λ o. order new row ≡ o → find test
    (place_before new row rows (place order new rows) o) ≡ Some new) [
      | Less ↦ λ _. rw own refl
      | Equal ↦ λ _. rw own refl
      | Greater ↦ λ above. rw (others.0 above) (find-placed order test new rows own others.1)
    ] refl

pub find_beside : {X : Type 0} (order : X → X → Ordering) (test : X → Bool) (new : X)
    (rows : List X)
    → test new ≡ false → Each (λ row. order new row ≡ Equal → test row ≡ false) rows
    → find test (place order new rows) ≡ find test rows
find_beside order test new [] off apart = ap (λ b. cond b (Some new) None) off
find_beside order test new (row ∷ rows) off apart =
    elim (order new row) as (λ o. order new row ≡ o → find test
    (place_before new row rows (place order new rows) o) ≡ cond (test row) (Some row)
    (find test rows)) [
      | Less ↦ λ _. ap (λ b. cond b (Some new) (cond (test row) (Some row) (find test rows))) off
      | Equal ↦ λ tie. ap (λ b. cond b (Some new) (find test rows)) off ∙ sym
          (ap (λ b. cond b (Some row) (find test rows)) (apart.0 tie))
      | Greater ↦ λ _. ap (cond (test row) (Some row))
          (find_beside order test new rows off apart.1)
    ] refl

pub find-apart : {X : Type 0} (order : X → X → Ordering) (test : X → Bool) (new : X)
    (rows : List X)
    → test new ≡ false → ((row : X) → order new row ≡ Equal → test row ≡ false)
    → find test (place order new rows) ≡ find test rows
find-apart order test new rows off apart =
    find_beside order test new rows off (each_of_all _ apart rows)

pub map-placed : {X Y : Type 0} (f : X → Y) (order : X → X → Ordering) (other : Y → Y → Ordering)
    → ((a b : X) → other (f a) (f b) ≡ order a b) → (new : X) (rows : List X)
    → map f (place order new rows) ≡ place other (f new) (map f rows)
map-placed f order other same new [] = refl
map-placed f order other same new (row ∷ rows) =
    subst (λ o. map f (place_before new row rows (place order new rows)
    (order new row)) ≡ place_before (f new) (f row) (map f rows) (place other (f new) (map f rows))
    o) (sym (same new row))
    (elim (order new row) as (λ o. map f
    (place_before new row rows (place order new rows) o) ≡ place_before (f new) (f row) (map f rows)
    (place other (f new) (map f rows)) o) [
      | Less ↦ refl
      | Equal ↦ refl
      | Greater ↦ ap (λ ys. f row ∷ ys) (map-placed f order other same new rows)
    ])

pub map-placed_all : {X Y : Type 0} (f : X → Y) (order : X → X → Ordering)
    (other : Y → Y → Ordering)
    → ((a b : X) → other (f a) (f b) ≡ order a b) → (news rows : List X)
    → map f (place_all order news rows) ≡ place_all other (map f news) (map f rows)
map-placed_all f order other same [] rows = refl
map-placed_all f order other same (new ∷ news) rows =
    map-placed_all f order other same news (place order new rows) ∙ ap
    (place_all other (map f news)) (map-placed f order other same new rows)

pub map-filter : {X Y : Type 0} (f : X → Y) (test : X → Bool) (other : Y → Bool) → (rows : List X)
    → Each (λ x. other (f x) ≡ test x) rows → map f (filter test rows) ≡ filter other (map f rows)
map-filter f test other [] same = refl
map-filter f test other (row ∷ rows) same =
    subst (λ b. map f (cond (test row) (row ∷ filter test rows) (filter test rows)) ≡ cond b
    (f row ∷ filter other (map f rows)) (filter other (map f rows))) (sym same.0)
    (elim (test row) as (λ b. map f (cond b (row ∷ filter test rows) (filter test rows)) ≡ cond b
    (f row ∷ filter other (map f rows)) (filter other (map f rows))) [
      | true ↦ ap (λ ys. f row ∷ ys) (map-filter f test other rows same.1)
      | false ↦ map-filter f test other rows same.1
    ])

pub map-changed : {X Y : Type 0} (f : X → Y) (test : X → Bool) (other : Y → Bool) (change : X → X)
    (make : Y → Y)
    → (rows : List X)
    → Each (λ x. (other (f x) ≡ test x) × (test x ≡ true → f (change x) ≡ make (f x))) rows → map f
    (change_where test change rows) ≡ change_where other make (map f rows)
map-changed f test other change make [] same = refl
map-changed f test other change make (row ∷ rows) same =
    let rest = map-changed f test other change make rows same.1 in
    subst (λ b. f (change_row change row (test row)) ∷ map f
    (change_where test change rows) ≡ change_row make (f row) b ∷ change_where other make
    (map f rows)) (sym same.0.0)
    ((elim (test row) as (λ b. test row ≡ b → f (change_row change row b) ∷ map f
    (change_where test change rows) ≡ change_row make (f row) b ∷ change_where other make
    (map f rows)) [
      | true ↦ λ is. (λ i. same.0.1 is i ∷ rest i)
      | false ↦ λ _. (λ i. f row ∷ rest i)
    ]) refl)

-- what is found of rows that change where they pass, and pass still
pub found_changed : {X : Type 0} (test : X → Bool) (change : X → X)
    → ((row : X) → test (change row) ≡ test row) → (rows : List X)
    → find test (change_where test change rows) ≡ option_map change (find test rows)
found_changed test change same [] = refl
found_changed test change same (row ∷ rows) =
    let rest = change_where test change rows in
    elim (test row) as (λ b. test row ≡ b → cond (test (change_row change row b))
    (Some (change_row change row b)) (find test rest) ≡ option_map change
    (cond b (Some row) (find test rows))) [
      | true ↦ λ is. ap (λ b. cond b (Some (change row)) (find test rest)) (same row ∙ is)
      | false ↦ λ off. ap (λ b. cond b (Some row) (find test rest)) off
          ∙ found_changed test change same rows
    ] refl

-- rows none of which passes don't change
pub change_none : {X : Type 0} (test : X → Bool) (change : X → X) (rows : List X)
    → Each (λ row. test row ≡ false) rows → change_where test change rows ≡ rows
change_none test change [] each = refl
change_none test change (row ∷ rows) each =
    λ i. change_row change row (each.0 i) ∷ change_none test change rows each.1 i

pub change_append : {X : Type 0} (test : X → Bool) (change : X → X) (xs ys : List X)
    → change_where test change (xs ++ ys)
    ≡ change_where test change xs ++ change_where test change ys
change_append test change [] ys = refl
change_append test change (x ∷ xs) ys =
    ap (λ rest. change_row change x (test x) ∷ rest) (change_append test change xs ys)
