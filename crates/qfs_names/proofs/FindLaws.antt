-- What is found in a table after rows are placed, taken or changed. For the tables of the tree.
use Rattle.std.proofs.Common.{Bool, List, Some, [], ap, cond, false, filter, find, map, refl, sym, true, true≢false, ◌||◌, ◌∙◌, ◌∷◌, ◌≡◌}
use Rattle.std.proofs.lemmas.Bool.{false_from_ne_true}
use Rattle.std.specs.Cmp.{IsTotalOrder}
use Rattle.std.specs.List.{list_any}
use Rattle.std.specs.Option.{option_map}
use Rattle.std.specs.Ordering.{ordering_reverse}
use Rattle.std.specs.declared.cmp.Ordering.{Ordering}
use Rattle.std.specs.declared.cmp.Ordering.TheVariants.{Equal, Less}
use Rattle.qfs_base.specs.Table.{Each, IsRising, change_row, change_where, place, place_all}
use Rattle.qfs_base.specs.EachLaws.{each_weaker}
use Rattle.qfs_laws_tables.specs.EachRow.{found_has}
use Rattle.qfs_laws_tables.specs.Keys.{greater-not, less-not}
use Rattle.qfs_laws_tables.specs.Placed.{find_beside, find-placed}

module _ {X : Type 0} where
  -- a new row that passes the test, which none passes that it doesn't tie with
  pub find-placed_on : (order : X → X → Ordering) (test : X → Bool) (new : X) (rows : List X)
      → test new ≡ true → Each (λ row. test row ≡ true → order new row ≡ Equal) rows
      → find test (place order new rows) ≡ Some new
  find-placed_on order test new rows on each =
      find-placed order test new rows on (each_weaker _ _ (λ row only above.
      false_from_ne_true (test row) (λ is. greater-not (sym above ∙ only is))) rows each)

  -- rows that are kept: those that pass the test are
  pub find-kept : (test keep : X → Bool) (rows : List X)
      → Each (λ row. test row ≡ true → keep row ≡ true) rows
      → find test (filter keep rows) ≡ find test rows
  find-kept test keep [] each = refl
  find-kept test keep (row ∷ rows) each =
      let rest = find-kept test keep rows each.1 in
      (elim (keep row) as (λ k. keep row ≡ k → find test
      (cond k (row ∷ filter keep rows) (filter keep rows)) ≡ cond (test row) (Some row)
      (find test rows)) [
        | true ↦ λ _. ap (cond (test row) (Some row)) rest
        | false ↦ λ off. (elim (test row) as (λ b. test row ≡ b → find test
            (filter keep rows) ≡ cond b (Some row) (find test rows)) [
              | true ↦ λ is. absurd (true≢false (sym (each.0 is) ∙ off))
              | false ↦ λ _. rest
            ]) refl
      ]) refl

  -- rows that are changed: neither they nor what they become pass the test
  pub find-changed : (test changed : X → Bool) (change : X → X) (rows : List X)
      → Each (λ row. changed row ≡ true → (test row ≡ false) × (test (change row) ≡ false)) rows
      → find test (change_where changed change rows) ≡ find test rows
  find-changed test changed change [] each = refl
  find-changed test changed change (row ∷ rows) each =
      let rest = find-changed test changed change rows each.1 in
      (elim (changed row) as (λ c. changed row ≡ c → find test
      (change_row change row c ∷ change_where changed change rows) ≡ find test (row ∷ rows)) [
        | true ↦ λ is. rw ((each.0 is).0, (each.0 is).1) rest
        | false ↦ λ _. ap (cond (test row) (Some row)) rest
      ]) refl

  pub find-agree : (test other : X → Bool) (rows : List X) → Each (λ row. test row ≡ other row) rows
      → find test rows ≡ find other rows
  find-agree test other [] each = refl
  find-agree test other (row ∷ rows) each =
      (λ i. cond (each.0 i) (Some row) (find-agree test other rows each.1 i))

  pub filter-agree : (test other : X → Bool) (rows : List X)
      → Each (λ row. test row ≡ other row) rows → filter test rows ≡ filter other rows
  filter-agree test other [] each = refl
  filter-agree test other (row ∷ rows) each =
      (λ i. cond (each.0 i) (row ∷ filter-agree test other rows each.1 i)
      (filter-agree test other rows each.1 i))

  pub change-agree : (test other : X → Bool) (change : X → X) (rows : List X)
      → Each (λ row. test row ≡ other row) rows
      → change_where test change rows ≡ change_where other change rows
  change-agree test other change [] each = refl
  change-agree test other change (row ∷ rows) each =
      (λ i. change_row change row (each.0 i) ∷ change-agree test other change rows each.1 i)

  -- the one row that passes, if any does
  pub find-one : (test : X → Bool) (one : X) (rows : List X)
      → Each (λ row. test row ≡ true → row ≡ one) rows → list_any test rows ≡ true
      → find test rows ≡ Some one
  find-one test one [] each any = absurd (cc)
  find-one test one (row ∷ rows) each any =
      (elim (test row) as (λ b. test row ≡ b → (b || list_any test rows) ≡ true
      → cond b (Some row) (find test rows) ≡ Some one) [
        | true ↦ λ is _. ap Some (each.0 is)
        | false ↦ λ _ any. find-one test one rows each.1 any
      ]) refl any

  -- what is found is the only row that ties with it
  pub found-alone : (order : X → X → Ordering) → IsTotalOrder order → (test : X → Bool)
      → (rows : List X) (found : X) → IsRising order rows → find test rows ≡ Some found
      → Each (λ row. order found row ≡ Equal → row ≡ found) rows
  found-alone order total test [] found rising is = absurd (cc)
  found-alone order total test (row ∷ rows) found rising is =
      (elim (test row) as (λ b. cond b (Some row) (find test rows) ≡ Some found
      → (order found row ≡ Equal → row ≡ found) × Each
      (λ row. order found row ≡ Equal → row ≡ found) rows) [
        | true ↦ λ is.
            let same : row ≡ found = cc in (
              (λ _. same),
              each_weaker (λ later. order row later ≡ Less) _
                  (λ later less tie. absurd
                  (less-not (sym less ∙ ap (λ x. order x later) same ∙ tie))) rows rising.0,
            )
        | false ↦ λ is. (
          (λ tie. absurd
              (let less : order row found ≡ Less =
              (found_has (λ later. order row later ≡ Less) test rows found is rising.0).0 in
              less-not (sym less ∙ total.antisymm row found ∙ ap ordering_reverse tie))),
          found-alone order total test rows found rising.1 is,
        )
      ]) is

  -- rows that are placed one after another, none of which passes the test or ties with one that
  -- does
  pub find-placed_all_off : (order : X → X → Ordering) (test : X → Bool) (news rows : List X)
      → Each (λ new. (test new ≡ false) × ((row : X) → order new row ≡ Equal → test row ≡ false)) news
      → find test (place_all order news rows) ≡ find test rows
  find-placed_all_off order test [] rows each = refl
  find-placed_all_off order test (new ∷ news) rows each =
      find-placed_all_off order test news (place order new rows) each.1
      ∙ find_beside order test new rows each.0.0 (all rows)
    where
      all : (xs : List X) → Each (λ row. order new row ≡ Equal → test row ≡ false) xs
      all [] = tt
      all (x ∷ xs) = (each.0.1 x, all xs)

  -- one of which does, as only rows do that tie with it
  pub find-placed_all_on : (order : X → X → Ordering) (test : X → Bool) (one : X)
      → (news rows : List X)
      → ((new row : X) → order new row ≡ Equal → test new ≡ test row)
      → ((new row : X) → test new ≡ true → test row ≡ true → order new row ≡ Equal)
      → Each (λ new. test new ≡ true → new ≡ one) news → list_any test news ≡ true
      → find test (place_all order news rows) ≡ Some one
  find-placed_all_on order test one [] rows keyed ties each any = absurd (cc)
  find-placed_all_on order test one (new ∷ news) rows keyed ties each any =
      (elim (list_any test news) as (λ b. list_any test news ≡ b
      → (test new || b) ≡ true → find test (place_all order news (place order new rows)) ≡ Some one) [
        | true ↦ λ more _. find-placed_all_on order test one news (place order new rows) keyed ties
            each.1 more
        | false ↦ λ none here.
            let on : test new ≡ true = last (test new) here in
            find-placed_all_off order test news (place order new rows) (off news none)
            ∙ find-placed_on order test new rows on (all new on rows) ∙ ap Some (each.0 on)
      ]) refl any
    where
      last : (b : Bool) → (b || false) ≡ true → b ≡ true
      last true e = refl
      last false e = absurd (cc)

      all : (new : X) → test new ≡ true → (xs : List X)
          → Each (λ row. test row ≡ true → order new row ≡ Equal) xs
      all new on [] = tt
      all new on (x ∷ xs) = ((λ is. ties new x on is), all new on xs)

      off : (xs : List X) → list_any test xs ≡ false
          → Each (λ new. (test new ≡ false) × ((row : X) → order new row ≡ Equal → test row ≡ false)) xs
      off [] none = tt
      off (x ∷ xs) none =
          (elim (test x) as (λ b. test x ≡ b → (b || list_any test xs) ≡ false
          → ((b ≡ false) × ((row : X) → order x row ≡ Equal → test row ≡ false)) × Each
          (λ new. (test new ≡ false) × ((row : X) → order new row ≡ Equal → test row ≡ false)) xs) [
            | true ↦ λ _ none. absurd (cc)
            | false ↦ λ is none. ((refl, λ row tie. sym (keyed x row tie) ∙ is), off xs none)
          ]) refl none

pub find-mapped : {X Y : Type 0} (f : X → Y) (test : X → Bool) (other : Y → Bool) (rows : List X)
    → Each (λ row. other (f row) ≡ test row) rows
    → find other (map f rows) ≡ option_map f (find test rows)
find-mapped f test other [] each = refl
find-mapped f test other (row ∷ rows) each =
    ap (λ b. cond b (Some (f row)) (find other (map f rows))) each.0
    ∙ (elim (test row) as (λ b. cond b (Some (f row)) (find other (map f rows))
    ≡ option_map f (cond b (Some row) (find test rows)))
    [ true ↦ refl | false ↦ find-mapped f test other rows each.1 ])
