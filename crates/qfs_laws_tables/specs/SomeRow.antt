-- Whether some row of a table passes a test, after rows are appended, mapped, kept by a test or
-- changed. Cited by the other laws, and for leases and names.
use Rattle.qfs_base.specs.Table.{Each, change_row, change_where}
use Rattle.qfs_base.specs.declared.image.TreeRow.{TreeRow}
use Rattle.std.proofs.Common.{Bool, List, None, Some, [], ap, cond, false, filter, find, map, refl}
use Rattle.std.proofs.Common.{true, ◌++◌, ◌||◌, ◌∙◌, ◌∷◌, ◌≡◌}
use Rattle.std.specs.List.{list_any}
use Rattle.std.specs.Prelude.{is_some}

pub any_each : {X : Type 0} (Y : Type 0) (P : X → Type 0) (test : X → Bool)
    → ((x : X) → P x → test x ≡ true → Y) → (xs : List X) → Each P xs → list_any test xs ≡ true → Y
any_each Y P test goes [] each any = absurd (cc)
any_each Y P test goes (x ∷ xs) each any =
    (elim (test x) as (λ b. test x ≡ b → (b || list_any test xs) ≡ true → Y) [
      | true ↦ λ is any. goes x each.0 is
      | false ↦ λ is any. any_each Y P test goes xs each.1 any
    ]) refl any

pub any_append : {X : Type 0} (test : X → Bool) (xs ys : List X) → list_any test xs ≡ true
    → list_any test (xs ++ ys) ≡ true
any_append test [] ys any = absurd (cc)
any_append test (x ∷ xs) ys any =
    (elim (test x) as (λ b. (b || list_any test xs) ≡ true
    → (b || list_any test (xs ++ ys)) ≡ true) [
      | true ↦ λ any. refl
      | false ↦ λ any. any_append test xs ys any
    ]) any

pub any_last : {X : Type 0} (test : X → Bool) (xs : List X) (y : X) → test y ≡ true
    → list_any test (xs ++ y ∷ []) ≡ true
any_last test [] y is = rw is refl
any_last test (x ∷ xs) y is =
    elim (test x) as (λ b. (b || list_any test (xs ++ y ∷ [])) ≡ true)
    [ true ↦ refl | false ↦ any_last test xs y is ]

pub any_of_append : {X : Type 0} (test : X → Bool) (xs ys : List X)
    → list_any test (xs ++ ys) ≡ (list_any test xs || list_any test ys)
any_of_append test [] ys = refl
any_of_append test (x ∷ xs) ys =
    elim (test x) as (λ b. (b || list_any test (xs ++ ys)) ≡ ((b || list_any test xs) || list_any
    test ys)) [ true ↦ refl | false ↦ any_of_append test xs ys ]

-- a row that passes one test is still there after those were dropped that pass another
pub any_filter : {X : Type 0} (test keep : X → Bool) → ((x : X) → test x ≡ true → keep x ≡ true)
    → (xs : List X) → list_any test xs ≡ true → list_any test (filter keep xs) ≡ true
any_filter test keep stays [] any = absurd (cc)
any_filter test keep stays (x ∷ xs) any =
    (elim (keep x) as (λ k. keep x ≡ k → (test x || list_any test xs) ≡ true → list_any test
    (cond k (x ∷ filter keep xs) (filter keep xs)) ≡ true) [
      | true ↦ λ is. elim (test x) as
          (λ b. (b || list_any test xs) ≡ true → (b || list_any test (filter keep xs)) ≡ true) [
            | true ↦ λ any. refl
            | false ↦ λ any. any_filter test keep stays xs any
          ]
      | false ↦ λ is. elim (test x) as
          (λ b. test x ≡ b → (b || list_any test xs) ≡ true
          → list_any test (filter keep xs) ≡ true) [
            | true ↦ λ t any. let k = stays x t in absurd (cc)
            | false ↦ λ t any. any_filter test keep stays xs any
          ] refl
    ]) refl any

pub any_of_filter : {X : Type 0} (test keep : X → Bool) (xs : List X)
    → list_any test (filter keep xs) ≡ true → list_any test xs ≡ true
any_of_filter test keep [] any = absurd (cc)
any_of_filter test keep (x ∷ xs) any =
    (elim (keep x) as (λ k. list_any test (cond k (x ∷ filter keep xs) (filter keep xs)) ≡ true →
    (test x || list_any test xs) ≡ true) [
      | true ↦ elim (test x) as (λ b. (b || list_any test (filter keep xs)) ≡ true →
          (b || list_any test xs) ≡ true) [
            | true ↦ λ any. refl
            | false ↦ λ any. any_of_filter test keep xs any
          ]
      | false ↦ λ any. elim (test x) as (λ b. (b || list_any test xs) ≡ true)
          [ true ↦ refl | false ↦ any_of_filter test keep xs any ]
    ]) any

pub any_map : {X Y : Type 0} (test : X → Bool) (other : Y → Bool) (f : X → Y)
    → ((x : X) → test x ≡ true → other (f x) ≡ true) → (xs : List X) → list_any test xs ≡ true
    → list_any other (map f xs) ≡ true
any_map test other f stays [] any = absurd (cc)
any_map test other f stays (x ∷ xs) any =
    (elim (test x) as (λ b. test x ≡ b → (b || list_any test xs) ≡ true →
    (other (f x) || list_any other (map f xs)) ≡ true) [
      | true ↦ λ is any. rw (stays x is) refl
      | false ↦ λ is any. elim (other (f x)) as (λ b. (b || list_any other (map f xs)) ≡ true)
          [ true ↦ refl | false ↦ any_map test other f stays xs any ]
    ]) refl any

-- the same of changed rows
pub any_change : {X : Type 0} (test : X → Bool) (changed : X → Bool) (change : X → X)
    → ((x : X) → test x ≡ true → changed x ≡ true → test (change x) ≡ true) → (xs : List X)
    → list_any test xs ≡ true → list_any test (change_where changed change xs) ≡ true
any_change test changed change stays [] any = absurd (cc)
any_change test changed change stays (x ∷ xs) any =
    let rest = any_change test changed change stays xs in
    (elim (test x) as (λ b. test x ≡ b → (b || list_any test xs) ≡ true →
    (test (change_row change x (changed x)) || list_any test
    (change_where changed change xs)) ≡ true) [
      | true ↦ λ is any. rw (elim (changed x) as
          (λ c. changed x ≡ c → test (change_row change x c) ≡ true)
          [ true ↦ λ c. stays x is c | false ↦ λ c. is ] refl) refl
      | false ↦ λ is any. elim (test (change_row change x (changed x))) as
          (λ b. (b || list_any test (change_where changed change xs)) ≡ true)
          [ true ↦ refl | false ↦ rest any ]
    ]) refl any

pub any_filter_given : {X : Type 0} (P : X → Type 0) (test keep : X → Bool)
    → ((x : X) → P x → test x ≡ true → keep x ≡ true) → (xs : List X) → Each P xs
    → list_any test xs ≡ true → list_any test (filter keep xs) ≡ true
any_filter_given P test keep stays [] each any = absurd (cc)
any_filter_given P test keep stays (x ∷ xs) each any =
    (elim (keep x) as (λ k. keep x ≡ k → (test x || list_any test xs) ≡ true → list_any test
    (cond k (x ∷ filter keep xs) (filter keep xs)) ≡ true) [
      | true ↦ λ is. elim (test x) as
          (λ b. (b || list_any test xs) ≡ true → (b || list_any test (filter keep xs)) ≡ true) [
            | true ↦ λ any. refl
            | false ↦ λ any. any_filter_given P test keep stays xs each.1 any
          ]
      | false ↦ λ is. elim (test x) as
          (λ b. test x ≡ b → (b || list_any test xs) ≡ true
          → list_any test (filter keep xs) ≡ true) [
            | true ↦ λ t any. let k = stays x each.0 t in absurd (cc)
            | false ↦ λ t any. any_filter_given P test keep stays xs each.1 any
          ] refl
    ]) refl any

pub any_of_change : {X : Type 0} (test other : X → Bool) (changed : X → Bool) (change : X → X)
    → ((x : X) → test (change x) ≡ true → other x ≡ true)
    → ((x : X) → test x ≡ true → other x ≡ true)
    → (xs : List X) → list_any test (change_where changed change xs) ≡ true → list_any other
    xs ≡ true
any_of_change test other changed change back same [] any = absurd (cc)
any_of_change test other changed change back same (x ∷ xs) any =
    (elim (other x) as (λ b. other x ≡ b → (b || list_any other xs) ≡ true) [
      | true ↦ λ _. refl
      | false ↦ λ off. any_of_change test other changed change back same xs
          (rest (changed x) off any)
    ]) refl
  where
    rest : (c : Bool) → other x ≡ false
        → (test (change_row change x c) || list_any test (change_where changed change xs)) ≡ true
        → list_any test (change_where changed change xs) ≡ true
    rest c off any = one (test (change_row change x c)) refl c off any
      where
        one : (t : Bool) → test (change_row change x c) ≡ t → (c : Bool) → other x ≡ false
            → (t || list_any test (change_where changed change xs)) ≡ true
            → list_any test (change_where changed change xs) ≡ true
        one false is c off any = any
        one true is c' off any = absurd (cases c is)
          where
            cases : (c : Bool) → test (change_row change x c) ≡ true → ⊥
            cases true is = let o = back x is in cc
            cases false is = let o = same x is in cc

pub none_any : {X : Type 0} (test : X → Bool) (xs : List X) → list_any test xs ≡ false
    → Each (λ x. test x ≡ false) xs
none_any test [] none = tt
none_any test (x ∷ xs) none =
    (elim (test x) as (λ b. (b || list_any test xs) ≡ false → (b ≡ false) × Each
    (λ x. test x ≡ false) xs) [
      | true ↦ λ none. absurd (cc)
      | false ↦ λ none. (refl, none_any test xs none)
    ]) none

-- the same, where each row has a fact
pub any_change_given : {X : Type 0} (P : X → Type 0) (test : X → Bool) (changed : X → Bool)
    (change : X → X)
    → ((x : X) → P x → test x ≡ true → changed x ≡ true → test (change x) ≡ true)
    → (xs : List X) → Each P xs → list_any test xs ≡ true → list_any test
    (change_where changed change xs) ≡ true
any_change_given P test changed change stays [] each any = absurd (cc)
any_change_given P test changed change stays (x ∷ xs) each any =
    let rest = any_change_given P test changed change stays xs each.1 in
    (elim (test x) as (λ b. test x ≡ b → (b || list_any test xs) ≡ true →
    (test (change_row change x (changed x)) || list_any test
    (change_where changed change xs)) ≡ true) [
      | true ↦ λ is any. rw (elim (changed x) as
          (λ c. changed x ≡ c → test (change_row change x c) ≡ true)
          [ true ↦ λ c. stays x each.0 is c | false ↦ λ c. is ] refl) refl
      | false ↦ λ is any. elim (test (change_row change x (changed x))) as
          (λ b. (b || list_any test (change_where changed change xs)) ≡ true)
          [ true ↦ refl | false ↦ rest any ]
    ]) refl any

pub found-any : {X : Type 0} (test other : X → Bool) (xs : List X) (x : X) → find test xs ≡ Some x
    → other x ≡ true → list_any other xs ≡ true
found-any test other [] x found is = absurd (cc)
found-any test other (y ∷ xs) x found is =
    (elim (test y) as (λ b. cond b (Some y) (find test xs) ≡ Some x →
    (other y || list_any other xs) ≡ true) [
      | true ↦ λ found. let e : y ≡ x = cc in ap (λ b. b || list_any other xs) (ap other e ∙ is)
      | false ↦ λ found. elim (other y) as (λ b. (b || list_any other xs) ≡ true)
          [ true ↦ refl | false ↦ found-any test other xs x found is ]
    ]) found

pub some-any : {X : Type 0} (test : X → Bool) (xs : List X)
    → is_some (find test xs) ≡ list_any test xs
some-any test [] = refl
some-any test (x ∷ xs) =
    elim (test x) as (λ b. is_some (cond b (Some x) (find test xs)) ≡ (b || list_any test xs))
    [ true ↦ refl | false ↦ some-any test xs ]

pub none-there : (test : TreeRow → Bool) (rows : List TreeRow) → find test rows ≡ None
    → list_any test rows ≡ true → ⊥
none-there test [] none any = cc
none-there test (row ∷ rows) none any =
    (elim (test row) as (λ b. cond b (Some row) (find test rows) ≡ None →
    (b || list_any test rows) ≡ true → ⊥) [
      | true ↦ λ none any. cc
      | false ↦ λ none any. none-there test rows none any
    ]) none any

pub any_none : {X : Type 0} (test : X → Bool) (rows : List X) → Each (λ row. test row ≡ false) rows
    → list_any test rows ≡ false
any_none test [] each = refl
any_none test (row ∷ rows) each = rw each.0 (any_none test rows each.1)

pub any_mapped : {X Y : Type 0} (f : X → Y) (test : Y → Bool) (rows : List X)
    → list_any test (map f rows) ≡ list_any (λ row. test (f row)) rows
any_mapped f test [] = refl
any_mapped f test (row ∷ rows) = ap (λ b. test (f row) || b) (any_mapped f test rows)
