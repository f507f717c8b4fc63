-- What holds of each row of a table, after rows are appended, mapped, kept by a test, changed or
-- placed. Cited by the other laws, and for tables, leases, names and the metaserver in memory.
use Rattle.qfs_base.specs.EachLaws.{each_append, each_weaker}
use Rattle.qfs_base.specs.Table.{Each, change_row, change_where, place, place_before, without}
use Rattle.std.proofs.Common.{Bool, List, None, Option, Some, [], ap, arith, cond, false, filter}
use Rattle.std.proofs.Common.{find, length, map, not, refl, slice_range, subst, suc, sym, true}
use Rattle.std.proofs.Common.{zero, ℕ, ⊎_elim, ◌++◌, ◌+◌, ◌<◌, ◌||◌, ◌∙◌, ◌∷◌, ◌≡◌, ◌≤◌, ◌⊎◌}
use Rattle.std.proofs.lemmas.Bool.{and_parts, or_right, true≢false}
use Rattle.std.proofs.lemmas.List.Edits.{get_or-between, length-between}
use Rattle.std.proofs.lemmas.List.Elements.{All-head, All-tail}
use Rattle.std.specs.List.{All, AllWithin, list_all, list_any, range_with_len}
use Rattle.std.specs.Prelude.{flat_map, is_none}
use Rattle.std.specs.declared.cmp.Ordering.{Ordering}
use Rattle.std.specs.declared.cmp.Ordering.TheVariants.{Equal, Greater, Less}

pub each_of_all : {X : Type 0} (P : X → Type 0) → ((x : X) → P x) → (xs : List X) → Each P xs
each_of_all P all [] = tt
each_of_all P all (x ∷ xs) = (all x, each_of_all P all xs)

pub each_both : {X : Type 0} (P Q : X → Type 0) (xs : List X) → Each P xs → Each Q xs
    → Each (λ x. P x × Q x) xs
each_both P Q [] ps qs = tt
each_both P Q (x ∷ xs) ps qs = ((ps.0, qs.0), each_both P Q xs ps.1 qs.1)

pub each_push : {X : Type 0} (P : X → Type 0) (xs : List X) (y : X) → Each P xs → P y
    → Each P (xs ++ y ∷ [])
each_push P xs y each here = each_append P xs (y ∷ []) each (here, tt)

pub each_map : {X Y : Type 0} (P : X → Type 0) (Q : Y → Type 0) (f : X → Y)
    → ((x : X) → P x → Q (f x)) → (xs : List X) → Each P xs → Each Q (map f xs)
each_map P Q f goes [] each = tt
each_map P Q f goes (x ∷ xs) each = (goes x each.0, each_map P Q f goes xs each.1)

pub each_of_map : {X Y : Type 0} (Q : Y → Type 0) (f : X → Y) (xs : List X) → Each Q (map f xs)
    → Each (λ x. Q (f x)) xs
each_of_map Q f [] each = tt
each_of_map Q f (x ∷ xs) each = (each.0, each_of_map Q f xs each.1)

-- what is so of the rows that pass
pub each_passes : {X : Type 0} (test : X → Bool) (xs : List X)
    → Each (λ x. test x ≡ true) (filter test xs)
each_passes test [] = tt
each_passes test (x ∷ xs) =
    elim (test x) as (λ b. test x ≡ b → Each (λ x. test x ≡ true)
    (cond b (x ∷ filter test xs) (filter test xs))) [
      | true ↦ λ is. (is, each_passes test xs)
      | false ↦ λ is. each_passes test xs
    ] refl

pub each_of_filter : {X : Type 0} (P : X → Type 0) (test : X → Bool) (xs : List X)
    → Each P (filter test xs) → Each (λ x. test x ≡ true → P x) xs
each_of_filter P test [] each = tt
each_of_filter P test (x ∷ xs) each =
    (elim (test x) as (λ b. Each P (cond b (x ∷ filter test xs) (filter test xs)) → (b ≡ true → P x)
    × Each (λ x. test x ≡ true → P x) xs) [
      | true ↦ λ each. ((λ _. each.0), each_of_filter P test xs each.1)
      | false ↦ λ each. ((λ is. absurd (cc)), each_of_filter P test xs each)
    ]) each

pub each_change : {X : Type 0} (P Q : X → Type 0) (test : X → Bool) (change : X → X)
    → ((x : X) → test x ≡ true → P x → Q (change x)) → ((x : X) → test x ≡ false → P x → Q x)
    → (xs : List X) → Each P xs → Each Q (change_where test change xs)
each_change P Q test change if_so if_not [] each = tt
each_change P Q test change if_so if_not (x ∷ xs) each = (
  elim (test x) as (λ b. test x ≡ b → Q (change_row change x b)) [
    | true ↦ λ is. if_so x is each.0
    | false ↦ λ is. if_not x is each.0
  ] refl,
  each_change P Q test change if_so if_not xs each.1,
)

pub each_place : {X : Type 0} (P : X → Type 0) (order : X → X → Ordering) (new : X) (xs : List X)
    → P new → Each P xs → Each P (place order new xs)
each_place P order new [] n each = (n, tt)
each_place P order new (x ∷ xs) n each =
    elim (order new x) as (λ o. Each P (place_before new x xs (place order new xs) o)) [
      | Less ↦ (n, each)
      | Equal ↦ (n, each.1)
      | Greater ↦ (each.0, each_place P order new xs n each.1)
    ]

-- what is found passes, and has what each has
pub found_has : {X : Type 0} (P : X → Type 0) (test : X → Bool) (xs : List X) (x : X)
    → find test xs ≡ Some x → Each P xs → P x × (test x ≡ true)
found_has P test [] x found each = absurd (cc)
found_has P test (y ∷ xs) x found each =
    (elim (test y) as (λ b. test y ≡ b → cond b (Some y) (find test xs) ≡ Some x → P x
    × (test x ≡ true)) [
      | true ↦ λ is found. let same : y ≡ x = cc in subst (λ z. P z × (test z ≡ true)) same
          (each.0, is)
      | false ↦ λ is found. found_has P test xs x found each.1
    ]) refl found

pub find_none : {X : Type 0} (test : X → Bool) (xs : List X) → Each (λ x. test x ≡ false) xs
    → find test xs ≡ None
find_none test [] each = refl
find_none test (x ∷ xs) each = rw each.0 (find_none test xs each.1)

pub none_found : {X : Type 0} (test : X → Bool) (xs : List X) → find test xs ≡ None
    → Each (λ x. test x ≡ false) xs
none_found test [] none = tt
none_found test (x ∷ xs) none =
    (elim (test x) as (λ b. cond b (Some x) (find test xs) ≡ None → (b ≡ false) × Each
    (λ x. test x ≡ false) xs) [
      | true ↦ λ none. absurd (cc)
      | false ↦ λ none. (refl, none_found test xs none)
    ]) none

pub each-left : {X : Type 0} (P : X → Type 0) (xs ys : List X) → Each P (xs ++ ys) → Each P xs
each-left P [] ys each = tt
each-left P (x ∷ xs) ys each = (each.0, each-left P xs ys each.1)

pub each-right : {X : Type 0} (P : X → Type 0) (xs ys : List X) → Each P (xs ++ ys) → Each P ys
each-right P [] ys each = each
each-right P (x ∷ xs) ys each = each-right P xs ys each.1

pub each_flat : {X Y : Type 0} (P : X → Type 0) (Q : Y → Type 0) (f : X → List Y)
    → ((x : X) → P x → Each Q (f x)) → (xs : List X) → Each P xs → Each Q (flat_map f xs)
each_flat P Q f goes [] each = tt
each_flat P Q f goes (x ∷ xs) each =
    each_append Q (f x) (flat_map f xs) (goes x each.0) (each_flat P Q f goes xs each.1)

pub none-is : {X : Type 0} (o : Option X) → is_none o ≡ true → o ≡ None
none-is None e = refl
none-is (Some x) e = absurd (true≢false (sym e))

pub each-self : {X : Type 0} (Q : X → Type 0) (R : X → X → Bool) → ((x : X) → Q x → R x x ≡ true)
    → (xs : List X) → Each Q xs → Each (λ x. list_any (R x) xs ≡ true) xs
each-self Q R own [] each = tt
each-self Q R own (x ∷ xs) each = (
  ap (λ b. b || list_any (R x) xs) (own x each.0),
  each_weaker (λ y. list_any (R y) xs ≡ true)
      (λ y. (R y x || list_any (R y) xs) ≡ true) (λ y any. or_right (R y x) _ any) xs
      (each-self Q R own xs each.1),
)

pub all-each : {X : Type 0} (test : X → Bool) (xs : List X) → list_all test xs ≡ true
    → Each (λ x. test x ≡ true) xs
all-each test [] all = tt
all-each test (x ∷ xs) all =
    let p = and_parts (test x) (list_all test xs) all in (p.0, all-each test xs p.1)

pub range-each : (P : ℕ → Type 0) (from n : ℕ) → Each P (range_with_len from n) → (i : ℕ) → from ≤ i
    → i < from + n → P i
range-each P from zero each i low high = absurd (omega arith)
range-each P from (suc n) each i low high =
    ⊎_elim (λ here. subst P here each.0)
    (λ later. range-each P (from + 1) n each.1 i (omega arith) (omega arith)) (first from i low)
  where
    first : (k i : ℕ) → k ≤ i → (k ≡ i) ⊎ (k < i)
    first k i a = grind arith

pub each-range : (P : ℕ → Type 0) (from n : ℕ) → ((i : ℕ) → from ≤ i → i < from + n → P i)
    → Each P (range_with_len from n)
each-range P from zero h = tt
each-range P from (suc n) h = (
  h from (omega arith) (omega arith),
  each-range P (from + 1) n
      (λ i a b. h i (omega arith) (omega arith)),
)

pub is-none : {X : Type 0} (o : Option X) → o ≡ None → is_none o ≡ true
is-none None e = refl
is-none (Some x) e = absurd (cc)

-- what holds of the row at each place holds of each row
pub each_of : {X : Type 0} (P : X → Type 0) (rows : List X) → All P rows → Each P rows
each_of P [] all = tt
each_of P (row ∷ rows) all = (All-head P row rows all, each_of P rows (All-tail P row rows all))

pub each_part : {X : Type 0} (P : X → Type 0) (rows : List X) (from to : ℕ) → from ≤ to
    → to ≤ length rows → AllWithin P rows from to → Each P (slice_range rows from to)
each_part P rows from to rises within all =
    each_of P (slice_range rows from to)
    (λ k d inside.
    let below : from + k < to = omega (arith, inside, length-between rows from to within) in
    subst P (sym (get_or-between rows from to k d below)) (all (from + k) d (omega arith) below))

-- where no row passes a test, and where each does
pub filter_none : {X : Type 0} (test : X → Bool) (rows : List X)
    → Each (λ row. test row ≡ false) rows → filter test rows ≡ []
filter_none test [] each = refl
filter_none test (row ∷ rows) each =
    ap (λ b. cond b (row ∷ filter test rows) (filter test rows)) each.0
    ∙ filter_none test rows each.1

pub filter_all : {X : Type 0} (test : X → Bool) (rows : List X)
    → Each (λ row. test row ≡ true) rows → filter test rows ≡ rows
filter_all test [] each = refl
filter_all test (row ∷ rows) each =
    ap (λ b. cond b (row ∷ filter test rows) (filter test rows)) each.0
    ∙ ap (λ rest. row ∷ rest) (filter_all test rows each.1)

pub without_none : {X : Type 0} (test : X → Bool) (rows : List X)
    → Each (λ row. test row ≡ false) rows → without test rows ≡ rows
without_none test rows each =
    filter_all (λ row. not (test row)) rows (each_weaker _ _ (λ row off. ap not off) rows each)
