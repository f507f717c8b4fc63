-- The rows of a table that have a key stand next to each other, and a binary search finds them.
use Rattle.std.proofs.Common.{◌≡◌, ℕ, zero, suc, ◌+◌, ◌-◌, ◌≤◌, ◌<◌, nat_lt, Bool, true, false, cond, not, List, [], ◌∷◌, ◌++◌, length, take, drop, map, filter, find, slice_range, slice_get, slice_set, slice_index_or, insert, Some, true≢false, refl, sym, ap, ◌∙◌, subst, add-one, append_assoc, length-append, arith}
use Rattle.std.proofs.lemmas.Bool.Decides.{nat_tests}
use Rattle.std.proofs.lemmas.List.{append-nil, nil_from_length, take-append-drop, drop-drop, set_split, length-take-le, take_at, drop_at}
use Rattle.std.proofs.lemmas.List.Edits.{length-between}
use Rattle.std.proofs.lemmas.List.Elements.{filter-append}
use Rattle.std.proofs.lemmas.List.Folds.{drop_split}
use Rattle.std.proofs.lemmas.Slice.{between_from_start, between_to_end}
use Rattle.std.specs.Cmp.{IsTotalOrder}
use Rattle.std.specs.List.{AllWithin}
use Rattle.std.specs.List.Sorted.{IsPartitionPoint}
use Rattle.std.specs.Ordering.{is_eq, is_gt, is_ge, is_le, ordering_reverse, ordering_then}
use Rattle.std.specs.declared.cmp.Ordering.{Ordering}
use Rattle.std.specs.declared.cmp.Ordering.TheVariants.{Less, Equal, Greater}
use Rattle.qfs_base.specs.Table.{Each, IsRising, place, place_before, change_row, change_where, without}
use Rattle.qfs_meta.specs.declared.rows.Run.{Run}
use Rattle.qfs_meta.specs.Runs.{IsInOrder, IsRun}
use Rattle.qfs_base.specs.EachLaws.{each_all, each_weaker}
use Rattle.qfs_laws_tables.specs.EachRow.{each_part, filter_all, filter_none}
use Rattle.qfs_laws_tables.specs.Placed.{change_append, change_none}

-- ---- what a comparison was

gt_is : (o : Ordering) → is_gt o ≡ true → o ≡ Greater
gt_is Less e = absurd (true≢false (sym e))
gt_is Equal e = absurd (true≢false (sym e))
gt_is Greater e = refl

eq_is : (o : Ordering) → is_gt o ≡ false → is_ge o ≡ true → o ≡ Equal
eq_is Less e f = absurd (true≢false (sym f))
eq_is Equal e f = refl
eq_is Greater e f = absurd (true≢false e)

lt_is : (o : Ordering) → is_ge o ≡ false → o ≡ Less
lt_is Less e = refl
lt_is Equal e = absurd (true≢false e)
lt_is Greater e = absurd (true≢false e)

pub first_le : (o p : Ordering) → is_le (ordering_then o p) ≡ true → is_le o ≡ true
first_le Less p e = refl
first_le Equal p e = refl
first_le Greater p e = e

-- ---- a table in the order of its keys

rising_at : {X : Type 0} (order : X → X → Ordering) (rows : List X) (i j : ℕ) (d : X) → IsRising order rows → i < j → j < length rows →
    order (slice_index_or rows i d) (slice_index_or rows j d) ≡ Less
rising_at order [] i j d rising below within = absurd (omega arith)
rising_at order (row ∷ rows) i zero d rising below within = absurd (omega arith)
rising_at order (row ∷ rows) zero (suc j) d rising below within = each_all (λ later. order row later ≡ Less) rows rising.0 j d (omega arith)
rising_at order (row ∷ rows) (suc i) (suc j) d rising below within = rising_at order rows i j d rising.1 (omega arith) (omega arith)

-- a key that is above a row is above those before it, and one that isn't below it isn't below them
abbrev pub Falls : Ordering → Ordering → Type 0
Falls first later = (is_gt later ≡ true → is_gt first ≡ true) × (is_ge later ≡ true → is_ge first ≡ true)

below_or_there : (i j : ℕ) → i ≤ j → nat_lt i j ≡ false → i ≡ j
below_or_there i j le not_below = grind (arith, nat_tests)

is_lower : (i j : ℕ) → nat_lt i j ≡ true → i < j
is_lower i j below = grind (arith, nat_tests)

passes_on : {X : Type 0} (order : X → X → Ordering) (test : X → Bool) → ((a b : X) → order a b ≡ Less → test b ≡ true → test a ≡ true) →
    (rows : List X) → IsRising order rows → (i j : ℕ) (d : X) → i ≤ j → j < length rows →
    test (slice_index_or rows j d) ≡ true → test (slice_index_or rows i d) ≡ true
passes_on order test falls rows rising i j d le within passes =
    elim (nat_lt i j) as (λ b. nat_lt i j ≡ b → test (slice_index_or rows i d) ≡ true) [
      | true ↦ λ below. falls _ _ (rising_at order rows i j d rising (is_lower i j below) within) passes
      | false ↦ λ there. ap (λ k. test (slice_index_or rows k d)) (below_or_there i j le there) ∙ passes
    ] refl

pub in_order : {X : Type 0} (order : X → X → Ordering) (key : X → Ordering) → ((a b : X) → order a b ≡ Less → Falls (key a) (key b)) →
    (rows : List X) → IsRising order rows → IsInOrder key rows
in_order order key falls rows rising = (
  passes_on order (λ row. is_gt (key row)) (λ a b below. (falls a b below).0) rows rising,
  passes_on order (λ row. is_ge (key row)) (λ a b below. (falls a b below).1) rows rising,
)

module _ {K : Type 0} {cmp : K → K → Ordering} (total : IsTotalOrder cmp) where
  lower : (x y k : K) → is_le (cmp x y) ≡ true → cmp y k ≡ Less → cmp x k ≡ Less
  lower x y k le below =
      elim (cmp x y) as (λ o. cmp x y ≡ o → is_le o ≡ true → cmp x k ≡ Less) [
        | Less ↦ λ less le. total.trans x y k less below
        | Equal ↦ λ same le. total.congr x y k same ∙ below
        | Greater ↦ λ above le. absurd (true≢false (sym le))
      ] refl le

  higher : (k x y : K) → is_le (cmp x y) ≡ true → cmp k x ≡ Less → cmp k y ≡ Less
  higher k x y le below =
      elim (cmp x y) as (λ o. cmp x y ≡ o → is_le o ≡ true → cmp k y ≡ Less) [
        | Less ↦ λ less le. total.trans k x y below less
        | Equal ↦ λ same le. total.antisymm k y ∙ ap ordering_reverse (sym (total.congr x y k same)) ∙ sym (total.antisymm k x) ∙ below
        | Greater ↦ λ above le. absurd (true≢false (sym le))
      ] refl le

  -- a key compares with a lower one and then with a higher one
  pub key_falls : (k x y : K) → is_le (cmp x y) ≡ true → Falls (cmp k x) (cmp k y)
  key_falls k x y le = (
    λ above. ap is_gt (total.antisymm k x ∙ ap ordering_reverse (lower x y k le (total.antisymm y k ∙ ap ordering_reverse (gt_is _ above)))),
    λ not_below.
        elim (cmp k x) as (λ o. cmp k x ≡ o → is_ge o ≡ true) [
          | Less ↦ λ below. absurd (true≢false (sym not_below ∙ ap is_ge (higher k x y le below)))
          | Equal ↦ λ same. refl
          | Greater ↦ λ above. refl
        ] refl,
  )

-- a table is in order by each row
pub by_row : {X : Type 0} {order : X → X → Ordering} → IsTotalOrder order → (row : X) (rows : List X) → IsRising order rows → IsInOrder (order row) rows
by_row {order = order} total row = in_order order (order row) (λ a b below. key_falls total row a b (ap is_le below))

-- ---- what the searches find

run_rises : {X : Type 0} (order : X → Ordering) (rows : List X) (from to : ℕ) → from ≤ length rows →
    AllWithin (λ row. is_gt (order row) ≡ true) rows 0 from → AllWithin (λ row. is_ge (order row) ≡ false) rows to (length rows) → from ≤ to
run_rises order [] from to within above behind = omega arith
run_rises order (row ∷ rows) from to within above behind =
    elim (nat_lt to from) as (λ b. nat_lt to from ≡ b → from ≤ to) [
      | true ↦ λ back.
          let lower : to < from = is_lower to from back in
          let gt = gt_is _ (above to row (omega arith) lower) in
          absurd (true≢false (sym (ap is_ge gt) ∙ behind to row (omega arith) (omega arith)))
      | false ↦ λ rises. grind (arith, nat_tests)
    ] refl

pub run_is : {X : Type 0} (order : X → Ordering) (rows : List X) (from to : ℕ) → from ≤ length rows → to ≤ length rows →
    IsPartitionPoint (λ row. is_gt (order row) ≡ true) (λ row. is_gt (order row) ≡ false) rows from →
    IsPartitionPoint (λ row. is_ge (order row) ≡ true) (λ row. is_ge (order row) ≡ false) rows to →
    IsRun order rows (record { start = from; end = to })
run_is order rows from to from_within to_within first last =
    let rises = run_rises order rows from to from_within first.0 last.1 in
    record {
      rises = rises;
      within = to_within;
      before = subst (Each _) (between_from_start rows from)
          (each_part _ rows 0 from (omega arith) from_within (λ k d low high. gt_is _ (first.0 k d low high)));
      inside = each_part _ rows from to rises to_within
          (λ k d low high. eq_is _ (first.1 k d low (omega arith)) (last.0 k d (omega arith) high));
      behind = subst (Each _) (between_to_end rows to (length rows) (omega arith))
          (each_part _ rows to (length rows) to_within (omega arith) (λ k d low high. lt_is _ (last.1 k d low high)));
    }

-- ---- the three parts of a table, by a test that the rows with the key pass

pub record IsPart {X : Type 0} (test : X → Bool) (rows : List X) (run : Run) : Type 0 where
  pub rises : run.start ≤ run.end
  pub before : Each (λ row. test row ≡ false) (take run.start rows)
  pub inside : Each (λ row. test row ≡ true) (slice_range rows run.start run.end)
  pub behind : Each (λ row. test row ≡ false) (drop run.end rows)

pub part_of : {X : Type 0} (test : X → Bool) (order : X → Ordering) (rows : List X) (run : Run) → ((row : X) → test row ≡ is_eq (order row)) →
    IsRun order rows run → IsPart test rows run
part_of test order rows run same is = record {
  rises = is.rises;
  before = each_weaker _ _ (λ row e. same row ∙ ap is_eq e) _ is.before;
  inside = each_weaker _ _ (λ row e. same row ∙ ap is_eq e) _ is.inside;
  behind = each_weaker _ _ (λ row e. same row ∙ ap is_eq e) _ is.behind;
}

pub three_parts : {X : Type 0} (rows : List X) (from to : ℕ) → from ≤ to → rows ≡ take from rows ++ (slice_range rows from to ++ drop to rows)
three_parts rows from to rises = sym (take-append-drop from rows) ∙ ap (λ rest. take from rows ++ rest) (drop_split rows from to rises)

-- the rows that pass are those of the run
pub filter_part : {X : Type 0} (test : X → Bool) (rows : List X) (run : Run) → IsPart test rows run → filter test rows ≡ slice_range rows run.start run.end
filter_part {X = X} test rows run part =
    let before : List X = take run.start rows in
    let inside : List X = slice_range rows run.start run.end in
    let behind : List X = drop run.end rows in
    ap (filter test) (three_parts rows run.start run.end part.rises)
    ∙ filter-append test before (inside ++ behind)
    ∙ ap (λ front. front ++ filter test (inside ++ behind)) (filter_none test before part.before)
    ∙ filter-append test inside behind
    ∙ (λ i. filter_all test inside part.inside i ++ filter_none test behind part.behind i)
    ∙ append-nil inside

-- none passes where the run is empty
pub filter_empty : {X : Type 0} (test : X → Bool) (rows : List X) (run : Run) → IsPart test rows run → run.end ≤ length rows → run.end ≤ run.start → filter test rows ≡ []
filter_empty test rows run part within empty =
    filter_part test rows run part
    ∙ nil_from_length (slice_range rows run.start run.end) (omega (arith, length-between rows run.start run.end within, empty))

-- those that don't are the others
pub without_part : {X : Type 0} (test : X → Bool) (rows : List X) (run : Run) → IsPart test rows run → without test rows ≡ take run.start rows ++ drop run.end rows
without_part {X = X} test rows run part =
    let other : X → Bool = λ row. not (test row) in
    let before : List X = take run.start rows in
    let inside : List X = slice_range rows run.start run.end in
    let behind : List X = drop run.end rows in
    ap (filter other) (three_parts rows run.start run.end part.rises)
    ∙ filter-append other before (inside ++ behind)
    ∙ (λ i. filter_all other before (each_weaker _ _ (λ row e. ap not e) before part.before) i ++ filter-append other inside behind i)
    ∙ (λ i. before ++ (filter_none other inside (each_weaker _ _ (λ row e. ap not e) inside part.inside) i
    ++ filter_all other behind (each_weaker _ _ (λ row e. ap not e) behind part.behind) i))

change_all : {X : Type 0} (test : X → Bool) (change : X → X) (rows : List X) → Each (λ row. test row ≡ true) rows → change_where test change rows ≡ map change rows
change_all test change [] each = refl
change_all test change (row ∷ rows) each = λ i. change_row change row (each.0 i) ∷ change_all test change rows each.1 i

-- a change of the rows that pass changes those of the run
pub change_part : {X : Type 0} (test : X → Bool) (change : X → X) (rows : List X) (run : Run) → IsPart test rows run →
    change_where test change rows ≡ take run.start rows ++ (map change (slice_range rows run.start run.end) ++ drop run.end rows)
change_part {X = X} test change rows run part =
    let before : List X = take run.start rows in
    let inside : List X = slice_range rows run.start run.end in
    let behind : List X = drop run.end rows in
    ap (change_where test change) (three_parts rows run.start run.end part.rises)
    ∙ change_append test change before (inside ++ behind)
    ∙ (λ i. change_none test change before part.before i ++ change_append test change inside behind i)
    ∙ (λ i. before ++ (change_all test change inside part.inside i ++ change_none test change behind part.behind i))

-- the first row that passes
pub find_first : {X : Type 0} (test : X → Bool) (rows : List X) → find test rows ≡ slice_get (filter test rows) 0
find_first test [] = refl
find_first test (row ∷ rows) =
    elim (test row) as (λ b. cond b (Some row) (find test rows) ≡ slice_get (cond b (row ∷ filter test rows) (filter test rows)) 0)
    [ true ↦ refl | false ↦ find_first test rows ]

-- ---- where a row is placed

place_behind : {X : Type 0} (order : X → X → Ordering) (new : X) (xs ys : List X) → Each (λ row. order new row ≡ Greater) xs → place order new (xs ++ ys) ≡ xs ++ place order new ys
place_behind order new [] ys each = refl
place_behind order new (x ∷ xs) ys each =
    ap (place_before new x (xs ++ ys) (place order new (xs ++ ys))) each.0 ∙ ap (λ rest. x ∷ rest) (place_behind order new xs ys each.1)

place_ahead : {X : Type 0} (order : X → X → Ordering) (new : X) (rows : List X) → Each (λ row. order new row ≡ Less) rows → place order new rows ≡ new ∷ rows
place_ahead order new [] each = refl
place_ahead order new (row ∷ rows) each = ap (place_before new row rows (place order new rows)) each.0

place_first : {X : Type 0} (order : X → X → Ordering) (new : X) (xs ys : List X) → 0 < length xs → Each (λ row. order new row ≡ Equal) xs → place order new (xs ++ ys) ≡ new ∷ drop 1 (xs ++ ys)
place_first order new [] ys filled each = absurd (omega arith)
place_first order new (x ∷ xs) ys filled each = ap (place_before new x (xs ++ ys) (place order new (xs ++ ys))) each.0

place_upon : {X : Type 0} (order : X → X → Ordering) (new : X) (rows : List X) (at to : ℕ) → at < to → to ≤ length rows →
    Each (λ row. order new row ≡ Equal) (slice_range rows at to) → place order new (drop at rows) ≡ new ∷ drop (suc at) rows
place_upon order new rows at to below within each =
    let split = drop_split rows at to (omega arith) in
    ap (place order new) split
    ∙ place_first order new (slice_range rows at to) (drop to rows) (omega (arith, length-between rows at to within)) each
    ∙ ap (λ rest. new ∷ drop 1 rest) (sym split)
    ∙ ap (λ rest. new ∷ rest) (drop-drop 1 at rows ∙ ap (λ n. drop n rows) (add-one at))

-- no row has its key
pub place_new : {X : Type 0} (order : X → X → Ordering) (new : X) (rows : List X) (run : Run) → run.end ≤ run.start → IsRun (order new) rows run →
    place order new rows ≡ insert rows run.start new
place_new order new rows run empty is =
    let same : run.end ≡ run.start = omega (arith, is.rises) in
    ap (place order new) (sym (take-append-drop run.start rows))
    ∙ place_behind order new (take run.start rows) (drop run.start rows) is.before
    ∙ ap (λ rest. take run.start rows ++ rest) (place_ahead order new (drop run.start rows) (subst (λ at. Each (λ row. order new row ≡ Less) (drop at rows)) same is.behind))

-- the first of the run makes way for it
pub place_again : {X : Type 0} (order : X → X → Ordering) (new : X) (rows : List X) (run : Run) → run.start < run.end → IsRun (order new) rows run →
    place order new rows ≡ slice_set rows run.start new
place_again order new rows run filled is =
    ap (place order new) (sym (take-append-drop run.start rows))
    ∙ place_behind order new (take run.start rows) (drop run.start rows) is.before
    ∙ ap (λ rest. take run.start rows ++ rest) (place_upon order new rows run.start run.end filled is.within is.inside)
    ∙ sym (set_split rows run.start new (omega (arith, is.within)))

-- ---- a table some of whose rows gave way to as many others

pub record Replaces {X : Type 0} (from to : ℕ) (xs ys : List X) : Type 0 where
  pub front : take from ys ≡ take from xs
  pub rest : drop to ys ≡ drop to xs
  pub within : to ≤ length ys

pub replaces : {X : Type 0} (from to : ℕ) (xs ys new : List X) → from ≤ to → to ≤ length xs → length new ≡ to - from →
    ys ≡ take from xs ++ (new ++ drop to xs) → Replaces from to xs ys
replaces from to xs ys new rises within long is =
    let front : length (take from xs) ≡ from = length-take-le from xs (omega arith) in
    let longer : length (take from xs ++ new) ≡ to = omega (arith, length-append (take from xs) new, front, long) in
    let joined = is ∙ sym (append_assoc (take from xs) new (drop to xs)) in
    record {
      front = ap (take from) is ∙ take_at (take from xs) (new ++ drop to xs) from front;
      rest = ap (drop to) joined ∙ drop_at (take from xs ++ new) (drop to xs) to longer;
      within = omega (arith, ap length joined, length-append (take from xs ++ new) (drop to xs), longer);
    }

-- a table with a row more, without that row
pub insert_apart : {X : Type 0} (rows : List X) (at : ℕ) (new : X) → at ≤ length rows → take at (insert rows at new) ++ drop (at + 1) (insert rows at new) ≡ rows
insert_apart rows at new within =
    let front : length (take at rows) ≡ at = length-take-le at rows within in
    let longer : length (take at rows ++ new ∷ []) ≡ at + 1 = omega (arith, length-append (take at rows) (new ∷ []), front) in
    (λ i. take_at (take at rows) (new ∷ drop at rows) at front i ++ drop (at + 1) (sym (append_assoc (take at rows) (new ∷ []) (drop at rows)) i))
    ∙ ap (λ rest. take at rows ++ rest) (drop_at (take at rows ++ new ∷ []) (drop at rows) (at + 1) longer)
    ∙ take-append-drop at rows
