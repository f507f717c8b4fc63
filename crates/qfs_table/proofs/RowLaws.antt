-- Rows that are found and placed by their keys.
use Rattle.std.proofs.Common.{◌≡◌, ◌≤◌, ◌<◌, ◌+◌, suc, nat_lt, length, subst, arith, Bool, true, false, cond, not, List, [], ◌∷◌, ◌++◌, drop, find, Some, None, true≢false, refl, sym, ◌∙◌, ap, length-append}
use Rattle.std.proofs.lemmas.List.{append-nil, append_assoc}
use Rattle.std.specs.Cmp.{IsTotalOrder}
use Rattle.std.specs.List.{slice_get}
use Rattle.std.specs.Option.{is_some}
use Rattle.std.specs.Ordering.{is_eq, is_ge, is_gt, is_lt, ordering_reverse}
use Rattle.std.specs.Prelude.{Vec}
use Rattle.std.proofs.lemmas.Bool.Decides.{nat_tests}
use Rattle.std.specs.declared.cmp.Ordering.{Ordering}
use Rattle.std.specs.declared.cmp.Ordering.TheVariants.{Less, Equal, Greater}
use Rattle.qfs_base.specs.Table.{Each, IsRising, place, place_before, without, has_key, is_behind}
use Rattle.qfs_table.specs.Cuts.{IsCut}
use Rattle.qfs_table.specs.KeyLaws.{gt_is}
use Rattle.qfs_table.specs.Keys.{Falls, Follows, IsOnly, starts_tied, without_first}
use Rattle.qfs_table.specs.declared.place.Place.{Place}
use Rattle.qfs_table.specs.Chunks.{flat, rows_at, front, back}
use Rattle.qfs_table.specs.Places.{IsFirst, IsPlaced, IsSought}
use Rattle.qfs_table.proofs.CutLaws.{rising_cut, cut_back}
use Rattle.qfs_table.proofs.FlatLaws.{flat_cut, back_end}
use Rattle.qfs_base.specs.EachLaws.{each_weaker, each_append}
use Rattle.qfs_laws_tables.specs.EachRow.{each-right, find_none, without_none}
use Rattle.qfs_laws_tables.specs.Keys.{equal-is}

-- ---- what a comparison was

pub gt_not_eq : (o : Ordering) → is_gt o ≡ true → is_eq o ≡ false
gt_not_eq o e = ap is_eq (gt_is o e)

ge_not_lt : (o : Ordering) → is_ge o ≡ true → is_lt o ≡ false
ge_not_lt Less e = absurd (true≢false (sym e))
ge_not_lt Equal e = refl
ge_not_lt Greater e = refl

lt_from : (o : Ordering) → is_ge o ≡ false → is_lt o ≡ true
lt_from Less e = refl
lt_from Equal e = absurd (true≢false e)
lt_from Greater e = absurd (true≢false e)

pub lt_not_eq : (o : Ordering) → is_ge o ≡ false → is_eq o ≡ false
lt_not_eq Less e = refl
lt_not_eq Equal e = absurd (true≢false e)
lt_not_eq Greater e = absurd (true≢false e)

not_ge : (o : Ordering) → is_gt o ≡ false → is_eq o ≡ false → is_ge o ≡ false
not_ge Less e f = refl
not_ge Equal e f = absurd (true≢false f)
not_ge Greater e f = absurd (true≢false e)

less_is : (o : Ordering) → is_gt o ≡ false → is_eq o ≡ false → o ≡ Less
less_is Less e f = refl
less_is Equal e f = absurd (true≢false f)
less_is Greater e f = absurd (true≢false e)

-- ---- a key cuts the rows

module _ {X : Type 0} (cmp : X → X → Ordering) (order : X → Ordering)
    (falls : (a b : X) → cmp a b ≡ Less → Falls (order a) (order b)) where
  pub key_cut_gt : (rows : List X) → IsRising cmp rows → IsCut (λ row. is_gt (order row)) rows
  key_cut_gt = rising_cut (λ row. is_gt (order row)) cmp (λ a b below. (falls a b below).0)

  pub key_cut_ge : (rows : List X) → IsRising cmp rows → IsCut (λ row. is_ge (order row)) rows
  key_cut_ge = rising_cut (λ row. is_ge (order row)) cmp (λ a b below. (falls a b below).1)

-- ---- what is found

find_skip : {X : Type 0} (test : X → Bool) (xs ys : List X) → Each (λ row. test row ≡ false) xs →
    find test (xs ++ ys) ≡ find test ys
find_skip test [] ys each = refl
find_skip test (x ∷ xs) ys each =
    ap (λ b. cond b (Some x) (find test (xs ++ ys))) each.0 ∙ find_skip test xs ys each.1

find_first : {X : Type 0} (test : X → Bool) (rows : List X) → Each (λ row. test row ≡ true) rows →
    find test rows ≡ slice_get rows 0
find_first test [] each = refl
find_first test (row ∷ rows) each = ap (λ b. cond b (Some row) (find test rows)) each.0

find_tied : {X : Type 0} (order : X → Ordering) (rows : List X) → starts_tied order rows ≡ true →
    find (has_key order) rows ≡ slice_get rows 0
find_tied order [] tied = absurd (true≢false (sym tied))
find_tied order (row ∷ rows) tied = ap (λ b. cond b (Some row) (find (has_key order) rows)) tied

-- the first row behind a key
pub find_behind : {X : Type 0} (order : X → Ordering) (front back : List X) →
    Each (λ row. is_ge (order row) ≡ true) front → Each (λ row. is_ge (order row) ≡ false) back →
    find (is_behind order) (front ++ back) ≡ slice_get back 0
find_behind order front back before behind =
    find_skip (is_behind order) front back
    (each_weaker _ _ (λ row not_below. ge_not_lt (order row) not_below) front before)
    ∙ find_first (is_behind order) back
    (each_weaker _ _ (λ row below. lt_from (order row) below) back behind)

-- ---- where a row is placed

place_further : {X : Type 0} (order : X → X → Ordering) (new : X) (xs ys : List X) →
    Each (λ row. is_gt (order new row) ≡ true) xs → place order new (xs ++ ys)
    ≡ xs ++ place order new ys
place_further order new [] ys each = refl
place_further order new (x ∷ xs) ys each =
    ap (place_before new x (xs ++ ys) (place order new (xs ++ ys))) (gt_is _ each.0)
    ∙ ap (λ rest. x ∷ rest) (place_further order new xs ys each.1)

place_upon : {X : Type 0} (order : X → X → Ordering) (new : X) (rows : List X) →
    starts_tied (order new) rows ≡ true → place order new rows ≡ new ∷ drop 1 rows
place_upon order new [] tied = absurd (true≢false (sym tied))
place_upon order new (row ∷ rows) tied = ap (place_before new row rows (place order new rows))
    (equal-is _ tied)

place_ahead : {X : Type 0} (order : X → X → Ordering) (new : X) (rows : List X) →
    starts_tied (order new) rows ≡ false → Each (λ row. is_gt (order new row) ≡ false) rows →
    place order new rows ≡ new ∷ rows
place_ahead order new [] tied each = refl
place_ahead order new (row ∷ rows) tied each = ap (place_before new row rows (place order new rows))
    (less_is _ each.0 tied)

place_again : {X : Type 0} (order : X → X → Ordering) (new : X) (front back : List X) →
    Each (λ row. is_gt (order new row) ≡ true) front →
    starts_tied (order new) back ≡ true → front ++ new ∷ drop 1 back
    ≡ place order new (front ++ back)
place_again order new front back before tied =
    sym (place_further order new front back before ∙ ap (λ rest. front ++ rest)
    (place_upon order new back tied))

place_new : {X : Type 0} (order : X → X → Ordering) (new : X) (front back : List X) →
    Each (λ row. is_gt (order new row) ≡ true) front →
    Each (λ row. is_gt (order new row) ≡ false) back → starts_tied (order new) back ≡ false →
    front ++ new ∷ back ≡ place order new (front ++ back)
place_new order new front back before behind tied =
    sym (place_further order new front back before ∙ ap (λ rest. front ++ rest)
    (place_ahead order new back tied behind))

-- ---- what is taken out

first_skip : {X : Type 0} (test : X → Bool) (xs ys : List X) → Each (λ row. test row ≡ false) xs →
    without_first test (xs ++ ys) ≡ xs ++ without_first test ys
first_skip test [] ys each = refl
first_skip test (x ∷ xs) ys each =
    ap (λ b. cond b (xs ++ ys) (x ∷ without_first test (xs ++ ys))) each.0
    ∙ ap (λ rest. x ∷ rest) (first_skip test xs ys each.1)

first_tied : {X : Type 0} (order : X → Ordering) (rows : List X) → starts_tied order rows ≡ true →
    without_first (has_key order) rows ≡ drop 1 rows
first_tied order [] tied = refl
first_tied order (row ∷ rows) tied =
    ap (λ b. cond b rows (row ∷ without_first (has_key order) rows)) tied

-- what is taken out first would be taken out
pub without_again : {X : Type 0} (test : X → Bool) (rows : List X) →
    without test (without_first test rows) ≡ without test rows
without_again test [] = refl
without_again test (row ∷ rows) =
    elim (test row) as (λ b. test row ≡ b →
    without test (cond b rows (row ∷ without_first test rows))
    ≡ cond (not b) (row ∷ without test rows) (without test rows)) [
      | true ↦ λ _. refl
      | false ↦ λ other.
          ap (λ b. cond (not b) (row ∷ without test (without_first test rows))
          (without test (without_first test rows))) other
          ∙ ap (λ rest. row ∷ rest) (without_again test rows)
    ] refl

-- where none is found, none is taken out
pub none_out : {X : Type 0} (test : X → Bool) (rows : List X) → is_some (find test rows) ≡ false →
    without test rows ≡ rows
none_out test [] = λ none. refl
none_out test (row ∷ rows) =
    elim (test row) as (λ b. is_some (cond b (Some row) (find test rows)) ≡ false →
    cond (not b) (row ∷ without test rows) (without test rows) ≡ row ∷ rows) [
      | true ↦ λ none. absurd (true≢false none)
      | false ↦ λ none. ap (λ rest. row ∷ rest) (none_out test rows none)
    ]

pub none_first : {X : Type 0} (test : X → Bool) (rows : List X) → is_some (find test rows) ≡ false →
    without_first test rows ≡ rows
none_first test [] = λ none. refl
none_first test (row ∷ rows) =
    elim (test row) as (λ b. is_some (cond b (Some row) (find test rows)) ≡ false →
    cond b rows (row ∷ without_first test rows) ≡ row ∷ rows) [
      | true ↦ λ none. absurd (true≢false none)
      | false ↦ λ none. ap (λ rest. row ∷ rest) (none_first test rows none)
    ]

pub one_less : {X : Type 0} (test : X → Bool) (rows : List X) → is_some (find test rows) ≡ true →
    length (without_first test rows) + 1 ≡ length rows
one_less test [] = λ found. absurd (true≢false (sym found))
one_less test (row ∷ rows) =
    elim (test row) as (λ b. is_some (cond b (Some row) (find test rows)) ≡ true →
    length (cond b rows (row ∷ without_first test rows)) + 1 ≡ suc (length rows)) [
      | true ↦ λ found. omega arith
      | false ↦ λ found. omega (arith, one_less test rows found)
    ]

each_first : {X : Type 0} (P : X → Type 0) (test : X → Bool) (rows : List X) → Each P rows →
    Each P (without_first test rows)
each_first P test [] each = tt
each_first P test (row ∷ rows) each =
    elim (test row) as (λ b. Each P (cond b rows (row ∷ without_first test rows))) [
      | true ↦ each.1
      | false ↦ (each.0, each_first P test rows each.1)
    ]

pub first_rises : {X : Type 0} (cmp : X → X → Ordering) (test : X → Bool) (rows : List X) →
    IsRising cmp rows → IsRising cmp (without_first test rows)
first_rises cmp test [] rising = tt
first_rises cmp test (row ∷ rows) rising =
    elim (test row) as (λ b. IsRising cmp (cond b rows (row ∷ without_first test rows))) [
      | true ↦ rising.1
      | false ↦ (each_first _ test rows rising.0, first_rises cmp test rows rising.1)
    ]

-- of rows with a whole key the first is all
pub first_only : {X : Type 0} (cmp : X → X → Ordering) (order : X → Ordering) → IsOnly cmp order →
    (rows : List X) → IsRising cmp rows → without_first (has_key order) rows
    ≡ without (has_key order) rows
first_only cmp order alone [] rising = refl
first_only cmp order alone (row ∷ rows) rising =
    elim (is_eq (order row)) as (λ b. is_eq (order row) ≡ b →
    cond b rows (row ∷ without_first (has_key order) rows)
    ≡ cond (not b) (row ∷ without (has_key order) rows) (without (has_key order) rows)) [
      | true ↦ λ same. sym (without_none (has_key order) rows
          (each_weaker _ _ (λ later above. ap is_eq
          (alone row later above (equal-is (order row) same))) rows rising.0))
      | false ↦ λ _. ap (λ rest. row ∷ rest) (first_only cmp order alone rows rising.1)
    ] refl

pub all_other : {X : Type 0} (order : X → Ordering) (rows : List X) →
    Each (λ row. is_gt (order row) ≡ false) rows → IsCut (λ row. is_ge (order row)) rows →
    starts_tied order rows ≡ false → Each (λ row. has_key order row ≡ false) rows
all_other order [] each cut other = tt
all_other order (row ∷ rows) each cut other = (
  other,
  each_weaker _ _ (λ later below. lt_not_eq (order later) below) rows
      (cut.0 (not_ge (order row) each.0 other)),
)

-- ---- in chunks

module _ {X Z : Type 0} (cmp : X → X → Ordering) (order : X → Ordering) (falls : Follows cmp order)
    (chunks : List (Vec X Z)) (rising : IsRising cmp (flat chunks)) (at : Place) where
  pub back_cut_ge : IsCut (λ row. is_ge (order row)) (back chunks at.chunk at.row)
  back_cut_ge =
      cut_back (λ row. is_ge (order row)) (front chunks at.chunk at.row)
      (back chunks at.chunk at.row)
      (subst (IsCut (λ row. is_ge (order row))) (flat_cut chunks at.chunk at.row)
      (key_cut_ge cmp order falls (flat chunks) rising))

  pub sought : (tied : Bool) → IsPlaced chunks at → IsFirst (λ row. is_gt (order row)) chunks at →
      starts_tied order (back chunks at.chunk at.row) ≡ tied → IsSought tied order chunks at
  sought tied placed first is = record {
    placed = placed;
    before = first.before;
    behind = first.behind;
    cut = back_cut_ge;
    tied = is;
  }

-- what stands from a place on starts with a row, so the place is that of a row
pub tied_inside : {X Z : Type 0} (order : X → Ordering) (chunks : List (Vec X Z)) (at : Place) →
    starts_tied order (back chunks at.chunk at.row) ≡ true → at.chunk < length chunks
tied_inside order chunks at tied =
    elim (nat_lt at.chunk (length chunks)) as
    (λ b. nat_lt at.chunk (length chunks) ≡ b → at.chunk < length chunks) [
      | true ↦ λ below. grind (arith, nat_tests)
      | false ↦ λ past.
          let end : length chunks ≤ at.chunk = grind (arith, nat_tests) in
          absurd (true≢false (sym tied ∙ ap (starts_tied order)
          (back_end chunks at.chunk at.row end)))
    ] refl

tied_long : {X : Type 0} (order : X → Ordering) (rows : List X) → starts_tied order rows ≡ true →
    length rows ≡ suc (length (drop 1 rows))
tied_long order [] tied = absurd (true≢false (sym tied))
tied_long order (row ∷ rows) tied = refl

module _ {X Z : Type 0} (order : X → Ordering) (chunks : List (Vec X Z)) (at : Place) where
  below_other : Each (λ row. is_gt (order row) ≡ true) (front chunks at.chunk at.row) →
      Each (λ row. has_key order row ≡ false) (front chunks at.chunk at.row)
  below_other before =
      each_weaker _ _ (λ row above. gt_not_eq (order row) above)
      (front chunks at.chunk at.row) before

  pub found_inside : IsSought true order chunks at → at.chunk < length chunks
  found_inside found = tied_inside order chunks at found.tied

  pub found_row : IsSought true order chunks at → at.row < length (rows_at chunks at.chunk)
  found_row found = found.placed.row (found_inside found)

  pub found_first : IsSought true order chunks at →
      find (has_key order) (flat chunks) ≡ slice_get (back chunks at.chunk at.row) 0
  found_first found =
      let low : List X = front chunks at.chunk at.row in
      let high : List X = back chunks at.chunk at.row in
      ap (find (has_key order)) (flat_cut chunks at.chunk at.row)
      ∙ find_skip (has_key order) low high (below_other found.before)
      ∙ find_tied order high found.tied

  pub found_out : IsSought true order chunks at →
      front chunks at.chunk at.row ++ drop 1 (back chunks at.chunk at.row)
      ≡ without_first (has_key order) (flat chunks)
  found_out found =
      let low : List X = front chunks at.chunk at.row in
      let high : List X = back chunks at.chunk at.row in
      sym (ap (without_first (has_key order)) (flat_cut chunks at.chunk at.row)
      ∙ first_skip (has_key order) low high (below_other found.before)
      ∙ ap (λ rest. low ++ rest) (first_tied order high found.tied))

  free_other : IsSought false order chunks at →
      Each (λ row. has_key order row ≡ false) (flat chunks)
  free_other free =
      let low : List X = front chunks at.chunk at.row in
      let high : List X = back chunks at.chunk at.row in
      subst (Each (λ row. has_key order row ≡ false)) (sym (flat_cut chunks at.chunk at.row))
      (each_append _ low high (below_other free.before)
      (all_other order high free.behind free.cut free.tied))

  pub free_none : IsSought false order chunks at → find (has_key order) (flat chunks) ≡ None
  free_none free = find_none (has_key order) (flat chunks) (free_other free)

  pub free_out : IsSought false order chunks at →
      flat chunks ≡ without_first (has_key order) (flat chunks)
  free_out free =
      sym (ap (without_first (has_key order)) (sym (append-nil (flat chunks)))
      ∙ first_skip (has_key order) (flat chunks) [] (free_other free)
      ∙ append-nil (flat chunks))

module _ {X Z : Type 0} (cmp : X → X → Ordering) (new : X) (chunks : List (Vec X Z))
    (at : Place) where
  pub again_placed : IsSought true (cmp new) chunks at →
      front chunks at.chunk at.row ++ new ∷ drop 1 (back chunks at.chunk at.row)
      ≡ place cmp new (flat chunks)
  again_placed found =
      place_again cmp new (front chunks at.chunk at.row)
      (back chunks at.chunk at.row) found.before found.tied
      ∙ ap (place cmp new) (sym (flat_cut chunks at.chunk at.row))

  pub again_long : IsSought true (cmp new) chunks at →
      length (front chunks at.chunk at.row ++ new ∷ drop 1 (back chunks at.chunk at.row))
      ≡ length (flat chunks)
  again_long found =
      let low : List X = front chunks at.chunk at.row in
      let high : List X = back chunks at.chunk at.row in
      let more : length high ≡ suc (length (drop 1 high)) = tied_long (cmp new) high found.tied in
      omega (
        arith,
        more,
        length-append low (new ∷ drop 1 high),
        length-append low high,
        ap length (flat_cut chunks at.chunk at.row),
      )

  pub new_placed : IsSought false (cmp new) chunks at →
      front chunks at.chunk at.row ++ new ∷ back chunks at.chunk at.row
      ≡ place cmp new (flat chunks)
  new_placed free =
      place_new cmp new (front chunks at.chunk at.row)
      (back chunks at.chunk at.row) free.before free.behind free.tied
      ∙ ap (place cmp new) (sym (flat_cut chunks at.chunk at.row))

module _ {X Z : Type 0} (new : X) (chunks : List (Vec X Z)) (at : Place) where
  pub new_long : length (front chunks at.chunk at.row ++ new ∷ back chunks at.chunk at.row)
      ≡ length (flat chunks) + 1
  new_long =
      let low : List X = front chunks at.chunk at.row in
      let high : List X = back chunks at.chunk at.row in
      omega (
        arith,
        length-append low (new ∷ high),
        length-append low high,
        ap length (flat_cut chunks at.chunk at.row),
      )

-- ---- rows that come in order

above_all : {X : Type 0} {cmp : X → X → Ordering} → IsTotalOrder cmp →
    (rows : List X) (new : X) (rest : List X) → IsRising cmp (rows ++ new ∷ rest) →
    Each (λ row. is_gt (cmp new row) ≡ true) rows
above_all total [] new rest rising = tt
above_all {cmp = cmp} total (row ∷ rows) new rest rising = (
  ap is_gt (total.antisymm new row ∙ ap ordering_reverse
      (each-right (λ later. cmp row later ≡ Less) rows (new ∷ rest) rising.0).0),
  above_all total rows new rest rising.1,
)

-- a row above all others is placed at the end
pub place_last : {X : Type 0} {cmp : X → X → Ordering} → IsTotalOrder cmp →
    (rows : List X) (new : X) (rest : List X) → IsRising cmp (rows ++ new ∷ rest) →
    place cmp new rows ++ rest ≡ rows ++ new ∷ rest
place_last {cmp = cmp} total rows new rest rising =
    ap (λ list. place cmp new list ++ rest) (sym (append-nil rows))
    ∙ ap (λ list. list ++ rest)
    (place_further cmp new rows [] (above_all total rows new rest rising))
    ∙ append_assoc rows (new ∷ []) rest
