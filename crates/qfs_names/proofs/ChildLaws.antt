-- What lies below a directory, found by going behind keys. For the calls that look for it.
use Rattle.std.proofs.Common.{◌≡◌, ℕ, zero, suc, ◌<◌, ◌≤◌, ◌+◌, Bool, true, false, true≢false, cond, ◌&&◌, ◌||◌, List, [], ◌∷◌, ◌++◌, length, take, drop, get_or, nat_lt, find, ⊎_elim, ◌-◌, Option, Some, None, refl, sym, ap, subst, ◌∙◌, arith, append_assoc, append-nil, length-take, length-drop}
use Rattle.std.proofs.Math.Seq.{drop-cons, take-length}
use Rattle.std.proofs.lemmas.Bool.{and_from, and_parts, cases_lt, lt-ltb, ltb-true}
use Rattle.std.proofs.lemmas.Cmp.{tied_itself}
use Rattle.std.proofs.lemmas.List.{drop_all, length-take-le, take-append-drop}
use Rattle.std.specs.Cmp.Lexicographic.{nat_list_cmp_total, slice_cmp}
use Rattle.std.specs.List.{cons_option, filter_map, list_any}
use Rattle.std.specs.Option.{option_map}
use Rattle.std.specs.Ordering.{is_eq, is_ge, is_gt, is_le, is_lt, nat_cmp, ordering_reverse, ordering_then}
use Rattle.std.specs.declared.cmp.Ordering.{Ordering}
use Rattle.std.specs.declared.cmp.Ordering.TheVariants.{Equal, Greater, Less}
use Rattle.qfs_base.specs.EachLaws.{each_weaker}
use Rattle.qfs_base.specs.NameTree.{PathNames, Standing, is_below, is_filled, is_within, name_in, names_below, only_name, path_cmp, row_cmp}
use Rattle.qfs_base.specs.Table.{Each, IsRising}
use Rattle.qfs_base.specs.declared.lists.Name.{Name}
use Rattle.qfs_laws_tables.specs.Keys.{equal-is, less-not}
use Rattle.qfs_laws_tables.specs.SomeRow.{any_mapped, any_none}
use Rattle.qfs_laws_tree.specs.TreeFacts.{within-is}
use Rattle.qfs_names.proofs.NameLaws.{within-is_eq}
use Rattle.qfs_names.specs.declared.row.NameRow.{NameRow}
use Rattle.qfs_names.specs.Names.{child_at, row_kind, row_path, standing_of, within_order}
use Rattle.qfs_names.specs.PathLaws.{cmp-fronts, paths_total, within_falls}

-- ---- paths in their order

-- a path comes before those below it
longer : (p r : PathNames) → 0 < length r → path_cmp p (p ++ r) ≡ Less
longer [] [] some = absurd (omega arith)
longer [] (name ∷ names) some = refl
longer (name ∷ names) r some =
    ap (λ o. ordering_then o (path_cmp names (names ++ r))) (tied_itself nat_list_cmp_total name)
    ∙ longer names r some

pub below-less : (top path : PathNames) → is_below top path ≡ true → path_cmp top path ≡ Less
below-less top path is =
    let p = and_parts _ _ is in
    let more : length top < length path = ltb-true _ _ p.1 in
    let split : path ≡ top ++ drop (length top) path =
    sym (take-append-drop (length top) path)
    ∙ ap (λ q. q ++ drop (length top) path) (sym (within-is top path p.0)) in
    subst (λ q. path_cmp top q ≡ Less) (sym split)
    (longer top (drop (length top) path) (omega (arith, length-drop (length top) path)))

-- what is within a path and behind it is below it
pub within-below : (top path : PathNames) → is_within top path ≡ true → path_cmp top path ≡ Less
    → is_below top path ≡ true
within-below top path is less = and_from _ _ is (lt-ltb _ _ more)
  where
    more : length top < length path
    more = ⊎_elim (λ (short : length top < length path). short)
        (λ (long : length path ≤ length top).
        let e = within-is top path is in
        let l = ap length e in
        let same : length top ≡ length path = omega (arith, length-take (length top) path) in
        let whole : path ≡ top = sym (take-length path) ∙ ap (λ n. take n path) (sym same) ∙ sym e in
        absurd (less-not (sym less ∙ ap (path_cmp top) whole ∙ tied_itself paths_total top)))
        (cases_lt (length top) (length path))

-- a path that isn't above another in the order of keys
pub not-above : (top path : PathNames) → path_cmp top path ≡ Less
    → is_gt (within_order top path) ≡ false
not-above top path less =
    one (within_order top path)
    (ap (λ t. ordering_then (path_cmp t (take (length top) path))
    (path_cmp (drop (length top) top) (drop (length top) path))) (sym (take-length top))
    ∙ sym (cmp-fronts (slice_cmp nat_cmp) (length top) top path) ∙ less)
  where
    one : (o : Ordering)
        → ordering_then o (path_cmp (drop (length top) top) (drop (length top) path)) ≡ Less
        → is_gt o ≡ false
    one Less e = refl
    one Equal e = refl
    one Greater e = absurd (cc)

-- what lies between a path and one within it is within it
pub between-within : (top path later : PathNames) → path_cmp top path ≡ Less
    → path_cmp path later ≡ Less → is_within top later ≡ true → is_within top path ≡ true
between-within top path later less more is =
    sym (within-is_eq top path) ∙ one (within_order top path) (not-above top path less)
    ((within_falls top path later more).1
    (ap is_ge (equal-is _ (within-is_eq top later ∙ is))))
  where
    one : (o : Ordering) → is_gt o ≡ false → is_ge o ≡ true → is_eq o ≡ true
    one Less off is = absurd (cc)
    one Equal off is = refl
    one Greater off is = absurd (cc)

not-below : (top path : PathNames) → (path_cmp top path ≡ Less → ⊥) → is_below top path ≡ false
not-below top path apart = one (is_below top path) refl
  where
    one : (b : Bool) → is_below top path ≡ b → b ≡ false
    one true is = absurd (apart (below-less top path is))
    one false off = refl

-- ---- whether something lies below a directory

abbrev pub first_within : PathNames → Option NameRow → Bool
first_within top None = false
first_within top (Some row) = is_within top row.path

filled-is : (top : PathNames) (rows : List NameRow) → IsRising (row_cmp row_path) rows
    → list_any (λ (row : NameRow). is_below top row.path) rows
    ≡ first_within top (find (λ (row : NameRow). is_lt (path_cmp top row.path)) rows)
filled-is top [] rising = refl
filled-is top (row ∷ rows) rising =
    (elim (path_cmp top row.path) as (λ o. path_cmp top row.path ≡ o
    → (is_below top row.path || list_any (λ (row : NameRow). is_below top row.path) rows)
    ≡ first_within top (cond (is_lt o) (Some row)
    (find (λ (row : NameRow). is_lt (path_cmp top row.path)) rows))) [
      | Less ↦ λ less. here less (is_within top row.path) refl
      | Equal ↦ λ tie. rw (not-below top row.path (λ e. let f : Less ≡ Equal = sym e ∙ tie in cc))
          (filled-is top rows rising.1)
      | Greater ↦ λ above. rw (not-below top row.path (λ e. let f : Less ≡ Greater = sym e ∙ above in cc))
          (filled-is top rows rising.1)
    ]) refl
  where
    here : path_cmp top row.path ≡ Less → (b : Bool) → is_within top row.path ≡ b
        → (is_below top row.path || list_any (λ (row : NameRow). is_below top row.path) rows)
        ≡ is_within top row.path
    here less true is =
        ap (λ b. b || list_any (λ (row : NameRow). is_below top row.path) rows)
        (within-below top row.path is less) ∙ sym is
    here less false off =
        (λ i. (off i && nat_lt (length top) (length row.path))
        || list_any (λ (row : NameRow). is_below top row.path) rows)
        ∙ any_none (λ (row : NameRow). is_below top row.path) rows
        (each_weaker _ _ (λ (later : NameRow) more. one later (is_within top later.path) refl more) rows rising.0)
        ∙ sym off
      where
        one : (later : NameRow) (b : Bool) → is_within top later.path ≡ b
            → path_cmp row.path later.path ≡ Less → (b && nat_lt (length top) (length later.path)) ≡ false
        one later true is more = absurd (true≢false
            (sym (between-within top row.path later.path less more is) ∙ off))
        one later false off more = refl

pub filled_below : (rows : List NameRow) (top : PathNames) → 0 < length top
    → IsRising (row_cmp row_path) rows
    → is_filled (standing_of rows) top
    ≡ first_within top (find (λ (row : NameRow). is_lt (path_cmp top row.path)) rows)
unfolding is_filled
filled_below rows [] some rising = absurd (omega arith)
filled_below rows (name ∷ names) some rising =
    let standing : NameRow → Standing = λ row. record { path = row.path; kind = row_kind row } in
    any_mapped standing (λ (row : Standing). is_below (name ∷ names) row.path) rows
    ∙ filled-is (name ∷ names) rows rising

-- ---- from the first row that passes a test

module _ {X : Type 0} where
  abbrev pub from_first : (X → Bool) → List X → List X
  from_first test [] = []
  from_first test (x ∷ xs) = cond (test x) (x ∷ xs) (from_first test xs)

  abbrev pub before_first : (X → Bool) → List X → List X
  before_first test [] = []
  before_first test (x ∷ xs) = cond (test x) [] (x ∷ before_first test xs)

  abbrev pub head : List X → Option X
  head [] = None
  head (x ∷ xs) = Some x

  find-head : (test : X → Bool) (xs : List X) → find test xs ≡ head (from_first test xs)
  find-head test [] = refl
  find-head test (x ∷ xs) =
      elim (test x) as (λ b. cond b (Some x) (find test xs)
      ≡ head (cond b (x ∷ xs) (from_first test xs)))
      [ true ↦ refl | false ↦ find-head test xs ]

  first-split : (test : X → Bool) (xs : List X) → xs ≡ before_first test xs ++ from_first test xs
  first-split test [] = refl
  first-split test (x ∷ xs) =
      elim (test x) as (λ b. x ∷ xs ≡ cond b [] (x ∷ before_first test xs)
      ++ cond b (x ∷ xs) (from_first test xs))
      [ true ↦ refl | false ↦ ap (λ ys. x ∷ ys) (first-split test xs) ]

  from-each : (P : X → Type 0) (test : X → Bool) (xs : List X) → Each P xs
      → Each P (from_first test xs)
  from-each P test [] each = tt
  from-each P test (x ∷ xs) each =
      elim (test x) as (λ b. Each P (cond b (x ∷ xs) (from_first test xs)))
      [ true ↦ each | false ↦ from-each P test xs each.1 ]

  from-rises : (order : X → X → Ordering) (test : X → Bool) (xs : List X) → IsRising order xs
      → IsRising order (from_first test xs)
  from-rises order test [] rising = tt
  from-rises order test (x ∷ xs) rising =
      elim (test x) as (λ b. IsRising order (cond b (x ∷ xs) (from_first test xs)))
      [ true ↦ rising | false ↦ from-rises order test xs rising.1 ]

  from-length : (test : X → Bool) (xs : List X) → length (from_first test xs) ≤ length xs
  from-length test [] = omega arith
  from-length test (x ∷ xs) =
      elim (test x) as (λ b. length (cond b (x ∷ xs) (from_first test xs)) ≤ suc (length xs))
      [ true ↦ omega arith | false ↦ let l = from-length test xs in omega arith ]

  -- where the rows of a front fail, the first that passes is behind it
  from-behind : (test : X → Bool) (xs ys : List X) → Each (λ x. test x ≡ false) xs
      → from_first test (xs ++ ys) ≡ from_first test ys
  from-behind test [] ys each = refl
  from-behind test (x ∷ xs) ys each = rw each.0 (from-behind test xs ys each.1)

  -- a front of a rising list comes before the rest
  rising-apart : (order : X → X → Ordering) (xs ys : List X) (y : X) → IsRising order (xs ++ y ∷ ys)
      → Each (λ x. order x y ≡ Less) xs
  rising-apart order [] ys y rising = tt
  rising-apart order (x ∷ xs) ys y rising =
      (last xs rising.0, rising-apart order xs ys y rising.1)
    where
      last : (zs : List X) → Each (λ later. order x later ≡ Less) (zs ++ y ∷ ys) → order x y ≡ Less
      last [] each = each.0
      last (z ∷ zs) each = last zs each.1

names-dropped : {X Y : Type 0} (h : X → Option Y) (test : X → Bool) (xs : List X)
    → Each (λ x. test x ≡ false → h x ≡ None) xs
    → filter_map h xs ≡ filter_map h (from_first test xs)
names-dropped h test [] each = refl
names-dropped h test (x ∷ xs) each =
    (elim (test x) as (λ b. test x ≡ b → cons_option (h x) (filter_map h xs)
    ≡ filter_map h (cond b (x ∷ xs) (from_first test xs))) [
      | true ↦ λ _. refl
      | false ↦ λ off. rw (each.0 off) (names-dropped h test xs each.1)
    ]) refl

none-named : {X Y : Type 0} (h : X → Option Y) (xs : List X) → Each (λ x. h x ≡ None) xs
    → filter_map h xs ≡ []
none-named h [] each = refl
none-named h (x ∷ xs) each = rw each.0 (none-named h xs each.1)

-- ---- the children of a directory

pub children-are : (directory : PathNames) (rows : List NameRow)
    → names_below (standing_of rows) directory ≡ filter_map (child_at directory) rows
unfolding names_below
children-are directory [] = refl
children-are directory (row ∷ rows) =
    ap (cons_option (child_at directory row)) (children-are directory rows)

-- a name with what it stands for
abbrev as_name : NameRow → Option (List ℕ) → Option Name
as_name row name = option_map (λ name. record { part = name; kind = row_kind row }) name

-- a row that isn't within a directory, or whose names aren't one more, is no child
outside-child : (directory : PathNames) (row : NameRow) → is_within directory row.path ≡ false
    → child_at directory row ≡ None
unfolding name_in
outside-child directory row off =
    ap (λ b. as_name row (cond b (only_name (drop (length directory) row.path)) None)) off

pub one-more : (directory : PathNames) (row : NameRow)
    → (length row.path ≡ length directory + 1 → ⊥) → child_at directory row ≡ None
unfolding name_in only_name
one-more directory row apart =
    one (is_within directory row.path) (drop (length directory) row.path)
    (length-drop (length directory) row.path)
  where
    one : (b : Bool) (names : PathNames) → length names ≡ length row.path - length directory
        → as_name row (cond b (only_name names) None) ≡ None
    one false names l = refl
    one true [] l = refl
    one true (name ∷ []) l = absurd (apart (omega arith))
    one true (name ∷ next ∷ names) l = refl

-- the name of a child
pub child-name : (directory : PathNames) (row : NameRow) → is_within directory row.path ≡ true
    → length row.path ≡ length directory + 1 → (name : List ℕ)
    → name ≡ get_or row.path (length directory) name
    → child_at directory row ≡ Some (record { part = name; kind = row_kind row })
unfolding name_in only_name
child-name directory row is long name at =
    ap (λ b. as_name row (cond b (only_name (drop (length directory) row.path)) None)) is
    ∙ ap (λ names. as_name row (only_name names)) (only ∙ ap (λ n. n ∷ []) (sym at))
  where
    only : drop (length directory) row.path ≡ get_or row.path (length directory) name ∷ []
    only = drop-cons row.path (length directory) name (omega arith)
        ∙ ap (λ names. get_or row.path (length directory) name ∷ names)
        (drop_all (suc (length directory)) row.path (omega arith))

-- ---- from child to child

-- the names so far, and the rows from the next on, whose names are still to come
pub record IsAt (directory : PathNames) (rows : List NameRow) (found : List Name)
    (next : Option NameRow) : Type 0 where
  pub front : List NameRow
  pub left : List NameRow
  pub split : rows ≡ front ++ left
  pub next_is : next ≡ head left
  pub behind : Each (λ (row : NameRow). path_cmp directory row.path ≡ Less) left
  pub names : filter_map (child_at directory) rows ≡ found ++ filter_map (child_at directory) left

-- behind the directory
pub at-start : (directory : PathNames) (rows : List NameRow) → IsRising (row_cmp row_path) rows
    → IsAt directory rows [] (find (λ (row : NameRow). is_lt (path_cmp directory row.path)) rows)
at-start directory rows rising = record {
  front = before_first (λ (row : NameRow). is_lt (path_cmp directory row.path)) rows;
  left = from_first (λ (row : NameRow). is_lt (path_cmp directory row.path)) rows;
  split = first-split (λ (row : NameRow). is_lt (path_cmp directory row.path)) rows;
  next_is = find-head (λ (row : NameRow). is_lt (path_cmp directory row.path)) rows;
  behind = above rows rising;
  names = names-dropped (child_at directory)
      (λ (row : NameRow). is_lt (path_cmp directory row.path)) rows (all rows);
}
  where
    above : (xs : List NameRow) → IsRising (row_cmp row_path) xs
        → Each (λ (row : NameRow). path_cmp directory row.path ≡ Less)
        (from_first (λ (row : NameRow). is_lt (path_cmp directory row.path)) xs)
    above [] rising = tt
    above (x ∷ xs) rising =
        elim (path_cmp directory x.path) as (λ o. path_cmp directory x.path ≡ o
        → Each (λ (row : NameRow). path_cmp directory row.path ≡ Less) (cond (is_lt o) (x ∷ xs)
        (from_first (λ (row : NameRow). is_lt (path_cmp directory row.path)) xs))) [
          | Less ↦ λ less. (
            less,
            each_weaker _ _ (λ (later : NameRow) more.
                paths_total.trans directory x.path later.path less more) xs rising.0,
          )
          | Equal ↦ λ _. above xs rising.1
          | Greater ↦ λ _. above xs rising.1
        ] refl

    all : (xs : List NameRow) → Each (λ (row : NameRow).
        is_lt (path_cmp directory row.path) ≡ false → child_at directory row ≡ None) xs
    all [] = tt
    all (x ∷ xs) = ((λ off. no-child x off), all xs)
      where
        no-child : (row : NameRow) → is_lt (path_cmp directory row.path) ≡ false
            → child_at directory row ≡ None
        no-child row off = one (is_within directory row.path) refl
          where
            one : (b : Bool) → is_within directory row.path ≡ b → child_at directory row ≡ None
            one false out = outside-child directory row out
            one true is = one-more directory row (λ long.
                let less : path_cmp directory row.path ≡ Less = below-less directory row.path
                (and_from _ _ is (lt-ltb _ _ (omega arith))) in
                true≢false (sym (ap is_lt less) ∙ off))

-- a row behind a directory's row, within its child, is no child
front-low : (n : ℕ) (path : PathNames) → path_cmp path (take n path) ≡ Less → ⊥
front-low zero [] e = cc
front-low zero (name ∷ names) e = cc
front-low (suc n) [] e = cc
front-low (suc n) (name ∷ names) e =
    front-low n names (ap (λ o. ordering_then o (path_cmp names (take n names)))
    (sym (tied_itself nat_list_cmp_total name)) ∙ e)

rising-right : {X : Type 0} (order : X → X → Ordering) (xs ys : List X)
    → IsRising order (xs ++ ys) → IsRising order ys
rising-right order [] ys rising = rising
rising-right order (x ∷ xs) ys rising = rising-right order xs ys rising.1

cons-split : {X : Type 0} (o : Option X) (xs : List X) → cons_option o xs ≡ cons_option o [] ++ xs
cons-split None xs = refl
cons-split (Some x) xs = refl

abbrev pub AtNext : PathNames → List NameRow → List NameRow → List Name → Option NameRow → Type 0
AtNext directory rows left found next =
    (at : IsAt directory rows found next) × (length at.left < length left)

module _ (directory : PathNames) (front rest : List NameRow) (row : NameRow)
    (rising : IsRising (row_cmp row_path) (front ++ row ∷ rest))
    (below : is_below directory row.path ≡ true) where
  abbrev past_child : NameRow → Bool
  past_child other = is_lt (within_order (take (length directory + 1) row.path) other.path)

  child-long : length (take (length directory + 1) row.path) ≡ length directory + 1
  child-long =
      let more : length directory < length row.path =
      ltb-true (length directory) (length row.path)
      (and_parts (is_within directory row.path) (nat_lt (length directory) (length row.path)) below).1 in
      length-take-le (length directory + 1) row.path (omega arith)

  tied : within_order (take (length directory + 1) row.path) row.path ≡ Equal
  tied = ap (λ n. path_cmp (take (length directory + 1) row.path) (take n row.path)) child-long
      ∙ tied_itself paths_total (take (length directory + 1) row.path)

  front-fails : Each (λ other. past_child other ≡ false) front
  front-fails =
      each_weaker _ _ (λ (other : NameRow) less. ge-not-lt (within_order (take (length directory + 1) row.path) other.path)
      ((within_falls (take (length directory + 1) row.path) other.path row.path less).1
      (ap is_ge tied))) front (rising-apart (row_cmp row_path) front rest row rising)
    where
      ge-not-lt : (o : Ordering) → is_ge o ≡ true → is_lt o ≡ false
      ge-not-lt Less is = absurd (cc)
      ge-not-lt Equal is = refl
      ge-not-lt Greater is = refl

  next-found : find past_child (front ++ row ∷ rest) ≡ head (from_first past_child rest)
  next-found =
      find-head past_child (front ++ row ∷ rest)
      ∙ ap head (from-behind past_child front (row ∷ rest) front-fails
      ∙ ap (λ b. cond b (row ∷ rest) (from_first past_child rest)) (ap is_lt tied))

  no-more : Each (λ (other : NameRow). past_child other ≡ false → child_at directory other ≡ None) rest
  no-more = each_weaker (λ (other : NameRow). path_cmp row.path other.path ≡ Less)
      (λ (other : NameRow). past_child other ≡ false → child_at directory other ≡ None)
      (λ other less off. one-more directory other
      (λ long. front-low (length directory + 1) row.path
      (ap (path_cmp row.path) (whole other less off long) ∙ less)))
      rest (rising-right (row_cmp row_path) front (row ∷ rest) rising).0
    where
      middle : (o : Ordering) → is_lt o ≡ false → is_gt o ≡ false → is_eq o ≡ true
      middle Less a b = absurd (cc)
      middle Equal a b = refl
      middle Greater a b = absurd (cc)

      not-gt : (a b : Bool) → (a ≡ true → b ≡ true) → b ≡ false → a ≡ false
      not-gt true b goes off = absurd (true≢false (sym (goes refl) ∙ off))
      not-gt false b goes off = refl

      whole : (other : NameRow) → path_cmp row.path other.path ≡ Less → past_child other ≡ false
          → length other.path ≡ length directory + 1
          → take (length directory + 1) row.path ≡ other.path
      whole other less off long =
          within-is (take (length directory + 1) row.path) other.path
          (sym (within-is_eq (take (length directory + 1) row.path) other.path) ∙ middle (within_order (take (length directory + 1) row.path) other.path) off
          (not-gt _ _ (within_falls (take (length directory + 1) row.path) row.path other.path less).0
          (ap is_gt tied)))
          ∙ ap (λ n. take n other.path) (child-long ∙ sym long) ∙ take-length other.path

  -- over a child, or what stands for one
  pub at-step : (found more : List Name)
      → Each (λ (other : NameRow). path_cmp directory other.path ≡ Less) rest
      → filter_map (child_at directory) (front ++ row ∷ rest)
      ≡ found ++ filter_map (child_at directory) (row ∷ rest)
      → cons_option (child_at directory row) [] ≡ more
      → AtNext directory (front ++ row ∷ rest) (row ∷ rest) (found ++ more)
      (find past_child (front ++ row ∷ rest))
  at-step found more behind names named = (
    record {
      front = front ++ row ∷ before_first past_child rest;
      left = from_first past_child rest;
      split = ap (λ l. front ++ row ∷ l) (first-split past_child rest)
          ∙ sym (append_assoc front (row ∷ before_first past_child rest) (from_first past_child rest));
      next_is = next-found;
      behind = from-each _ past_child rest behind;
      names = names ∙ ap (λ l. found ++ l)
          (cons-split (child_at directory row) (filter_map (child_at directory) rest)
          ∙ (λ i. named i ++ names-dropped (child_at directory) past_child rest no-more i))
          ∙ sym (append_assoc found more (filter_map (child_at directory) (from_first past_child rest)));
    },
    (let l = from-length past_child rest in omega arith),
  )

-- the rows that are left are those from the next on
pub at-left : (directory : PathNames) (rows : List NameRow) (found : List Name) (row : NameRow)
    → (at : IsAt directory rows found (Some row))
    → (rest : List NameRow) × (at.left ≡ row ∷ rest)
at-left directory rows found row at = one at.left refl
  where
    one : (left : List NameRow) → at.left ≡ left → (rest : List NameRow) × (at.left ≡ row ∷ rest)
    one [] e = absurd (let f : Some row ≡ None = at.next_is ∙ ap head e in cc)
    one (first ∷ rest) e =
        let f : Some row ≡ Some first = at.next_is ∙ ap head e in
        let same : first ≡ row = cc in
        (rest, e ∙ ap (λ x. x ∷ rest) same)

pub at-next : (directory : PathNames) (rows : List NameRow) (found : List Name) (row : NameRow)
    → IsRising (row_cmp row_path) rows → (at : IsAt directory rows found (Some row))
    → is_within directory row.path ≡ true → (more : List Name)
    → cons_option (child_at directory row) [] ≡ more
    → AtNext directory rows at.left (found ++ more) (find (λ (other : NameRow).
    is_lt (within_order (take (length directory + 1) row.path) other.path)) rows)
at-next directory rows found row rising at is more named =
    let l = at-left directory rows found row at in
    let split : rows ≡ at.front ++ row ∷ l.0 = at.split ∙ ap (λ left. at.front ++ left) l.1 in
    let behind : Each (λ (other : NameRow). path_cmp directory other.path ≡ Less) (row ∷ l.0) =
    subst (Each (λ (other : NameRow). path_cmp directory other.path ≡ Less)) l.1 at.behind in
    subst (λ left. AtNext directory rows left (found ++ more) (find (λ (other : NameRow).
    is_lt (within_order (take (length directory + 1) row.path) other.path)) rows)) (sym l.1)
    (subst (λ all. AtNext directory all (row ∷ l.0) (found ++ more) (find (λ (other : NameRow).
    is_lt (within_order (take (length directory + 1) row.path) other.path)) all)) (sym split)
    (at-step directory at.front l.0 row (subst (IsRising (row_cmp row_path)) split rising)
    (within-below directory row.path is behind.0) found more behind.1
    (ap (filter_map (child_at directory)) (sym split) ∙ at.names
    ∙ ap (λ left. found ++ filter_map (child_at directory) left) l.1) named))

-- at the end, or at what isn't within the directory, all names are found
pub at-none : (directory : PathNames) (rows : List NameRow) (found : List Name)
    → IsAt directory rows found None → names_below (standing_of rows) directory ≡ found
at-none directory rows found at =
    children-are directory rows ∙ at.names ∙ one at.left at.next_is
  where
    one : (left : List NameRow) → None ≡ head left
        → found ++ filter_map (child_at directory) left ≡ found
    one [] e = append-nil found
    one (x ∷ xs) e = absurd (cc)

pub at-outside : (directory : PathNames) (rows : List NameRow) (found : List Name) (row : NameRow)
    → IsRising (row_cmp row_path) rows → IsAt directory rows found (Some row)
    → is_within directory row.path ≡ false → names_below (standing_of rows) directory ≡ found
at-outside directory rows found row rising at off =
    let l = at-left directory rows found row at in
    let behind : Each (λ (other : NameRow). path_cmp directory other.path ≡ Less) (row ∷ l.0) =
    subst (Each (λ (other : NameRow). path_cmp directory other.path ≡ Less)) l.1 at.behind in
    let rises : IsRising (row_cmp row_path) (row ∷ l.0) =
    rising-right (row_cmp row_path) at.front (row ∷ l.0)
    (subst (IsRising (row_cmp row_path)) (at.split ∙ ap (λ left. at.front ++ left) l.1) rising) in
    children-are directory rows ∙ at.names
    ∙ ap (λ left. found ++ filter_map (child_at directory) left) l.1
    ∙ ap (λ names. found ++ names) (none-named (child_at directory) (row ∷ l.0) (
      outside-child directory row off,
      each_weaker _ _ (λ (other : NameRow) less. far other less (is_within directory other.path) refl
          behind.0) l.0 rises.0,
    ))
    ∙ append-nil found
  where
    far : (other : NameRow) → path_cmp row.path other.path ≡ Less → (b : Bool)
        → is_within directory other.path ≡ b → path_cmp directory row.path ≡ Less
        → child_at directory other ≡ None
    far other less false out first = outside-child directory other out
    far other less true is first =
        absurd (true≢false (sym (between-within directory row.path other.path first less is) ∙ off))

-- the measure of what is left: the rows from the next on
abbrev pub rows_left : List NameRow → Option NameRow → ℕ
rows_left rows None = 0
rows_left rows (Some row) =
    length (from_first (λ (other : NameRow). is_le (path_cmp row.path other.path)) rows)

left-some : (front rest : List NameRow) (row : NameRow)
    → IsRising (row_cmp row_path) (front ++ row ∷ rest)
    → from_first (λ (other : NameRow). is_le (path_cmp row.path other.path)) (front ++ row ∷ rest)
    ≡ row ∷ rest
left-some front rest row rising =
    from-behind (λ (other : NameRow). is_le (path_cmp row.path other.path)) front (row ∷ rest)
    (each_weaker _ _ (λ (other : NameRow) less. ap is_le (paths_total.antisymm row.path other.path
    ∙ ap ordering_reverse less)) front (rising-apart (row_cmp row_path) front rest row rising))
    ∙ ap (λ o. cond (is_le o) (row ∷ rest) (from_first (λ (other : NameRow). is_le (path_cmp row.path other.path)) rest)) (tied_itself paths_total row.path)

pub left-is : (directory : PathNames) (rows : List NameRow) (found : List Name)
    (next : Option NameRow)
    → IsRising (row_cmp row_path) rows → (at : IsAt directory rows found next)
    → rows_left rows next ≡ length at.left
left-is directory rows found None rising at = one at.left at.next_is
  where
    one : (left : List NameRow) → None ≡ head left → 0 ≡ length left
    one [] e = refl
    one (x ∷ xs) e = absurd (cc)
left-is directory rows found (Some row) rising at =
    let l = at-left directory rows found row at in
    let split : rows ≡ at.front ++ row ∷ l.0 = at.split ∙ ap (λ left. at.front ++ left) l.1 in
    ap (λ all. length (from_first (λ (other : NameRow). is_le (path_cmp row.path other.path)) all)) split
    ∙ ap length (left-some at.front l.0 row (subst (IsRising (row_cmp row_path)) split rising))
    ∙ ap length (sym l.1)

-- the next has fewer rows behind it
pub fewer-left : (directory : PathNames) (rows : List NameRow) (found then : List Name)
    (next after : Option NameRow) → IsRising (row_cmp row_path) rows
    → (at : IsAt directory rows found next) → AtNext directory rows at.left then after
    → rows_left rows after < rows_left rows next
fewer-left directory rows found then next after rising at more =
    omega (
      arith,
      left-is directory rows found next rising at,
      left-is directory rows then after rising more.0,
      more.1,
    )

-- what stands within a directory, behind it, has more names
pub at-deeper : (directory : PathNames) (rows : List NameRow) (found : List Name) (row : NameRow)
    → IsAt directory rows found (Some row) → is_within directory row.path ≡ true
    → length directory < length row.path
at-deeper directory rows found row at is =
    let l = at-left directory rows found row at in
    let behind : Each (λ (other : NameRow). path_cmp directory other.path ≡ Less) (row ∷ l.0) =
    subst (Each (λ (other : NameRow). path_cmp directory other.path ≡ Less)) l.1 at.behind in
    ltb-true _ _ (and_parts _ _ (within-below directory row.path is behind.0)).1
