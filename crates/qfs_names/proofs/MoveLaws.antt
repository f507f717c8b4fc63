-- A rename: what is moved, and that the paths of unclosed files stay found by file. For the calls
-- that plan it and do it.
use Rattle.std.proofs.Common.{drop, length-append, length-drop, length-take, Bool, List, None, Option, Some, [], ap, arith, cond, false, filter, find, length, map, nat_lt, not, refl, suc, sym, true, true≢false, ℕ, ◌&&◌, ◌||◌, ◌^◌, ◌∙◌, ◌∷◌, ◌≡◌, ◌≤◌}
use Rattle.std.proofs.lemmas.Bool.{and_from, and_parts, false_from_ne_true, ltb-false, or_right}
use Rattle.std.specs.List.{list_any}
use Rattle.std.specs.Option.{option_map, option_or}
use Rattle.std.specs.Ordering.{is_eq, nat_cmp}
use Rattle.std.specs.declared.cmp.Ordering.TheVariants.{Equal}
use Rattle.qfs_base.specs.EachLaws.{each_weaker}
use Rattle.qfs_base.specs.NameTree.{PathNames, Standing, add_refusal, grows_too_deep, is_within, kind_at, most_names, moved, parents_refusal, refused_if, source_refusal, rename_refusal, renamed, row_cmp}
use Rattle.qfs_base.specs.Path.{IsPath}
use Rattle.qfs_base.specs.Table.{Each, place_all, without}
use Rattle.qfs_base.specs.declared.reply.TreeRefusal.TheVariants as Not
use Rattle.qfs_model_meta.specs.TreeRows as image
use Rattle.qfs_laws_tables.specs.EachRow.{each_both, each_of_all, each_passes, find_none, found_has, none_found}
use Rattle.qfs_laws_tables.specs.Keys.{equal-is}
use Rattle.qfs_laws_tables.specs.Placed.{each-placed_all}
use Rattle.qfs_laws_tables.specs.SomeRow.{any_mapped, found-any, none_any}
use Rattle.qfs_laws_tree.specs.Move.{if-none, move-onward}
use Rattle.qfs_laws_tree.specs.Tree.{HasTree}
use Rattle.qfs_laws_tree.specs.TreeChanges.{stands-any, stands_test}
use Rattle.qfs_laws_tree.specs.TreeFacts.{or-none, within-is}
use Rattle.qfs_names.proofs.FindLaws.{find-one, find-placed_all_off, find-placed_all_on}
use Rattle.qfs_names.proofs.IndexLaws.{is-number, number-is, ones-of, tied-number}
use Rattle.qfs_names.specs.ImageRows.{rows-moved, rows-standing}
use Rattle.qfs_names.specs.declared.row.NameRow.{NameRow}
use Rattle.qfs_names.specs.declared.row.UnclosedRow.{UnclosedRow}
use Rattle.qfs_names.specs.Moves.{CanMove}
use Rattle.qfs_names.specs.Names.{at_path, is_deep, is_open, is_open_of, moved_rows, of_file, open_paths, path_row, row_path, standing_of}
use Rattle.qfs_names.specs.PathLaws.{rows_total}
use Rattle.qfs_names.specs.Trees.{HoldsOpen, as_row, file_cmp, has_number, maker_of, none_of}

-- ---- each row that is moved, that stays, or whose path is kept by file

module _ (P : NameRow → Type 0) (from to : PathNames) where
  pub each-moved : (rows : List NameRow)
      → Each (λ (row : NameRow). is_within from row.path ≡ true → P (at_path (moved from to row.path) row)) rows
      → Each P (moved_rows from to rows)
  each-moved [] each = tt
  each-moved (row ∷ rows) each =
      elim (is_within from row.path) as (λ b. is_within from row.path ≡ b → Each P
      (map (λ (row : NameRow). at_path (moved from to row.path) row)
      (cond b (row ∷ filter (λ (row : NameRow). is_within from row.path) rows)
      (filter (λ (row : NameRow). is_within from row.path) rows)))) [
        | true ↦ λ is. (each.0 is, each-moved rows each.1)
        | false ↦ λ _. each-moved rows each.1
      ] refl

each-stayed : (P : NameRow → Type 0) (from : PathNames) (rows : List NameRow)
    → Each (λ (row : NameRow). is_within from row.path ≡ false → P row) rows
    → Each P (without (λ (row : NameRow). is_within from row.path) rows)
each-stayed P from [] each = tt
each-stayed P from (row ∷ rows) each =
    elim (is_within from row.path) as (λ b. is_within from row.path ≡ b → Each P
    (cond (not b) (row ∷ without (λ (row : NameRow). is_within from row.path) rows)
    (without (λ (row : NameRow). is_within from row.path) rows))) [
      | true ↦ λ _. each-stayed P from rows each.1
      | false ↦ λ off. (each.0 off, each-stayed P from rows each.1)
    ] refl

each-open : (P : UnclosedRow → Type 0) (rows : List NameRow)
    → Each (λ (row : NameRow). is_open row ≡ true → P (path_row row)) rows → Each P (open_paths rows)
each-open P [] each = tt
each-open P (row ∷ rows) each =
    elim (is_open row) as (λ b. is_open row ≡ b
    → Each P (map path_row (cond b (row ∷ filter is_open rows) (filter is_open rows)))) [
      | true ↦ λ is. (each.0 is, each-open P rows each.1)
      | false ↦ λ _. each-open P rows each.1
    ] refl

-- ---- some row

any-better : {X : Type 0} (test better : X → Bool) (rows : List X)
    → Each (λ row. test row ≡ true → better row ≡ true) rows → list_any test rows ≡ true
    → list_any better rows ≡ true
any-better test better [] each any = absurd (cc)
any-better test better (row ∷ rows) each any =
    (elim (test row) as (λ b. test row ≡ b → (b || list_any test rows) ≡ true
    → (better row || list_any better rows) ≡ true) [
      | true ↦ λ is _. rw (each.0 is) refl
      | false ↦ λ _ any. elim (better row) as (λ b. (b || list_any better rows) ≡ true)
          [ true ↦ refl | false ↦ any-better test better rows each.1 any ]
    ]) refl any

-- an unclosed file within a path is among those that are moved
any-open : (from to : PathNames) (file : ℕ) (rows : List NameRow)
    → list_any (λ (row : NameRow). is_within from row.path && is_open_of file row) rows ≡ true
    → list_any (has_number file) (open_paths (moved_rows from to rows)) ≡ true
any-open from to file [] any = absurd (cc)
any-open from to file (row ∷ rows) any =
    (elim (is_within from row.path) as (λ a.
    ((a && is_open_of file row)
    || list_any (λ (row : NameRow). is_within from row.path && is_open_of file row) rows) ≡ true
    → list_any (has_number file) (open_paths
    (map (λ (row : NameRow). at_path (moved from to row.path) row)
    (cond a (row ∷ filter (λ (row : NameRow). is_within from row.path) rows)
    (filter (λ (row : NameRow). is_within from row.path) rows)))) ≡ true) [
      | true ↦ λ any. (elim (is_open row) as (λ b.
          ((b && of_file file row)
          || list_any (λ (row : NameRow). is_within from row.path && is_open_of file row) rows) ≡ true
          → list_any (has_number file) (map path_row
          (cond b (at_path (moved from to row.path) row ∷ filter is_open (moved_rows from to rows))
          (filter is_open (moved_rows from to rows)))) ≡ true) [
            | true ↦ λ any. (elim (of_file file row) as (λ c.
                (c || list_any (λ (row : NameRow). is_within from row.path && is_open_of file row) rows) ≡ true
                → (c || list_any (has_number file) (open_paths (moved_rows from to rows))) ≡ true) [
                  | true ↦ λ _. refl
                  | false ↦ λ any. any-open from to file rows any
                ]) any
            | false ↦ λ any. any-open from to file rows any
          ]) any
      | false ↦ λ any. any-open from to file rows any
    ]) any

-- ---- the index

pub index-moved : (paths : List UnclosedRow) (from to : PathNames) (rows : List NameRow)
    → IsPath to → rename_refusal (standing_of rows) from to ≡ None
    → HasTree (2 ^ 32) (map as_row rows) → HoldsOpen paths rows
    → HoldsOpen (place_all file_cmp (open_paths (moved_rows from to rows)) paths)
    (renamed row_path at_path from to rows)
unfolding renamed image.is_unclosed_row image.has_file
index-moved paths from to rows is free h holds file = one (find (is_open_of file) rows) refl
  where
    news : List NameRow
    news = moved_rows from to rows

    others : List NameRow
    others = without (λ (row : NameRow). is_within from row.path) rows

    all : List NameRow
    all = place_all (row_cmp row_path) news others

    Fits : Type 0
    Fits = find (has_number file) (place_all file_cmp (open_paths news) paths)
        ≡ option_map path_row (find (is_open_of file) all)

    -- a path that isn't the file's leaves it
    passed : Each (λ (row : NameRow). is_open row ≡ true → of_file file row ≡ false) news
        → find (has_number file) (place_all file_cmp (open_paths news) paths)
        ≡ find (has_number file) paths
    passed each = find-placed_all_off file_cmp (has_number file) (open_paths news) paths
        (each-open (λ u. (has_number file u ≡ false)
        × ((other : UnclosedRow) → nat_cmp u.file other.file ≡ Equal → has_number file other ≡ false)) news
        (each_weaker
        (λ (row : NameRow). is_open row ≡ true → of_file file row ≡ false)
        (λ (row : NameRow). is_open row ≡ true → (has_number file (path_row row) ≡ false)
        × ((other : UnclosedRow) → nat_cmp row.file other.file ≡ Equal → has_number file other ≡ false))
        (λ row off is_so. (
          off is_so,
          λ other tie. ap (λ n. is_eq (nat_cmp file n))
              (number-is row.file other.file (ap is_eq tie)) ∙ off is_so,
        )) news each))

    none : Each (λ row. is_open_of file row ≡ false) rows → Fits
    none each =
        passed (each-moved (λ row. is_open row ≡ true → of_file file row ≡ false) from to rows
        (each_weaker (λ row. is_open_of file row ≡ false)
        (λ (row : NameRow). is_within from row.path ≡ true → is_open row ≡ true → of_file file row ≡ false)
        (λ row off _ is_so. sym (ap (λ b. b && of_file file row) is_so) ∙ off) rows each))
        ∙ holds file ∙ ap (option_map path_row) (find_none (is_open_of file) rows each)
        ∙ ap (option_map path_row) (sym (find_none (is_open_of file) all
        (each-placed_all rows_total (λ row. is_open_of file row ≡ false) news others
        (each-moved (λ row. is_open_of file row ≡ false) from to rows
        (each_weaker (λ row. is_open_of file row ≡ false)
        (λ (row : NameRow). is_within from row.path ≡ true → is_open_of file row ≡ false)
        (λ row off _. off) rows each))
        (each-stayed (λ row. is_open_of file row ≡ false) from rows
        (each_weaker (λ row. is_open_of file row ≡ false)
        (λ (row : NameRow). is_within from row.path ≡ false → is_open_of file row ≡ false)
        (λ row off _. off) rows each)))))

    free-there : rename_refusal (image.standing (map as_row rows)) from to ≡ None
    free-there = ap (λ s. rename_refusal s from to) (sym (rows-standing maker_of none_of none_of rows)) ∙ free

    -- the file stands after the move
    stands : (row : NameRow) → find (is_open_of file) rows ≡ Some row → is_open_of file row ≡ true
        → list_any (of_file file) all ≡ true
    stands row found own =
        let parts = and_parts (is_open row) (of_file file row) own in
        let before : list_any (stands_test file) (map as_row rows) ≡ true =
        any_mapped as_row (stands_test file) rows
        ∙ found-any (is_open_of file) (λ row. stands_test file (as_row row)) rows row found
        (and_from (image.is_closed_row (as_row row) || image.is_unclosed_row (as_row row))
        (of_file file row) (or_right (image.is_closed_row (as_row row)) (is_open row) parts.0)
        parts.1) in
        let after : list_any (stands_test file) (image.move_path from to (map as_row rows)) ≡ true =
        sym (stands-any file (image.move_path from to (map as_row rows)))
        ∙ (move-onward from to (map as_row rows) (2 ^ 32) is free-there h file).0
        (stands-any file (map as_row rows) ∙ before) in
        any-better (λ row. stands_test file (as_row row)) (of_file file) all
        (each_of_all (λ row. stands_test file (as_row row) ≡ true → of_file file row ≡ true)
        (λ row stays. (and_parts (image.is_closed_row (as_row row) || image.is_unclosed_row (as_row row))
        (of_file file row) stays).1) all)
        (sym (any_mapped as_row (stands_test file) all)
        ∙ ap (list_any (stands_test file)) (rows-moved maker_of none_of none_of from to rows) ∙ after)

    -- then it is found there
    there : (row then : NameRow) → find (is_open_of file) rows ≡ Some row
        → is_open_of file row ≡ true → is_open_of file then ≡ true
        → Each (λ (r : NameRow). of_file file r ≡ true → r ≡ then) all
        → find (is_open_of file) all ≡ Some then
    there row then found own shown each =
        find-one (is_open_of file) then all
        (each_weaker (λ r. of_file file r ≡ true → r ≡ then) (λ r. is_open_of file r ≡ true → r ≡ then)
        (λ r one is. one (and_parts (is_open r) (of_file file r) is).1) all each)
        (any-better (of_file file) (is_open_of file) all
        (each_weaker (λ r. of_file file r ≡ true → r ≡ then)
        (λ r. of_file file r ≡ true → is_open_of file r ≡ true)
        (λ r one own. ap (is_open_of file) (one own) ∙ shown) all each)
        (stands row found own))

    moves : (row : NameRow) → find (is_open_of file) rows ≡ Some row → is_open_of file row ≡ true
        → is_within from row.path ≡ true
        → Each (λ (r : NameRow). of_file file r ≡ true → r ≡ row) rows → Fits
    moves row found own within ones =
        let then : NameRow = at_path (moved from to row.path) row in
        let each : Each (λ (r : NameRow). of_file file r ≡ true → r ≡ then) news =
        each-moved (λ (r : NameRow). of_file file r ≡ true → r ≡ then) from to rows
        (each_weaker (λ (r : NameRow). of_file file r ≡ true → r ≡ row)
        (λ (r : NameRow). is_within from r.path ≡ true → of_file file r ≡ true
        → at_path (moved from to r.path) r ≡ then)
        (λ r one _ is. ap (λ (x : NameRow). at_path (moved from to x.path) x) (one is))
        rows ones) in
        find-placed_all_on file_cmp (has_number file) (path_row then) (open_paths news) paths
        (λ (a : UnclosedRow) (b : UnclosedRow) tie. tied-number file a.file b.file tie)
        (λ (a : UnclosedRow) (b : UnclosedRow) p q. equal-is (nat_cmp a.file b.file)
        (is-number a.file b.file (number-is file b.file q ∙ sym (number-is file a.file p))))
        (each-open (λ u. has_number file u ≡ true → u ≡ path_row then) news
        (each_weaker (λ (r : NameRow). of_file file r ≡ true → r ≡ then)
        (λ (r : NameRow). is_open r ≡ true → has_number file (path_row r) ≡ true → path_row r ≡ path_row then)
        (λ r one _ is. ap path_row (one is)) news each))
        (any-open from to file rows
        (found-any (is_open_of file) (λ (r : NameRow). is_within from r.path && is_open_of file r) rows
        row found (and_from (is_within from row.path) (is_open_of file row) within own)))
        ∙ ap (option_map path_row) (sym (there row then found own own
        (each-placed_all rows_total (λ (r : NameRow). of_file file r ≡ true → r ≡ then) news others each
        (each-stayed (λ (r : NameRow). of_file file r ≡ true → r ≡ then) from rows
        (each_weaker (λ (r : NameRow). of_file file r ≡ true → r ≡ row)
        (λ (r : NameRow). is_within from r.path ≡ false → of_file file r ≡ true → r ≡ then)
        (λ r one off is. absurd (true≢false (sym within
        ∙ ap (λ (x : NameRow). is_within from x.path) (sym (one is)) ∙ off))) rows ones)))))

    stays : (row : NameRow) → find (is_open_of file) rows ≡ Some row → is_open_of file row ≡ true
        → is_within from row.path ≡ false
        → Each (λ (r : NameRow). of_file file r ≡ true → r ≡ row) rows → Fits
    stays row found own outside ones =
        let apart : Each (λ (r : NameRow). of_file file r ≡ true → ⊥) news =
        each-moved (λ (r : NameRow). of_file file r ≡ true → ⊥) from to rows
        (each_weaker (λ (r : NameRow). of_file file r ≡ true → r ≡ row)
        (λ (r : NameRow). is_within from r.path ≡ true → of_file file r ≡ true → ⊥)
        (λ r one within is. true≢false (sym within
        ∙ ap (λ (x : NameRow). is_within from x.path) (one is) ∙ outside)) rows ones) in
        passed (each_weaker (λ (r : NameRow). of_file file r ≡ true → ⊥)
        (λ (r : NameRow). is_open r ≡ true → of_file file r ≡ false)
        (λ r apart _. false_from_ne_true (of_file file r) apart) news apart)
        ∙ holds file ∙ ap (option_map path_row) found
        ∙ ap (option_map path_row) (sym (there row row found own own
        (each-placed_all rows_total (λ (r : NameRow). of_file file r ≡ true → r ≡ row) news others
        (each_weaker (λ (r : NameRow). of_file file r ≡ true → ⊥)
        (λ (r : NameRow). of_file file r ≡ true → r ≡ row) (λ r apart is. absurd (apart is)) news apart)
        (each-stayed (λ (r : NameRow). of_file file r ≡ true → r ≡ row) from rows
        (each_weaker (λ (r : NameRow). of_file file r ≡ true → r ≡ row)
        (λ (r : NameRow). is_within from r.path ≡ false → of_file file r ≡ true → r ≡ row)
        (λ r one _. one) rows ones)))))

    one : (o : Option NameRow) → find (is_open_of file) rows ≡ o → Fits
    one None found = none (none_found (is_open_of file) rows found)
    one (Some row) found =
        let own = (found_has (λ _. Unit {0}) (is_open_of file) rows row found
        (each_of_all _ (λ _. tt) rows)).1 in
        let ones = ones-of file rows row h found in
        elim (is_within from row.path) as (λ b. is_within from row.path ≡ b → Fits) [
          | true ↦ λ within. moves row found own within ones
          | false ↦ λ outside. stays row found own outside ones
        ] refl

-- ---- counts, and depths

pub open-length : (rows : List NameRow) → length (open_paths rows) ≤ length rows
open-length [] = omega arith
open-length (row ∷ rows) =
    let rest = open-length rows in
    elim (is_open row) as (λ b. length (map path_row (cond b (row ∷ filter is_open rows)
    (filter is_open rows))) ≤ suc (length rows)) [ true ↦ omega arith | false ↦ omega arith ]

-- what is too deep is so among what is moved
pub too_deep_within : (from to : PathNames) (rows : List NameRow)
    → grows_too_deep (standing_of rows) from to
    ≡ list_any (is_deep from to) (filter (λ (row : NameRow). is_within from row.path) rows)
unfolding grows_too_deep
too_deep_within from to [] = refl
too_deep_within from to (row ∷ rows) =
    let rest = too_deep_within from to rows in
    elim (is_within from row.path) as (λ b. ((b && is_deep from to row)
    || list_any (λ (s : Standing). is_within from s.path && nat_lt most_names (length (moved from to s.path)))
    (standing_of rows)) ≡ list_any (is_deep from to) (cond b
    (row ∷ filter (λ (row : NameRow). is_within from row.path) rows)
    (filter (λ (row : NameRow). is_within from row.path) rows)))
    [ true ↦ ap (λ b. is_deep from to row || b) rest | false ↦ rest ]

-- what lies within a path has its names, and few enough once it is moved
pub can_move : (from to : PathNames) (rows : List NameRow)
    → rename_refusal (standing_of rows) from to ≡ None
    → Each (CanMove (length from) to) (filter (λ (row : NameRow). is_within from row.path) rows)
unfolding rename_refusal
can_move from to rows free =
    let tree = standing_of rows in
    let deep = refused_if (grows_too_deep tree from to) Not.TooDeep in
    let placed = option_or (add_refusal tree to) deep in
    let apart = option_or (refused_if (is_within from to) Not.IntoSelf) placed in
    let a = or-none (parents_refusal Not.Missing tree from)
    (option_or (source_refusal (kind_at tree from)) apart) free in
    let b = or-none (source_refusal (kind_at tree from)) apart a.1 in
    let c = or-none (refused_if (is_within from to) Not.IntoSelf) placed b.1 in
    let d = or-none (add_refusal tree to) deep c.1 in
    let shallow : list_any (is_deep from to) (filter (λ (row : NameRow). is_within from row.path) rows) ≡ false =
    sym (too_deep_within from to rows) ∙ if-none Not.TooDeep (grows_too_deep tree from to) d.1 in
    each_weaker (λ (row : NameRow). (is_within from row.path ≡ true) × (is_deep from to row ≡ false))
    (CanMove (length from) to)
    (λ row p. fits row p.0 p.1) (filter (λ (row : NameRow). is_within from row.path) rows)
    (each_both (λ (row : NameRow). is_within from row.path ≡ true)
    (λ (row : NameRow). is_deep from to row ≡ false)
    (filter (λ (row : NameRow). is_within from row.path) rows)
    (each_passes (λ (row : NameRow). is_within from row.path) rows)
    (none_any (is_deep from to) (filter (λ (row : NameRow). is_within from row.path) rows) shallow))
  where
    fits : (row : NameRow) → is_within from row.path ≡ true → is_deep from to row ≡ false
        → CanMove (length from) to row
    fits row is off =
        let l = ap length (within-is from row.path is) in
        let low = ltb-false most_names (length (moved from to row.path)) off in (
          omega (arith, length-take (length from) row.path),
          omega (arith, length-append to (drop (length from) row.path), length-drop (length from) row.path),
        )

-- ---- the paths of the unclosed files of rows

any-open_path : (file : ℕ) (rows : List NameRow) → list_any (is_open_of file) rows ≡ true
    → list_any (has_number file) (open_paths rows) ≡ true
any-open_path file [] any = absurd (cc)
any-open_path file (row ∷ rows) any =
    (elim (is_open row) as (λ b. ((b && of_file file row) || list_any (is_open_of file) rows) ≡ true
    → list_any (has_number file) (map path_row (cond b (row ∷ filter is_open rows) (filter is_open rows)))
    ≡ true) [
      | true ↦ λ any. (elim (of_file file row) as (λ c. (c || list_any (is_open_of file) rows) ≡ true
          → (c || list_any (has_number file) (open_paths rows)) ≡ true) [
            | true ↦ λ _. refl
            | false ↦ λ any. any-open_path file rows any
          ]) any
      | false ↦ λ any. any-open_path file rows any
    ]) any

pub index-all : (rows : List NameRow) → HasTree (2 ^ 32) (map as_row rows)
    → HoldsOpen (place_all file_cmp (open_paths rows) []) rows
index-all rows h file = one (find (is_open_of file) rows) refl
  where
    off-open : (row : NameRow) → is_open_of file row ≡ false → is_open row ≡ true
        → of_file file row ≡ false
    off-open row off is_so = sym (ap (λ b. b && of_file file row) is_so) ∙ off

    one : (o : Option NameRow) → find (is_open_of file) rows ≡ o
        → find (has_number file) (place_all file_cmp (open_paths rows) [])
        ≡ option_map path_row (find (is_open_of file) rows)
    one None found =
        find-placed_all_off file_cmp (has_number file) (open_paths rows) []
        (each-open (λ u. (has_number file u ≡ false)
        × ((other : UnclosedRow) → nat_cmp u.file other.file ≡ Equal → has_number file other ≡ false)) rows
        (each_weaker (λ row. is_open_of file row ≡ false)
        (λ (row : NameRow). is_open row ≡ true → (has_number file (path_row row) ≡ false)
        × ((other : UnclosedRow) → nat_cmp row.file other.file ≡ Equal → has_number file other ≡ false))
        (λ row off is_so. (
          off-open row off is_so,
          λ other tie. ap (λ n. is_eq (nat_cmp file n))
              (number-is row.file other.file (ap is_eq tie)) ∙ off-open row off is_so,
        )) rows (none_found (is_open_of file) rows found)))
        ∙ ap (option_map path_row) (sym found)
    one (Some row) found =
        let own = (found_has (λ _. Unit {0}) (is_open_of file) rows row found
        (each_of_all _ (λ _. tt) rows)).1 in
        find-placed_all_on file_cmp (has_number file) (path_row row) (open_paths rows) []
        (λ (a : UnclosedRow) (b : UnclosedRow) tie. tied-number file a.file b.file tie)
        (λ (a : UnclosedRow) (b : UnclosedRow) p q. equal-is (nat_cmp a.file b.file)
        (is-number a.file b.file (number-is file b.file q ∙ sym (number-is file a.file p))))
        (each-open (λ u. has_number file u ≡ true → u ≡ path_row row) rows
        (each_weaker (λ (r : NameRow). of_file file r ≡ true → r ≡ row)
        (λ (r : NameRow). is_open r ≡ true → has_number file (path_row r) ≡ true → path_row r ≡ path_row row)
        (λ r one _ is. ap path_row (one is)) rows (ones-of file rows row h found)))
        (any-open_path file rows (found-any (is_open_of file) (is_open_of file) rows row found own))
        ∙ ap (option_map path_row) (sym found)
