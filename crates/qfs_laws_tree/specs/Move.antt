-- The name tree after everything within a path moved to another. Cited by the laws of the
-- metaserver, and for names.
use Rattle.qfs_base.specs.NameTree.{PathNames, grows_too_deep, is_within, kind_at, most_names}
use Rattle.qfs_base.specs.NameTree.{moved, path_cmp, path_eq, refused_if, rename_refusal, renamed}
use Rattle.qfs_base.specs.NameTree.{row_cmp}
use Rattle.qfs_base.specs.Path.{IsName, IsPath}
use Rattle.qfs_base.specs.Table.{Each, IsRising, place_all, without}
use Rattle.qfs_base.specs.declared.image.TreeRow.{TreeRow}
use Rattle.qfs_base.specs.declared.reply.TreeRefusal.{TreeRefusal}
use Rattle.qfs_model_meta.specs.TreeRows.{at_path, file_stands, has_file, is_closed_row}
use Rattle.qfs_model_meta.specs.TreeRows.{is_unclosed_row, move_path, row_path, standing}
use Rattle.std.proofs.Common.{Bool, List, None, Some, [], ap, arith, cond, drop, false, filter}
use Rattle.std.proofs.Common.{length, length-append, length-take, map, nat_lt, not, refl, subst}
use Rattle.std.proofs.Common.{sym, take, true, ℕ, ⊎_elim, ◌&&◌, ◌++◌, ◌+◌, ◌-◌, ◌<◌, ◌==◌, ◌||◌}
use Rattle.std.proofs.Common.{◌∙◌, ◌∷◌, ◌≡◌, ◌≢◌, ◌≤◌}
use Rattle.std.proofs.Math.Seq.{drop-append_seam, take-append-add, take-append_seam, take-length}
use Rattle.std.proofs.lemmas.Bool.{and_from, and_parts, cases_lt, ltb-false, not-true, or_left}
use Rattle.std.proofs.lemmas.Bool.{or_parts, or_right, true≢false}
use Rattle.std.proofs.lemmas.List.{take-append-drop, take-append-le, take-take}
use Rattle.std.proofs.lemmas.List.Elements.{All-append, All-drop}
use Rattle.std.specs.Cmp.{tied_itself}
use Rattle.std.specs.Cmp.Lexicographic.{nat_list_cmp_total}
use Rattle.std.specs.List.{list_any}
use Rattle.std.specs.Ordering.{ordering_then}
use Rattle.std.specs.Prelude.{IsTrue}
use Rattle.qfs_base.specs.declared.lists.NameKind.TheVariants as Is
use Rattle.qfs_base.specs.declared.reply.TreeRefusal.TheVariants as Not
use Rattle.qfs_laws_slots.specs.SlotTable.{Onward}
use Rattle.qfs_base.specs.EachLaws.{each_filter, each_weaker}
use Rattle.qfs_laws_tables.specs.EachRow.{each_of_all, each_both, each_map, each_passes}
use Rattle.qfs_laws_tables.specs.InOrder.{filter_rises, map_rises-given}
use Rattle.qfs_laws_tables.specs.Placed.{Apart, any-placed_all, each-placed_all, placed_all-rises}
use Rattle.qfs_laws_tables.specs.Placed.{total-placed_all}
use Rattle.qfs_laws_tables.specs.SomeRow.{any_filter, any_map}
use Rattle.qfs_laws_tables.specs.Sums.{total}
use Rattle.qfs_laws_tree.specs.Stands.{back-any, onward-any}
use Rattle.qfs_laws_tree.specs.Tree.{HasDirectory, HasTree, Lies, RowIs, directory-kind}
use Rattle.qfs_laws_tree.specs.Tree.{file_weight, is_directory_at, parents-lie}
use Rattle.qfs_laws_tree.specs.TreeChanges.{closed_test, stands_test}
use Rattle.qfs_laws_tree.specs.TreeFacts.{add-free, is-within, none-at, or-none, path-is, path-self}
use Rattle.qfs_laws_tree.specs.TreeFacts.{row-ties, tree_total, within-is}

-- ---- paths that are moved

-- what paths have below a common one decides their order
below-order : (top p q : PathNames) → path_cmp (top ++ p) (top ++ q) ≡ path_cmp p q
below-order [] p q = refl
below-order (name ∷ names) p q =
    ap (λ o. ordering_then o (path_cmp (names ++ p) (names ++ q)))
    (tied_itself nat_list_cmp_total name) ∙ below-order names p q

within-split : (from path : PathNames) → is_within from path ≡ true
    → path ≡ from ++ drop (length from) path
within-split from path is =
    sym (take-append-drop (length from) path) ∙ ap (λ p. p ++ drop (length from) path)
    (sym (within-is from path is))

moved-order : (from to : PathNames) (a b : TreeRow) → is_within from a.path ≡ true
    → is_within from b.path ≡ true
    → row_cmp row_path (at_path (moved from to a.path) a)
    (at_path (moved from to b.path) b) ≡ row_cmp row_path a b
moved-order from to a b p q =
    below-order to (drop (length from) a.path) (drop (length from) b.path)
    ∙ sym (below-order from (drop (length from) a.path) (drop (length from) b.path))
    ∙ (λ i. path_cmp (sym (within-split from a.path p) i) (sym (within-split from b.path q) i))

-- a path above one that isn't within another isn't either
within-taken : (from path : PathNames) (n : ℕ) → is_within from (take n path) ≡ true
    → is_within from path ≡ true
within-taken from path n is =
    let e = within-is from (take n path) is in
    ⊎_elim
    (λ (low : n < length from). absurd
    (let l = ap length e in omega (
      arith,
      length-take (length from) (take n path),
      length-take n
          path,
    )))
    (λ (high : length from ≤ n). is-within from path (e ∙ take-take (length from) n path high))
    (cases_lt n (length from))

from-long : (path : PathNames) → path ≢ [] → 1 ≤ length path
from-long [] some = absurd (some refl)
from-long (name ∷ names) some = omega arith

not-empty : (to x : PathNames) → to ≢ [] → to ++ x ≡ [] → ⊥
not-empty [] x some e = some refl
not-empty (name ∷ names) x some e = cc

-- ---- what is known of a move

pub record Moves (from to : PathNames) (tree : List TreeRow) : Type 0 where
  pub from_some : from ≢ []
  pub apart : is_within from to ≡ false
  pub parents : Lies tree to
  pub free : Each (λ (row : TreeRow). is_within to row.path ≡ false) tree
  pub shallow : Each (λ (row : TreeRow). is_within from row.path ≡ true → length
      (moved from to row.path) ≤ 32) tree
  pub is_path : IsPath to
  pub to_some : to ≢ []

-- ---- the tree after it

module _ (from to : PathNames) (tree : List TreeRow) (next : ℕ) (h : HasTree next tree)
    (moves : Moves from to tree) where
  abbrev is_moved : TreeRow → Bool
  is_moved row = is_within from row.path

  abbrev kept_rows : List TreeRow
  kept_rows = without is_moved tree

  abbrev landed : List TreeRow
  landed = map (λ (row : TreeRow). at_path (moved from to row.path) row) (filter is_moved tree)

  landed-rise : IsRising (row_cmp row_path) landed
  landed-rise =
      map_rises-given (λ row. is_moved row ≡ true) (row_cmp row_path)
      (λ (row : TreeRow). at_path (moved from to row.path) row)
      (λ a b p q. moved-order from to a b p q) (filter is_moved tree) (each_passes is_moved tree)
      (filter_rises (row_cmp row_path) is_moved tree h.in_order)

  landed-within : Each (λ (row : TreeRow). is_within to row.path ≡ true) landed
  landed-within =
      each_map (λ _. Unit {0}) _ (λ (row : TreeRow). at_path (moved from to row.path) row)
      (λ row _. is-within to (moved from to row.path)
      (sym (take-append_seam to (drop (length from) row.path)))) (filter is_moved tree)
      (each_of_all _ (λ _. tt) (filter is_moved tree))

  landed-apart : Each (λ new. Apart (row_cmp row_path) new kept_rows) landed
  landed-apart =
      each_weaker _ _ (λ (new : TreeRow) is. each_weaker
      (λ (row : TreeRow). is_within to row.path ≡ false) _
      (λ row off tie. true≢false (sym is ∙ ap (is_within to) (row-ties new row tie) ∙ off))
      kept_rows (each_filter _ (λ row. not (is_moved row)) tree moves.free)) landed landed-within

  -- a directory that doesn't move, and one that does
  stays : (path : PathNames) → (is_within from path ≡ false) → HasDirectory tree path
      → HasDirectory (place_all (row_cmp row_path) landed kept_rows) path
  stays path off has =
      any-placed_all tree_total (is_directory_at path) landed kept_rows landed-rise landed-apart
      ∙ or_right _ _ (any_filter (is_directory_at path) (λ row. not (is_moved row))
      (λ row is. ap (λ p. not (is_within from p)) (path-is row.path path (and_parts _ _ is).0) ∙ ap
      not off) tree has)

  lands : (x : PathNames) → HasDirectory tree (from ++ x)
      → HasDirectory (place_all (row_cmp row_path) landed kept_rows) (to ++ x)
  lands x has =
      any-placed_all tree_total (is_directory_at (to ++ x)) landed kept_rows landed-rise
      landed-apart
      ∙ or_left _ _ (any_map (is_directory_at (from ++ x)) (is_directory_at (to ++ x))
      (λ (row : TreeRow). at_path (moved from to row.path) row)
      (λ row is.
      let p = and_parts (path_eq row.path (from ++ x)) (row.file == 0) is in
      let at : row.path ≡ from ++ x = path-is row.path (from ++ x) p.0 in
      let e : to ++ drop (length from) row.path ≡ to ++ x = ap (λ q. to ++ drop (length from) q) at
      ∙ ap (λ q. to ++ q) (drop-append_seam from x) in
      and_from _ _ (ap (λ q. path_eq q (to ++ x)) e ∙ path-self (to ++ x)) p.1)
      (filter is_moved tree)
      (any_filter (is_directory_at (from ++ x)) is_moved (λ row is.
      let at : row.path ≡ from ++ x = path-is row.path (from ++ x)
      (and_parts (path_eq row.path (from ++ x)) (row.file == 0) is).0 in
      ap (is_within from) at ∙ is-within from (from ++ x) (sym (take-append_seam from x))) tree
      has))

  kept-lies : (row : TreeRow) → not (is_moved row) ≡ true → Lies tree row.path
      → Lies (place_all (row_cmp row_path) landed kept_rows) row.path
  kept-lies row off lies n low high =
      stays (take n row.path)
      ((elim (is_within from (take n row.path)) as
      (λ b. is_within from (take n row.path) ≡ b → b ≡ false) [
        | true ↦ λ is. absurd (true≢false (sym (within-taken from row.path n is) ∙ not-true _ off))
        | false ↦ λ _. refl
      ]) refl)
      (lies n low high)

  landed-lies : (row : TreeRow) → is_moved row ≡ true → Lies tree row.path
      → Lies (place_all (row_cmp row_path) landed kept_rows) (moved from to row.path)
  landed-lies row is lies n low high =
      let x : PathNames = drop (length from) row.path in
      let whole : row.path ≡ from ++ x = within-split from row.path is in
      ⊎_elim
      (λ (short : n < length to).
      let e : take n (to ++ x) ≡ take n to = take-append-le n to x (omega arith) in
      subst (HasDirectory (place_all (row_cmp row_path) landed kept_rows)) (sym e)
      (stays (take n to)
      ((elim (is_within from (take n to)) as (λ b. is_within from (take n to) ≡ b → b ≡ false) [
        | true ↦ λ in_it. absurd (true≢false (sym (within-taken from to n in_it) ∙ moves.apart))
        | false ↦ λ _. refl
      ]) refl)
      (moves.parents n low short)))
      (λ (long : length to ≤ n).
      let j : ℕ = n - length to in
      let n_is : n ≡ length to + j = omega arith in
      let e : take n (to ++ x) ≡ to ++ take j x = ap (λ k. take k (to ++ x)) n_is ∙ take-append-add
      to x j in
      let f : take (length from + j) row.path ≡ from ++ take j x = ap (take (length from + j)) whole
      ∙ take-append-add from x j in
      let some : 1 ≤ length from = from-long from moves.from_some in
      let within : length from + j < length row.path =
      (let a = length-append to x in let b = ap length whole in let c = length-append from x in
      omega arith) in
      subst (HasDirectory (place_all (row_cmp row_path) landed kept_rows)) (sym e)
      (lands (take j x) (subst (HasDirectory tree) f
      (lies (length from + j) (omega arith) within))))
      (cases_lt n (length to))

  landed-is : (row : TreeRow) → is_moved row ≡ true → length (moved from to row.path) ≤ 32
      → RowIs next row → RowIs next (at_path (moved from to row.path) row)
  landed-is row is short r = record {
    path = (
      short,
      All-append IsName to (drop (length from) row.path) moves.is_path.1
          (All-drop IsName (length from) row.path r.path.1),
    );
    no_root = λ e. not-empty to (drop (length from) row.path) moves.to_some e;
    plain = r.plain;
    number = r.number;
    len = r.len;
    maker = r.maker;
  }

  -- every row of the tree is kept or lands
  pub split-any : (test : TreeRow → Bool)
      → ((row : TreeRow) (path : PathNames) → test (at_path path row) ≡ test row)
      → list_any test (place_all (row_cmp row_path) landed kept_rows) ≡ list_any test tree
  split-any test same =
      any-placed_all tree_total test landed kept_rows landed-rise landed-apart ∙ both tree
    where
      group : (a b c : Bool) → ((a || b) || c) ≡ (a || (b || c))
      group true b c = refl
      group false b c = refl

      swap : (a b c : Bool) → (a || (b || c)) ≡ (b || (a || c))
      swap true true c = refl
      swap true false c = refl
      swap false true c = refl
      swap false false c = refl

      both : (rows : List TreeRow)
          → (list_any test (map (λ (row : TreeRow). at_path (moved from to row.path) row)
          (filter is_moved rows)) || list_any test (without is_moved rows)) ≡ list_any test rows
      both [] = refl
      both (row ∷ rows) =
          let rest = both rows in
          (elim (is_moved row) as (λ b.
          (list_any test (map (λ (row : TreeRow). at_path (moved from to row.path) row)
          (cond b (row ∷ filter is_moved rows) (filter is_moved rows))) || list_any test
          (cond (not b) (row ∷ without is_moved rows) (without is_moved rows))) ≡ (test row
          || list_any test rows)) [
            | true ↦ ap (λ t. (t || list_any test
                (map (λ (row : TreeRow). at_path (moved from to row.path) row)
                (filter is_moved rows))) || list_any test (without is_moved rows))
                (same row (moved from to row.path)) ∙ group (test row) _ _ ∙ ap (λ t. test row || t)
                rest
            | false ↦ swap _ (test row) _ ∙ ap (λ t. test row || t) rest
          ])

  pub tree-moved : HasTree next (place_all (row_cmp row_path) landed kept_rows)
  tree-moved = record {
    in_order = placed_all-rises tree_total landed kept_rows
        (filter_rises (row_cmp row_path) (λ row. not (is_moved row)) tree h.in_order);
    rows = each-placed_all tree_total (RowIs next) landed kept_rows
        (each_map (λ (row : TreeRow). (is_moved row ≡ true)
        × ((is_moved row ≡ true → length (moved from to row.path) ≤ 32) × RowIs next row))
        (RowIs next) (λ (row : TreeRow). at_path (moved from to row.path) row)
        (λ row b. landed-is row b.0 (b.1.0 b.0) b.1.1) (filter is_moved tree)
        (each_both (λ (row : TreeRow). is_moved row ≡ true) _ (filter is_moved tree)
        (each_passes is_moved tree) (each_filter _ is_moved tree
        (each_both _ (RowIs next) tree moves.shallow h.rows))))
        (each_filter (RowIs next) (λ row. not (is_moved row)) tree h.rows);
    parents =
        each-placed_all tree_total (λ (row : TreeRow). Lies
        (place_all (row_cmp row_path) landed kept_rows) row.path) landed kept_rows
        (each_map (λ (row : TreeRow). (is_moved row ≡ true) × Lies tree row.path) _
        (λ (row : TreeRow). at_path (moved from to row.path) row) (λ row b. landed-lies row b.0 b.1)
        (filter is_moved tree)
        (each_both (λ (row : TreeRow). is_moved row ≡ true) (λ (row : TreeRow). Lies tree row.path)
        (filter is_moved tree) (each_passes is_moved tree)
        (each_filter (λ (row : TreeRow). Lies tree row.path) is_moved tree h.parents)))
        (each_weaker (λ (row : TreeRow). (not (is_moved row) ≡ true) × Lies tree row.path) _
        (λ row b. kept-lies row b.0 b.1) kept_rows
        (each_both (λ (row : TreeRow). not (is_moved row) ≡ true)
        (λ (row : TreeRow). Lies tree row.path) kept_rows
        (each_passes (λ row. not (is_moved row)) tree)
        (each_filter (λ (row : TreeRow). Lies tree row.path) (λ row. not (is_moved row)) tree
        h.parents)));
    once = λ file. let o = h.once file in let e = total-placed_all tree_total (file_weight file)
        landed kept_rows landed-rise landed-apart in let f = both file tree in omega arith;
  }
    where
      both : (file : ℕ) (rows : List TreeRow)
          → total (file_weight file) (map (λ (row : TreeRow). at_path (moved from to row.path) row)
          (filter is_moved rows)) + total (file_weight file) (without is_moved rows) ≡ total
          (file_weight file) rows
      both file [] = refl
      both file (row ∷ rows) =
          let rest = both file rows in
          elim (is_moved row) as (λ b. total (file_weight file)
          (map (λ (row : TreeRow). at_path (moved from to row.path) row)
          (cond b (row ∷ filter is_moved rows) (filter is_moved rows))) + total (file_weight file)
          (cond (not b) (row ∷ without is_moved rows) (without is_moved rows)) ≡ file_weight file
          row + total (file_weight file) rows) [
            | true ↦ omega arith
            | false ↦ omega arith
          ]

-- ---- from the rules of the tree

pub if-none : (why : TreeRefusal) (b : Bool) → refused_if b why ≡ None → b ≡ false
if-none why true e = absurd (cc)
if-none why false e = refl

-- no row is within a path at which nothing stands
outside : (to : PathNames) (tree : List TreeRow) (row : TreeRow) → IsRising (row_cmp row_path) tree
    → to ≢ [] → kind_at (standing tree) to ≡ None → path_eq row.path to ≡ false → Lies tree row.path
    → is_within to row.path ≡ false
outside to tree row rising some none off lies =
    (elim (is_within to row.path) as (λ b. is_within to row.path ≡ b → b ≡ false) [
      | true ↦ λ is.
          let e = within-is to row.path is in
          ⊎_elim
          (λ (short : length to < length row.path).
          let at = directory-kind tree to rising
          (subst (HasDirectory tree) (sym e) (lies (length to) (from-long to some) short)) in
          absurd (let f : Some Is.Directory ≡ None = sym at ∙ none in cc))
          (λ (long : length row.path ≤ length to).
          let l = ap length e in
          let same : length to ≡ length row.path = omega (arith, length-take (length to) row.path)
          in
          let whole : row.path ≡ to = sym (take-length row.path) ∙ ap (λ n. take n row.path)
          (sym same) ∙ sym e in
          absurd (true≢false (sym (path-self to) ∙ ap (λ p. path_eq p to) (sym whole) ∙ off)))
          (cases_lt (length to) (length row.path))
      | false ↦ λ _. refl
    ]) refl

deep : (from to : PathNames) (rows : List TreeRow) → grows_too_deep (standing rows) from to ≡ false
    → Each (λ (row : TreeRow). is_within from row.path ≡ true → length (moved from to row.path) ≤
    32) rows
unfolding grows_too_deep standing
deep from to [] e = tt
deep from to (row ∷ rows) e =
    let p = or_parts _ _ e in (
      (λ is. one (nat_lt most_names (length (moved from to row.path))) refl
          (ap (λ b. b && nat_lt most_names (length (moved from to row.path))) (sym is) ∙ p.0)),
      deep from
          to rows p.1,
    )
  where
    one : (b : Bool) → nat_lt most_names (length (moved from to row.path)) ≡ b → b ≡ false
        → length (moved from to row.path) ≤ 32
    one true is off = absurd (true≢false off)
    one false is off = ltb-false most_names (length (moved from to row.path)) is

pub moves-of : (from to : PathNames) (m_tree : List TreeRow) (next : ℕ) → HasTree next m_tree
    → IsPath to → rename_refusal (standing m_tree) from to ≡ None → Moves from to m_tree
unfolding rename_refusal
moves-of from to tree next h is free =
    let a = or-none _ _ free in
    let b = or-none _ _ a.1 in
    let c = or-none _ _ b.1 in
    let d = or-none _ _ c.1 in
    let add = add-free (standing tree) to d.0 in
    let none = none-at tree to add.1 in
    let apart = if-none Not.IntoSelf (is_within from to) c.0 in
    record {
      from_some = λ e. true≢false (sym (ap (λ p. is_within p to) e) ∙ apart);
      apart = apart;
      parents = parents-lie tree to add.0;
      free = each_weaker (λ (row : TreeRow). (path_eq row.path to ≡ false) × Lies tree row.path) _
          (λ row b. outside to tree row h.in_order none.0 add.1 b.0 b.1) tree
          (each_both (λ (row : TreeRow). path_eq row.path to ≡ false)
          (λ (row : TreeRow). Lies tree row.path) tree none.1 h.parents);
      shallow = deep from to tree (if-none Not.TooDeep _ d.1);
      is_path = is;
      to_some = none.0;
    }

-- ---- a move

pub move-tree : (from to : PathNames) (tree : List TreeRow) (next : ℕ) → IsPath to
    → rename_refusal (standing tree) from to ≡ None → HasTree next tree
    → HasTree next (move_path from to tree)
unfolding move_path renamed
move-tree from to tree next is free h =
    tree-moved from to tree next h (moves-of from to tree next h is free)

same-stands : (file : ℕ) (row : TreeRow) (path : PathNames)
    → stands_test file (at_path path row) ≡ stands_test file row
unfolding has_file is_closed_row is_unclosed_row
same-stands file row path = refl

same-closed : (file : ℕ) (row : TreeRow) (path : PathNames)
    → closed_test file (at_path path row) ≡ closed_test file row
unfolding has_file is_closed_row is_unclosed_row
same-closed file row path = refl

pub move-onward : (from to : PathNames) (tree : List TreeRow) (next : ℕ) → IsPath to
    → rename_refusal (standing tree) from to ≡ None → HasTree next tree → (file : ℕ)
    → Onward tree (move_path from to tree) file
unfolding move_path renamed
move-onward from to tree next is free h file =
    let moves = moves-of from to tree next h is free in
    onward-any tree (place_all (row_cmp row_path) (landed from to tree next h moves)
    (kept_rows from to tree next h moves)) file
    (λ any. split-any from to tree next h moves (stands_test file) (same-stands file) ∙ any)
    (λ any. split-any from to tree next h moves (closed_test file) (same-closed file) ∙ any)

pub move-back : (from to : PathNames) (tree : List TreeRow) (next : ℕ) → IsPath to
    → rename_refusal (standing tree) from to ≡ None → HasTree next tree → (file : ℕ)
    → IsTrue (file_stands file (move_path from to tree)) → IsTrue (file_stands file tree)
unfolding move_path renamed
move-back from to tree next is free h file =
    let moves = moves-of from to tree next h is free in
    back-any tree (place_all (row_cmp row_path) (landed from to tree next h moves)
    (kept_rows from to tree next h moves)) file
    (λ any. sym (split-any from to tree next h moves (stands_test file) (same-stands file)) ∙ any)
