-- A name tree in the order of its paths: every directory that a row lies in is there exactly where each row lies in the
-- directory of the row before it, in one above that, or in that row itself.
use Rattle.std.proofs.Common.{◌≡◌, ◌∙◌, refl, sym, ap, subst, arith, ℕ, ◌-◌, ◌<◌, ◌≤◌, Bool, true, ◌&&◌, ◌==◌, List, [], ◌∷◌, ◌++◌, Option, Some, None, length, take, drop, append_assoc, length-append, length-take, ⊎_elim}
use Rattle.std.specs.Prelude.{nat_le, nat_lt}
use Rattle.std.specs.Cmp.{both_ways}
use Rattle.std.specs.Cmp.Lexicographic.{lists_total, nat_list_cmp_total, slice_cmp}
use Rattle.std.specs.List.{list_all, list_any}
use Rattle.std.specs.Ordering.{is_lt, nat_cmp, ordering_reverse, ordering_then}
use Rattle.std.specs.declared.cmp.Ordering.{Ordering}
use Rattle.std.specs.declared.cmp.Ordering.TheVariants.{Less, Equal, Greater}
use Rattle.std.proofs.Math.Seq.{take-length}
use Rattle.std.proofs.lemmas.Bool.{and_from, and_parts, cases_lt, le-leb, leb-true, lt-ltb, ltb-true, or_cases, or_left, or_right}
use Rattle.std.proofs.lemmas.Cmp.{tied_itself}
use Rattle.std.proofs.lemmas.List.{take-append-drop, take-take, take_all}
use Rattle.std.proofs.lemmas.Map.Lookups.{exact_bytes}
use Rattle.qfs_base.specs.EachLaws.{each_append, each_weaker}
use Rattle.qfs_base.specs.NameTree.{PathNames, kind_at, parents_of, path_cmp, row_cmp}
use Rattle.qfs_base.specs.Sizes.{MOST_FILE_BYTES}
use Rattle.qfs_base.specs.Table.{Each, IsRising}
use Rattle.qfs_base.specs.declared.image.TreeRow.{TreeRow}
use Rattle.qfs_base.specs.declared.lists.NameKind.{NameKind}
use Rattle.qfs_base.specs.declared.lists.NameKind.TheVariants as Is
use Rattle.qfs_laws_tables.specs.EachRow.{all-each, each_both}
use Rattle.qfs_laws_tables.specs.SomeRow.{any_each, any_of_append}
use Rattle.qfs_laws_tree.specs.Tree.{HasDirectory, Lies, is_directory_at, lie-parents, parents-lie}
use Rattle.qfs_laws_tree.specs.TreeFacts.{is-within, path-is, path-self, tree_total, within-is}
use Rattle.qfs_model_disks.specs.Tests.{are_rising, has_maker, has_parents, is_directory, is_row}
use Rattle.qfs_model_meta.specs.TreeRows.{row_path, standing}
use Rattle.qfs_image.specs.Rules.{bears_tree, bears_tree_row, begins_at_top, directory_of, follow, follow_from, is_near, tree_before}
use Rattle.qfs_image.proofs.OrderLaws.{follow_both, follow_rising, follow_weaker, rising_each, rising_follow}
use Rattle.qfs_image.proofs.TestLaws.{all_of_each, all_weaker}

-- ---- paths in their order (these belong to qfs_laws_tree)

names_cmp : List ℕ → List ℕ → Ordering
names_cmp = slice_cmp nat_cmp

-- a path comes before those below it
longer : (p r : PathNames) → 0 < length r → path_cmp p (p ++ r) ≡ Less
longer [] [] some = absurd (omega arith)
longer [] (name ∷ names) some = refl
longer (name ∷ names) r some =
    ap (λ o. ordering_then o (path_cmp names (names ++ r))) (tied_itself nat_list_cmp_total name) ∙ longer names r some

-- what stands between a path and one below it is below it too
between : (p x r : PathNames) → path_cmp p x ≡ Less → path_cmp x (p ++ r) ≡ Less → p ≡ take (length p) x
between [] x r low high = refl
between (a ∷ p) [] r low high = absurd cc
between (a ∷ p) (b ∷ x) r low high =
    (elim (slice_cmp nat_cmp a b) as (λ o. slice_cmp nat_cmp a b ≡ o → ordering_then o (path_cmp p x) ≡ Less → (a ∷ p) ≡ b ∷ take (length p) x) [
      | Less ↦ λ is low.
          let turned : slice_cmp nat_cmp b a ≡ Greater = nat_list_cmp_total.antisymm b a ∙ ap ordering_reverse is in
          let above = sym (ap (λ o. ordering_then o (path_cmp x (p ++ r))) turned) ∙ high in
          absurd cc
      | Equal ↦ λ is low.
          let same : a ≡ b = exact_bytes a b is in
          let turned : slice_cmp nat_cmp b a ≡ Equal = nat_list_cmp_total.antisymm b a ∙ ap ordering_reverse is in
          let below = sym (ap (λ o. ordering_then o (path_cmp x (p ++ r))) turned) ∙ high in
          ap (λ (n : List ℕ). n ∷ p) same ∙ ap (λ (q : PathNames). b ∷ q) (between p x r low below)
      | Greater ↦ λ is low. absurd cc
    ]) refl low

-- a path that begins with another and comes behind it is longer
is_longer : (p x : PathNames) → p ≡ take (length p) x → path_cmp p x ≡ Less → length p < length x
is_longer p x within less =
    ⊎_elim (λ (more : length p < length x). more)
    (λ (few : length x ≤ length p).
    let whole : p ≡ x = within ∙ take_all (length p) x few in
    let tied = sym (ap (path_cmp p) whole) ∙ tied_itself (lists_total nat_list_cmp_total) p in
    absurd cc)
    (cases_lt (length p) (length x))

-- ---- a row near the one before it lies in directories that are there

-- what a row passes, some row of a tree passes
abbrev IsRowOf : List TreeRow → TreeRow → Type 0
IsRowOf tree row = (test : TreeRow → Bool) → test row ≡ true → list_any test tree ≡ true

each_is_row : (tree rows : List TreeRow) → ((test : TreeRow → Bool) → list_any test rows ≡ true → list_any test tree ≡ true) → Each (IsRowOf tree) rows
each_is_row tree [] all = tt
each_is_row tree (row ∷ rows) all = (
  (λ test is. all test (or_left (test row) (list_any test rows) is)),
  each_is_row tree rows (λ test any. all test (or_right (test row) (list_any test rows) any)),
)

near_lies : (tree : List TreeRow) (last row : TreeRow) → IsRowOf tree last → Lies tree last.path → is_near last row ≡ true → Lies tree row.path
unfolding is_near
near_lies tree last row is_row lies near n low high =
    let p = and_parts _ _ near in
    let l = length row.path - 1 in
    let long : length (directory_of row.path) ≡ l = omega (arith, length-take l row.path) in
    let same : directory_of row.path ≡ take l last.path = within-is (directory_of row.path) last.path p.0 ∙ ap (λ k. take k last.path) long in
    let within : l ≤ length last.path = omega (arith, long, ap length same, length-take l last.path) in
    let front : take n row.path ≡ take n last.path =
    sym (take-take n l row.path (omega arith)) ∙ ap (take n) same ∙ take-take n l last.path (omega arith) in
    subst (HasDirectory tree) (sym front)
    (⊎_elim (λ (inside : n < length last.path). lies n low inside)
    (λ (past : length last.path ≤ n).
    let file : (last.file == 0) ≡ true =
    ⊎_elim (λ (more : nat_lt l (length last.path) ≡ true). absurd (omega (arith, ltb-true l (length last.path) more)))
    (λ (is : (last.file == 0) ≡ true). is) (or_cases _ _ p.1) in
    let whole : take n last.path ≡ last.path = take_all n last.path past in
    subst (HasDirectory tree) (sym whole) (is_row (is_directory_at last.path) (and_from _ _ (path-self last.path) file)))
    (cases_lt n (length last.path)))

near_lie_from : (tree : List TreeRow) (last : TreeRow) (rows : List TreeRow) → IsRowOf tree last → Lies tree last.path → Each (IsRowOf tree) rows
    → follow_from is_near last rows ≡ true → Each (λ (row : TreeRow). Lies tree row.path) rows
unfolding follow_from
near_lie_from tree last [] is_row lies are near = tt
near_lie_from tree last (row ∷ rows) is_row lies are near =
    let p = and_parts _ _ near in
    let here = near_lies tree last row is_row lies p.0 in
    (here, near_lie_from tree row rows are.0 here are.1 p.1)

near_lie_all : (tree rows : List TreeRow) → Each (IsRowOf tree) rows → begins_at_top rows ≡ true → follow is_near rows ≡ true
    → Each (λ (row : TreeRow). Lies tree row.path) rows
unfolding begins_at_top follow
near_lie_all tree [] are top near = tt
near_lie_all tree (row ∷ rows) are top near =
    let short : length row.path ≤ 1 = leb-true (length row.path) 1 top in
    let here : Lies tree row.path = (λ n low high. absurd (omega (arith, short))) in
    (here, near_lie_from tree row rows are.0 here are.1 near)

pub near_lie : (tree : List TreeRow) → begins_at_top tree ≡ true → follow is_near tree ≡ true → Each (λ (row : TreeRow). Lies tree row.path) tree
near_lie tree top near = near_lie_all tree tree (each_is_row tree tree (λ test any. any)) top near

-- ---- where all directories are there, each row is near the one before it

-- the rows up to one, those that come behind it, and a directory among them
in_front : (last row : TreeRow) (r : PathNames) (q : TreeRow) → row.path ≡ directory_of row.path ++ r → path_cmp last.path row.path ≡ Less → row_cmp row_path q last ≡ Less
    → is_directory_at (directory_of row.path) q ≡ true → length row.path - 1 ≡ length (directory_of row.path) → is_near last row ≡ true
unfolding is_near
in_front last row r q split above less is long =
    let p = directory_of row.path in
    let at : q.path ≡ p = path-is q.path p (and_parts _ _ is).0 in
    let low : path_cmp p last.path ≡ Less = sym (ap (λ (x : PathNames). path_cmp x last.path) at) ∙ less in
    let high : path_cmp last.path (p ++ r) ≡ Less = sym (ap (path_cmp last.path) split) ∙ above in
    let within = between p last.path r low high in
    let more = is_longer p last.path within low in
    and_from _ _ (is-within p last.path within) (or_left _ _ (lt-ltb (length row.path - 1) (length last.path) (omega arith)))

at_last : (last row : TreeRow) → is_directory_at (directory_of row.path) last ≡ true → is_near last row ≡ true
unfolding is_near
at_last last row is =
    let p = and_parts _ _ is in
    let at : last.path ≡ directory_of row.path = path-is last.path (directory_of row.path) p.0 in
    let within : directory_of row.path ≡ take (length (directory_of row.path)) last.path =
    sym (take-length (directory_of row.path)) ∙ ap (take (length (directory_of row.path))) (sym at) in
    and_from _ _ (is-within (directory_of row.path) last.path within) (or_right _ _ p.1)

is_behind : (row : TreeRow) (r : PathNames) (q : TreeRow) → row.path ≡ directory_of row.path ++ r → 0 < length r → is_directory_at (directory_of row.path) q ≡ true
    → path_cmp row.path q.path ≡ Less → ⊥
is_behind row r q split some is above =
    let p = directory_of row.path in
    let at : q.path ≡ p = path-is q.path p (and_parts _ _ is).0 in
    let high : path_cmp (p ++ r) p ≡ Less = sym (ap (λ (x : PathNames). path_cmp x p) split) ∙ sym (ap (path_cmp row.path) at) ∙ above in
    let turned : path_cmp (p ++ r) p ≡ Greater = (lists_total nat_list_cmp_total).antisymm (p ++ r) p ∙ ap ordering_reverse (longer p r some) in
    let both = sym turned ∙ high in
    absurd cc

is_itself : (row : TreeRow) → 1 ≤ length row.path → is_directory_at (directory_of row.path) row ≡ true → ⊥
is_itself row some is =
    let at : row.path ≡ directory_of row.path = path-is row.path (directory_of row.path) (and_parts _ _ is).0 in
    absurd (omega (arith, ap length at, length-take (length row.path - 1) row.path))

near_here : (tree done : List TreeRow) (last row : TreeRow) (rows : List TreeRow) → tree ≡ done ++ last ∷ row ∷ rows
    → Each (λ q. row_cmp row_path q last ≡ Less) done → row_cmp row_path last row ≡ Less → Each (λ later. row_cmp row_path row later ≡ Less) rows
    → 0 < length last.path → 0 < length row.path → Lies tree row.path → is_near last row ≡ true
unfolding is_near
near_here tree done last row rows whole before above behind first some lies =
    ⊎_elim (λ (deep : 1 < length row.path). below deep) (λ (top : length row.path ≤ 1). at_top top) (cases_lt 1 (length row.path))
  where
    at_top : length row.path ≤ 1 → is_near last row ≡ true
    at_top top =
        let none : length row.path - 1 ≡ 0 = omega arith in
        rw none (or_left _ _ (lt-ltb 0 (length last.path) first))

    below : 1 < length row.path → is_near last row ≡ true
    below deep =
        let split : row.path ≡ directory_of row.path ++ drop (length row.path - 1) row.path = sym (take-append-drop (length row.path - 1) row.path) in
        let long : length row.path - 1 ≡ length (directory_of row.path) = omega (arith, length-take (length row.path - 1) row.path) in
        let more : 0 < length (drop (length row.path - 1) row.path) = omega (arith, ap length split, length-append (directory_of row.path) (drop (length row.path - 1) row.path), long) in
        let has : list_any (is_directory_at (directory_of row.path)) (done ++ last ∷ row ∷ rows) ≡ true =
        subst (λ (all : List TreeRow). list_any (is_directory_at (directory_of row.path)) all ≡ true) whole (lies (length row.path - 1) (omega arith) (omega arith)) in
        let split_any = or_cases _ _ (sym (any_of_append (is_directory_at (directory_of row.path)) done (last ∷ row ∷ rows)) ∙ has) in
        ⊎_elim (λ any. any_each (is_near last row ≡ true) (λ q. row_cmp row_path q last ≡ Less) (is_directory_at (directory_of row.path))
        (λ q less is. in_front last row (drop (length row.path - 1) row.path) q split above less is long) done before any)
        (λ any. ⊎_elim (λ is. at_last last row is)
        (λ later. ⊎_elim (λ is. absurd (is_itself row some is))
        (λ any. any_each (is_near last row ≡ true) (λ q. row_cmp row_path row q ≡ Less) (is_directory_at (directory_of row.path))
        (λ q less is. absurd (is_behind row (drop (length row.path - 1) row.path) q split more is less)) rows behind any)
        (or_cases _ _ later))
        (or_cases _ _ any))
        split_any

lies_near_from : (tree done : List TreeRow) (last : TreeRow) (rows : List TreeRow) → tree ≡ done ++ last ∷ rows
    → Each (λ q. row_cmp row_path q last ≡ Less) done → IsRising (row_cmp row_path) (last ∷ rows)
    → Each (λ (row : TreeRow). 0 < length row.path) (last ∷ rows) → Each (λ (row : TreeRow). Lies tree row.path) rows
    → follow_from is_near last rows ≡ true
unfolding follow_from
lies_near_from tree done last [] whole before rising some lie = refl
lies_near_from tree done last (row ∷ rows) whole before rising some lie =
    let above = rising.0.0 in
    let near = near_here tree done last row rows whole before above rising.1.0 some.0 some.1.0 lie.0 in
    let front : Each (λ q. row_cmp row_path q row ≡ Less) (done ++ last ∷ []) =
    each_append _ done (last ∷ [])
    (each_weaker _ (λ q. row_cmp row_path q row ≡ Less) (λ q less. tree_total.trans q last row less above) done before) (above, tt) in
    and_from _ _ near
    (lies_near_from tree (done ++ last ∷ []) row rows (whole ∙ sym (append_assoc done (last ∷ []) (row ∷ rows))) front rising.1 some.1 lie.1)

lies_near : (tree : List TreeRow) → IsRising (row_cmp row_path) tree → Each (λ (row : TreeRow). 0 < length row.path) tree
    → Each (λ (row : TreeRow). Lies tree row.path) tree → follow is_near tree ≡ true
unfolding follow
lies_near [] rising some lie = refl
lies_near (row ∷ rows) rising some lie = lies_near_from (row ∷ rows) [] row rows refl tt rising some lie.1

lies_at_top : (tree : List TreeRow) → IsRising (row_cmp row_path) tree → Each (λ (row : TreeRow). 0 < length row.path) tree
    → Each (λ (row : TreeRow). Lies tree row.path) tree → begins_at_top tree ≡ true
unfolding begins_at_top
lies_at_top [] rising some lie = refl
lies_at_top (row ∷ rows) rising some lie =
    ⊎_elim (λ (deep : 1 < length row.path). absurd (none deep)) (λ (top : length row.path ≤ 1). le-leb (length row.path) 1 top) (cases_lt 1 (length row.path))
  where
    none : 1 < length row.path → ⊥
    none deep =
        let split : row.path ≡ directory_of row.path ++ drop (length row.path - 1) row.path = sym (take-append-drop (length row.path - 1) row.path) in
        let long : length (directory_of row.path) ≡ length row.path - 1 = omega (arith, length-take (length row.path - 1) row.path) in
        let more : 0 < length (drop (length row.path - 1) row.path) = omega (arith, ap length split, length-append (directory_of row.path) (drop (length row.path - 1) row.path), long) in
        ⊎_elim (λ is. is_itself row (omega arith) is)
        (λ any. any_each ⊥ (λ q. row_cmp row_path row q ≡ Less) (is_directory_at (directory_of row.path))
        (λ q less is. is_behind row (drop (length row.path - 1) row.path) q split more is less) rows rising.0 any)
        (or_cases _ _ (lie.0 (length row.path - 1) (omega arith) (omega arith)))

-- ---- the tests of the tree

pub directory_is : (kind : Option NameKind) → is_directory kind ≡ true → kind ≡ Some Is.Directory
unfolding is_directory
directory_is None is = absurd cc
directory_is (Some Is.Directory) is = refl
directory_is (Some Is.Unclosed) is = absurd cc
directory_is (Some Is.Closed) is = absurd cc

directory_passes : (kind : Option NameKind) → kind ≡ Some Is.Directory → is_directory kind ≡ true
unfolding is_directory
directory_passes kind is = rw is refl

row_lies : (next : ℕ) (tree : List TreeRow) (row : TreeRow) → is_row next (standing tree) row ≡ true → Lies tree row.path
unfolding is_row has_parents
row_lies next tree row is =
    let parents = (and_parts _ _ (and_parts _ _ (and_parts _ _ is).0).0).1 in
    parents-lie tree row.path
    (each_weaker _ (λ parent. kind_at (standing tree) parent ≡ Some Is.Directory) (λ parent at. directory_is (kind_at (standing tree) parent) at)
    (parents_of row.path) (all-each _ (parents_of row.path) parents))

row_bears : (next : ℕ) (tree : List TreeRow) (row : TreeRow) → is_row next (standing tree) row ≡ true → bears_tree_row next row ≡ true
unfolding is_row bears_tree_row
row_bears next tree row is =
    let some = nat_lt 0 (length row.path) in
    let parents = has_parents (standing tree) row in
    let short = nat_le row.len MOST_FILE_BYTES in
    let below = nat_lt row.file next in
    let made = has_maker (row.file == 0) row in
    let p = and_parts ((some && parents) && short) (below && made) is in
    let q = and_parts (some && parents) short p.0 in
    let f = and_parts below made p.1 in
    and_from ((some && short) && below) made
    (and_from (some && short) below (and_from some short (and_parts some parents q.0).0 q.1) f.0) f.1

row_is : (next : ℕ) (tree : List TreeRow) (row : TreeRow) → IsRising (row_cmp row_path) tree → (bears_tree_row next row ≡ true) × Lies tree row.path
    → is_row next (standing tree) row ≡ true
unfolding is_row has_parents bears_tree_row
row_is next tree row rising both =
    let some = nat_lt 0 (length row.path) in
    let parents = has_parents (standing tree) row in
    let short = nat_le row.len MOST_FILE_BYTES in
    let below = nat_lt row.file next in
    let made = has_maker (row.file == 0) row in
    let p = and_parts ((some && short) && below) made both.0 in
    let q = and_parts (some && short) below p.0 in
    let f = and_parts some short q.0 in
    let there : has_parents (standing tree) row ≡ true = all_of_each _ (λ parent. is_directory (kind_at (standing tree) parent))
    (λ parent at. directory_passes (kind_at (standing tree) parent) at) (parents_of row.path) (lie-parents tree row.path rising both.1) in
    and_from ((some && parents) && short) (below && made) (and_from (some && parents) short (and_from some parents f.0 there) f.1) (and_from below made q.1 p.1)

has_some : (next : ℕ) (tree : List TreeRow) (row : TreeRow) → is_row next (standing tree) row ≡ true → 0 < length row.path
unfolding is_row
has_some next tree row is = ltb-true 0 (length row.path) (and_parts _ _ (and_parts _ _ (and_parts _ _ is).0).0).0

tree_bears : (next : ℕ) (tree : List TreeRow) → (are_rising (row_cmp row_path) tree && list_all (is_row next (standing tree)) tree) ≡ true → bears_tree next tree ≡ true
unfolding bears_tree
tree_bears next tree is =
    let p = and_parts _ _ is in
    let rising = rising_each (row_cmp row_path) tree p.0 in
    let each = all-each (is_row next (standing tree)) tree p.1 in
    let lie = each_weaker _ (λ (row : TreeRow). Lies tree row.path) (λ row at. row_lies next tree row at) tree each in
    let some = each_weaker _ (λ (row : TreeRow). 0 < length row.path) (λ row at. has_some next tree row at) tree each in
    let order = rising_follow (row_cmp row_path) tree_total tree p.0 in
    let follows = follow_both (λ a b. is_lt (row_cmp row_path a b)) is_near tree order (lies_near tree rising some lie) in
    and_from _ _ (and_from _ _ (lies_at_top tree rising some lie) follows)
    (all_weaker _ (bears_tree_row next) (λ row at. row_bears next tree row at) tree p.1)

bears_is : (next : ℕ) (tree : List TreeRow) → bears_tree next tree ≡ true → (are_rising (row_cmp row_path) tree && list_all (is_row next (standing tree)) tree) ≡ true
unfolding bears_tree
bears_is next tree bears =
    let p = and_parts _ _ bears in
    let q = and_parts _ _ p.0 in
    let order = follow_weaker tree_before (λ a b. is_lt (row_cmp row_path a b)) (λ a b both. (and_parts _ _ both).0) tree q.1 in
    let near = follow_weaker tree_before is_near (λ a b both. (and_parts _ _ both).1) tree q.1 in
    let rises = follow_rising (row_cmp row_path) tree_total tree order in
    let rising = rising_each (row_cmp row_path) tree rises in
    let each = each_both _ _ tree (all-each (bears_tree_row next) tree p.1) (near_lie tree q.0 near) in
    and_from _ _ rises (all_of_each _ (is_row next (standing tree)) (λ row both. row_is next tree row rising both) tree each)

-- the tests of neighbours are those of the whole tree
pub tree_is : (next : ℕ) (tree : List TreeRow) → (are_rising (row_cmp row_path) tree && list_all (is_row next (standing tree)) tree) ≡ bears_tree next tree
tree_is next tree = both_ways _ _ (tree_bears next tree) (bears_is next tree)
