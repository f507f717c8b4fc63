-- The rows of the tree as rows of an image: the laws of name trees hold of them. And how the keys
-- of the tables compare with the tests of the rules. For the calls of the tree.
use Rattle.std.proofs.Common.{Bool, List, None, [], ap, arith, cond, false, filter, length, map, nat_eq, nat_lt, refl, subst, suc, sym, take, true, true≢false, zero, ℕ, ◌+◌, ◌<◌, ◌^◌, ◌∙◌, ◌∷◌, ◌≡◌, ◌≢◌, ◌≤◌}
use Rattle.std.proofs.lemmas.Bool.{eqb-true, ltb-true, or_right}
use Rattle.std.specs.Cmp.Lexicographic.{lists_ties, slice_cmp, texts_ties}
use Rattle.std.specs.Ordering.{is_eq, nat_cmp}
use Rattle.qfs_base.specs.EachLaws.{each_weaker}
use Rattle.qfs_base.specs.NameTree.{PathNames, add_refusal, added, is_within, moved, path_cmp, path_eq, renamed, row_cmp, taken}
use Rattle.qfs_base.specs.Path.{IsPath}
use Rattle.qfs_base.specs.Table.{Each, IsRising, has_key, place, place_all, without}
use Rattle.qfs_base.specs.declared.image.TreeRow.{TreeRow}
use Rattle.qfs_model_meta.specs.TreeRows as image
use Rattle.qfs_laws_tables.specs.EachRow.{each_of_all, each_of_map, each_place}
use Rattle.qfs_laws_tables.specs.InOrder.{place_rises}
use Rattle.qfs_laws_tables.specs.Placed.{Apart, any-placed, map-changed, map-filter, map-placed, map-placed_all, total-placed_apart}
use Rattle.qfs_laws_tables.specs.Sums.{total, weigh_if}
use Rattle.qfs_laws_tables.specs.Distinct.{one_if}
use Rattle.qfs_laws_tree.specs.Tree.{HasDirectory, HasTree, Lies, RowIs, file_count, file_weight, is_directory_at, parents-lie}
use Rattle.qfs_laws_tree.specs.TreeFacts.{add-free, none-at, path-is, path-self, row-ties, tree_total}
use Rattle.qfs_names.specs.declared.row.NameRow.{NameRow}
use Rattle.qfs_names.specs.Names.{at_path, close_file, closed_row, file_at, of_file, row_kind, row_path, standing_of, take_file, within_order}
use Rattle.qfs_names.specs.Trees.{as_row, maker_of}

-- ---- keys and tests

pub path-swapped : (p q : PathNames) → path_eq p q ≡ path_eq q p
path-swapped p q =
    elim (path_eq p q) as (λ b. path_eq p q ≡ b → b ≡ path_eq q p) [
      | true ↦ λ is. sym (ap (λ r. path_eq q r) (path-is p q is) ∙ path-self q)
      | false ↦ λ off. (elim (path_eq q p) as (λ b. path_eq q p ≡ b → false ≡ b) [
        | true ↦ λ is. absurd (true≢false (sym (ap (λ r. path_eq p r) (path-is q p is) ∙ path-self p) ∙ off))
        | false ↦ λ _. refl
      ]) refl
    ] refl

pub at-is : (path other : PathNames) → is_eq (path_cmp path other) ≡ path_eq other path
at-is path other =
    sym (lists_ties (slice_cmp nat_cmp) texts_ties path other) ∙ path-swapped path other

pub within-is_eq : (top path : PathNames) → is_eq (within_order top path) ≡ is_within top path
within-is_eq top path =
    sym (lists_ties (slice_cmp nat_cmp) texts_ties top (take (length top) path))

-- ---- as rows of an image

pub as-rises : (rows : List NameRow) → IsRising (row_cmp image.row_path) (map as_row rows)
    → IsRising (row_cmp row_path) rows
as-rises [] rising = tt
as-rises (row ∷ rows) rising = (each_of_map _ as_row rows rising.0, as-rises rows rising.1)

-- equal rows of an image are equal rows
pub as-same : (a b : NameRow) → as_row a ≡ as_row b → a ≡ b
as-same a b e =
    (λ i. record { path = (e i).path; file = (e i).file; closed = (e i).closed })

-- ---- a row more

-- a directory or file that was just made is a row of a tree
pub row-is : (path : PathNames) (file : ℕ) → IsPath path → path ≢ [] → file < 2 ^ 32
    → RowIs (2 ^ 32) (as_row (file_at path file))
row-is path file is some low = record {
  path = is;
  no_root = some;
  plain = λ none. (refl, ap maker_of none, refl, refl);
  number = λ _. low;
  len = omega arith;
  maker = λ more. ((omega (arith, maker-some file more), omega (arith, maker-some file more)), omega arith);
}
  where
    maker-some : (file : ℕ) → file ≢ 0 → maker_of file ≡ 1
    maker-some zero more = absurd (more refl)
    maker-some (suc n) more = refl

-- the tree with a row whose file none has
pub tree-put : (new : TreeRow) (tree : List TreeRow)
    → add_refusal (image.standing tree) new.path ≡ None → RowIs (2 ^ 32) new
    → ((0 < new.file) → file_count new.file tree ≡ 0) → HasTree (2 ^ 32) tree
    → HasTree (2 ^ 32) (image.add_row new tree)
unfolding image.add_row added
tree-put new tree free is fresh h =
    let f = add-free (image.standing tree) new.path free in
    let none = none-at tree new.path f.1 in
    let apart : Apart (row_cmp image.row_path) new tree = each_weaker _ _
    (λ row off tie. true≢false (sym (path-self new.path) ∙ ap (λ p. path_eq p new.path)
    (row-ties new row tie) ∙ off)) tree none.1 in
    let still : (parent : PathNames) → HasDirectory tree parent → HasDirectory
    (place (row_cmp image.row_path) new tree) parent = λ parent has. any-placed
    (row_cmp image.row_path) (is_directory_at parent) new tree apart
    ∙ or_right (is_directory_at parent new) _ has in
    record {
      in_order = place_rises tree_total new tree h.in_order;
      rows = each_place (RowIs (2 ^ 32)) (row_cmp image.row_path) new tree is h.rows;
      parents =
          each_place (λ (row : TreeRow). Lies (place (row_cmp image.row_path) new tree) row.path)
          (row_cmp image.row_path) new tree
          (λ n low high. still (take n new.path) (parents-lie tree new.path f.0 n low high))
          (each_weaker (λ (row : TreeRow). Lies tree row.path)
          (λ (row : TreeRow). Lies (place (row_cmp image.row_path) new tree) row.path)
          (λ row lies n low high. still (take n row.path) (lies n low high)) tree h.parents);
      once =
          λ file. let e = total-placed_apart (row_cmp image.row_path) (file_weight file) new tree apart in
          let o = h.once file in
          one (nat_lt 0 new.file) refl file (nat_eq new.file file) refl o e;
    }
  where
    one : (b : Bool) → nat_lt 0 new.file ≡ b → (file : ℕ) (c : Bool) → nat_eq new.file file ≡ c
        → file_count file tree ≤ 1
        → total (file_weight file) (place (row_cmp image.row_path) new tree) ≡ weigh_if
        (nat_lt 0 new.file) (one_if (nat_eq new.file file)) + file_count file tree
        → total (file_weight file) (place (row_cmp image.row_path) new tree) ≤ 1
    one false is file c at o e =
        let z : weigh_if (nat_lt 0 new.file) (one_if (nat_eq new.file file)) ≡ 0 =
        (λ i. weigh_if (is i) (one_if (nat_eq new.file file))) in omega arith
    one true is file false at o e =
        let z : weigh_if (nat_lt 0 new.file) (one_if (nat_eq new.file file)) ≡ 0 =
        (λ i. weigh_if (is i) (one_if (at i))) in omega arith
    one true is file true at o e =
        let same : new.file ≡ file = eqb-true new.file file at in
        let z : weigh_if (nat_lt 0 new.file) (one_if (nat_eq new.file file)) ≡ 1 =
        (λ i. weigh_if (is i) (one_if (at i))) in
        let none : file_count file tree ≡ 0 = subst (λ f. file_count f tree ≡ 0) same
        (fresh (ltb-true 0 new.file is)) in
        omega arith

-- a number that no row has counts for none
pub none-count : (file : ℕ) (rows : List NameRow) → Each (λ (row : NameRow). row.file ≢ file) rows
    → file_count file (map as_row rows) ≡ 0
none-count file [] each = refl
none-count file (row ∷ rows) each =
    let rest = none-count file rows each.1 in
    let here : file_weight file (as_row row) ≡ 0 =
    one (nat_lt 0 row.file) (nat_eq row.file file) refl in
    omega arith
  where
    one : (b c : Bool) → nat_eq row.file file ≡ c → weigh_if b (one_if c) ≡ 0
    one false c e = refl
    one true false e = refl
    one true true e = absurd (each.0 (eqb-true row.file file e))
