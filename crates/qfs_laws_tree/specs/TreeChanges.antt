-- The name tree: every change but the move keeps it, and what stands in it. Cited by the laws of
-- the metaserver, and for names.
use Rattle.qfs_base.specs.NameTree.{PathNames, add_refusal, added, is_below, is_filled, kind_at}
use Rattle.qfs_base.specs.NameTree.{look_refusal, path_eq, rmdir_refusal, row_cmp, taken}
use Rattle.qfs_base.specs.Table.{Each, change_row, change_where, place}
use Rattle.qfs_base.specs.declared.image.TreeRow.{TreeRow}
use Rattle.qfs_model_meta.specs.TreeRows.{add_row, close_file, close_row, closed_file, file_stands}
use Rattle.qfs_model_meta.specs.TreeRows.{has_file, is_closed, is_closed_row, is_unclosed}
use Rattle.qfs_model_meta.specs.TreeRows.{is_unclosed_row, kind_of, row_path, standing, take_file}
use Rattle.qfs_model_meta.specs.TreeRows.{take_path}
use Rattle.std.proofs.Common.{Bool, List, None, Some, [], ap, arith, false, filter, length}
use Rattle.std.proofs.Common.{length-take, nat_eq, nat_lt, not, refl, subst, suc, sym, take, true}
use Rattle.std.proofs.Common.{zero, ℕ, ◌&&◌, ◌+◌, ◌<◌, ◌==◌, ◌||◌, ◌∙◌, ◌∷◌, ◌≡◌, ◌≤◌}
use Rattle.std.proofs.lemmas.Bool.{and_from, and_parts, eqb-true, lt-ltb, ltb-true, or_parts}
use Rattle.std.proofs.lemmas.Bool.{or_right, true≢false}
use Rattle.std.proofs.lemmas.Bool.Decides.{nat_tests}
use Rattle.std.specs.List.{list_any}
use Rattle.std.specs.Prelude.{IsTrue, is_some}
use Rattle.qfs_base.specs.declared.lists.NameKind.TheVariants as Is
use Rattle.qfs_laws_slots.specs.RowKeys.{has_file-is, own-file}
use Rattle.qfs_laws_tables.specs.Distinct.{one_if}
use Rattle.qfs_base.specs.EachLaws.{each_filter, each_weaker}
use Rattle.qfs_laws_tables.specs.EachRow.{each_of_all, each_both, each_change, each_place}
use Rattle.qfs_laws_tables.specs.InOrder.{change_rises, filter_rises, place_rises}
use Rattle.qfs_laws_tables.specs.Placed.{Apart, any-placed, total-placed_apart}
use Rattle.qfs_laws_tables.specs.SomeRow.{any_change, any_each, any_filter, some-any}
use Rattle.qfs_laws_tables.specs.Sums.{total, total-filter-le, weigh_if}
use Rattle.qfs_laws_tree.specs.Tree.{HasDirectory, HasTree, Lies, RowIs, directory-kind, file_count}
use Rattle.qfs_laws_tree.specs.Tree.{file_weight, is_directory_at, parents-lie}
use Rattle.qfs_laws_tree.specs.TreeFacts.{add-free, is-within, look-closed, none-at, path-is}
use Rattle.qfs_laws_tree.specs.TreeFacts.{path-self, rmdir-empty, row-ties, tree_total}

-- ---- what stands, as tests

abbrev pub stands_test : ℕ → TreeRow → Bool
stands_test file row = (is_closed_row row || is_unclosed_row row) && has_file file row

abbrev pub closed_test : ℕ → TreeRow → Bool
closed_test file row = is_closed_row row && has_file file row

pub stands-any : (file : ℕ) (tree : List TreeRow)
    → file_stands file tree ≡ list_any (stands_test file) tree
unfolding file_stands
stands-any file tree = refl

pub closed-any : (file : ℕ) (tree : List TreeRow)
    → is_some (closed_file file tree) ≡ list_any (closed_test file) tree
unfolding closed_file
closed-any file tree = some-any (closed_test file) tree

-- a file that stands has a number
some-file : (file : ℕ) (closed : Bool)
    → (is_closed (kind_of file closed) || is_unclosed (kind_of file closed)) ≡ true → 0 < file
unfolding kind_of is_closed is_unclosed
some-file zero closed is = absurd (cc)
some-file (suc n) closed is = omega arith

pub stands-some : (file : ℕ) (row : TreeRow) → stands_test file row ≡ true
    → (row.file ≡ file) × (0 < row.file)
unfolding is_closed_row is_unclosed_row
stands-some file row is =
    let p = and_parts (is_closed_row row || is_unclosed_row row) (has_file file row) is in
    (own-file file row p.1, one row.file row.closed p.0)
  where
    one : (file : ℕ) (closed : Bool)
        → (is_closed (kind_of file closed) || is_unclosed (kind_of file closed)) ≡ true → 0 < file
    one file closed is = some-file file closed is

pub stands-below : (next file : ℕ) (tree : List TreeRow) → HasTree next tree
    → IsTrue (file_stands file tree) → (file < next) × (0 < file)
stands-below next file tree h stands =
    any_each ((file < next) × (0 < file)) (RowIs next) (stands_test file)
    (λ row r is. let s = stands-some file row is in
    (subst (λ k. k < next) s.0 (r.number s.1), subst (λ k. 0 < k) s.0 s.1)) tree h.rows
    (subst IsTrue (stands-any file tree) stands)

-- ---- a row is added

weightless : (next file : ℕ) (row : TreeRow) → next ≤ file → RowIs next row → (b : Bool)
    → nat_lt 0 row.file ≡ b → (c : Bool) → nat_eq row.file file ≡ c → weigh_if b (one_if c) ≡ 0
weightless next file row low r false is c at = refl
weightless next file row low r true is false at = refl
weightless next file row low r true is true at =
    absurd (let l = r.number (ltb-true 0 row.file is) in let e : row.file ≡ file = eqb-true row.file
    file at in omega arith)

older : (next file : ℕ) → next ≤ file → (rows : List TreeRow) → Each (RowIs next) rows
    → file_count file rows ≡ 0
older next file low [] each = refl
older next file low (row ∷ rows) each =
    let rest = older next file low rows each.1 in
    let here : file_weight file row ≡ 0 = weightless next file row low each.0 (nat_lt 0 row.file)
    refl (nat_eq row.file file) refl in
    omega arith

pub tree-added : (next more : ℕ) (new : TreeRow) (tree : List TreeRow)
    → add_refusal (standing tree) new.path ≡ None → RowIs more new → next ≤ more
    → ((0 < new.file) → next ≤ new.file) → HasTree next tree → HasTree more (add_row new tree)
unfolding add_row added
tree-added next more new tree free is above later h =
    let f = add-free (standing tree) new.path free in
    let none = none-at tree new.path f.1 in
    let apart : Apart (row_cmp row_path) new tree = each_weaker _ _
    (λ row off tie. true≢false (sym (path-self new.path) ∙ ap (λ p. path_eq p new.path)
    (row-ties new row tie) ∙ off)) tree none.1 in
    let still : (parent : PathNames) → HasDirectory tree parent → HasDirectory
    (place (row_cmp row_path) new tree) parent = λ parent has. any-placed (row_cmp row_path)
    (is_directory_at parent) new tree apart ∙ or_right (is_directory_at parent new) _ has in
    record {
      in_order = place_rises tree_total new tree h.in_order;
      rows = each_place (RowIs more) (row_cmp row_path) new tree is
          (each_weaker (RowIs next) (RowIs more)
          (λ row r. record {
            path = r.path;
            no_root = r.no_root;
            plain = r.plain;
            number = λ some.
                less _ _ _ (r.number some) above;
            len = r.len;
            maker = r.maker;
          }) tree h.rows);
      parents =
          each_place (λ (row : TreeRow). Lies (place (row_cmp row_path) new tree) row.path)
          (row_cmp row_path) new tree
          (λ n low high. still (take n new.path) (parents-lie tree new.path f.0 n low high))
          (each_weaker (λ (row : TreeRow). Lies tree row.path)
          (λ (row : TreeRow). Lies (place (row_cmp row_path) new tree) row.path)
          (λ row lies n low high. still (take n row.path) (lies n low high)) tree h.parents);
      once =
          λ file. let e = total-placed_apart (row_cmp row_path) (file_weight file) new tree apart in
          let o = h.once file in
          one (nat_lt 0 new.file) refl file (nat_eq new.file file) refl o e;
    }
  where
    less : (a b c : ℕ) → a < b → b ≤ c → a < c
    less a b c p q = omega arith

    one : (b : Bool) → nat_lt 0 new.file ≡ b → (file : ℕ) (c : Bool) → nat_eq new.file file ≡ c
        → file_count file tree ≤ 1
        → total (file_weight file) (place (row_cmp row_path) new tree) ≡ weigh_if
        (nat_lt 0 new.file) (one_if (nat_eq new.file file)) + file_count file tree
        → total (file_weight file) (place (row_cmp row_path) new tree) ≤ 1
    one false is file c at o e =
        let z : weigh_if (nat_lt 0 new.file) (one_if (nat_eq new.file file)) ≡ 0 =
        (λ i. weigh_if (is i) (one_if (nat_eq new.file file))) in omega arith
    one true is file false at o e =
        let z : weigh_if (nat_lt 0 new.file) (one_if (nat_eq new.file file)) ≡ 0 =
        (λ i. weigh_if (is i) (one_if (at i))) in omega arith
    one true is file true at o e =
        let same : new.file ≡ file = eqb-true new.file file at in
        let z : weigh_if (nat_lt 0 new.file) (one_if (nat_eq new.file file)) ≡ 1 =
        (λ i. weigh_if (is i) (one_if (at i))) in
        let low = later (ltb-true 0 new.file is) in
        let none = older next file (omega arith) tree h.rows in
        omega arith

-- what stands after a row was added
pub any-added : (test : TreeRow → Bool) (new : TreeRow) (tree : List TreeRow)
    → add_refusal (standing tree) new.path ≡ None
    → list_any test (add_row new tree) ≡ (test new || list_any test tree)
unfolding add_row added
any-added test new tree free =
    let f = add-free (standing tree) new.path free in
    let none = none-at tree new.path f.1 in
    any-placed (row_cmp row_path) test new tree
    (each_weaker _ _ (λ row off tie. true≢false
    (sym (path-self new.path) ∙ ap (λ p. path_eq p new.path) (row-ties new row tie) ∙ off)) tree
    none.1)

-- ---- rows are taken

pub tree-filtered : (next : ℕ) (P : TreeRow → Type 0) (keep : TreeRow → Bool) (tree : List TreeRow)
    → Each P tree
    → ((row : TreeRow) (n : ℕ) → P row → 1 ≤ n → n < length row.path → HasDirectory tree
    (take n row.path) → HasDirectory (filter keep tree) (take n row.path))
    → HasTree next tree → HasTree next (filter keep tree)
tree-filtered next P keep tree each still h = record {
  in_order = filter_rises (row_cmp row_path) keep tree h.in_order;
  rows = each_filter (RowIs next) keep tree h.rows;
  parents =
      each_weaker (λ (row : TreeRow). P row × Lies tree row.path)
      (λ (row : TreeRow). Lies (filter keep tree) row.path)
      (λ row b n low high. still row n b.0 low high (b.1 n low high)) (filter keep tree)
      (each_both P (λ (row : TreeRow). Lies tree row.path) (filter keep tree)
      (each_filter P keep tree each) (each_filter (λ (row : TreeRow). Lies tree row.path) keep
      tree h.parents));
  once = λ file. let o = h.once file in let f = total-filter-le (file_weight file) keep tree in
      omega arith;
}

-- a file's rows are taken: directories stay
pub tree-without_file : (next file : ℕ) (tree : List TreeRow) → 0 < file → HasTree next tree
    → HasTree next (take_file file tree)
unfolding take_file
tree-without_file next file tree some h =
    tree-filtered next (λ _. Unit {0}) (λ (row : TreeRow). not (has_file file row)) tree
    (each_of_all _ (λ _. tt) tree)
    (λ row n _ low high has. any_filter (is_directory_at (take n row.path))
    (λ (row : TreeRow). not (has_file file row))
    (λ d is. let z : d.file ≡ 0 = eqb-true d.file 0 (and_parts _ _ is).1 in differs d z) tree has) h
  where
    apart : (n : ℕ) → n ≡ 0 → not (n == file) ≡ true
    apart n z = grind (arith, nat_tests)

    differs : (d : TreeRow) → d.file ≡ 0 → not (has_file file d) ≡ true
    differs d z = ap not (has_file-is file d) ∙ apart d.file z

-- what is at a path is taken, where no directory above a row is there
taken-path : (next : ℕ) (path : PathNames) (P : TreeRow → Type 0) (tree : List TreeRow)
    → Each P tree
    → ((row : TreeRow) (n : ℕ) → P row → n < length row.path → 1 ≤ n → HasDirectory tree
    (take n row.path) → take n row.path ≡ path → ⊥)
    → HasTree next tree → HasTree next (take_path path tree)
unfolding take_path taken
taken-path next path P tree each none h =
    tree-filtered next P (λ (row : TreeRow). not (path_eq row.path path)) tree each
    (λ row n p low high has. any_filter (is_directory_at (take n row.path))
    (λ (row : TreeRow). not (path_eq row.path path))
    (λ d is. off d.path (take n row.path) (path-is d.path (take n row.path) (and_parts _ _ is).0)
    (none row n p high low has)) tree has) h
  where
    off : (q r : PathNames) → q ≡ r → (r ≡ path → ⊥) → not (path_eq q path) ≡ true
    off q r same apart =
        (elim (path_eq q path) as (λ b. path_eq q path ≡ b → not b ≡ true)
        [ true ↦ λ is. absurd (apart (sym same ∙ path-is q path is)) | false ↦ λ _. refl ]) refl

pub tree-removed : (next : ℕ) (path : PathNames) (tree : List TreeRow)
    → look_refusal (standing tree) path ≡ None → HasTree next tree
    → HasTree next (take_path path tree)
tree-removed next path tree looks h =
    taken-path next path (λ _. Unit {0}) tree (each_of_all _ (λ _. tt) tree)
    (λ row n _ high low has same.
    let closed = look-closed (standing tree) path looks in
    let there : kind_at (standing tree) path ≡ Some Is.Directory = subst
    (λ p. kind_at (standing tree) p ≡ Some Is.Directory) same
    (directory-kind tree (take n row.path) h.in_order has) in
    let e : Some Is.Directory ≡ Some Is.Closed = sym there ∙ closed in cc) h

filled-false : (path : PathNames) (tree : List TreeRow) → is_filled (standing tree) path ≡ false
    → Each (λ (row : TreeRow). is_below path row.path ≡ false) tree
unfolding is_filled standing
filled-false [] tree e = absurd (cc)
filled-false (name ∷ names) [] e = tt
filled-false (name ∷ names) (row ∷ rows) e =
    let p = or_parts _ _ e in (p.0, filled-false (name ∷ names) rows p.1)

below-taken : (path : PathNames) (n : ℕ) → n < length path → is_below (take n path) path ≡ true
below-taken path n high =
    let l : length (take n path) ≡ n = omega (arith, length-take n path) in
    and_from _ _ (is-within (take n path) path (ap (λ k. take k path) (sym l)))
    (lt-ltb _ _ (omega arith))

pub tree-emptied : (next : ℕ) (path : PathNames) (tree : List TreeRow)
    → rmdir_refusal (standing tree) path ≡ None → HasTree next tree
    → HasTree next (take_path path tree)
tree-emptied next path tree free h =
    taken-path next path (λ (row : TreeRow). is_below path row.path ≡ false) tree
    (filled-false path tree (rmdir-empty (standing tree) path free).1)
    (λ row n off high low has same. true≢false
    (sym (below-taken row.path n high) ∙ ap (λ p. is_below p row.path) same ∙ off)) h

-- ---- a file is closed

pub tree-closed : (next file : ℕ) (tree : List TreeRow) → 0 < file → HasTree next tree
    → HasTree next (close_file file tree)
unfolding close_file close_row
tree-closed next file tree some h = record {
  in_order = change_rises (row_cmp row_path) (has_file file) close_row (λ a b. refl) (λ a b. refl)
      tree h.in_order;
  rows = each_change (RowIs next) (RowIs next) (has_file file) close_row
      (λ row is r. record {
        path = r.path;
        no_root = r.no_root;
        plain = λ z. absurd
            (let e : row.file ≡ file = own-file file row is in omega arith);
        number = r.number;
        len =
            r.len;
        maker = r.maker;
      }) (λ row _ r. r) tree h.rows;
  parents =
      each_change (λ (row : TreeRow). Lies tree row.path)
      (λ (row : TreeRow). Lies (change_where (has_file file) close_row tree) row.path)
      (has_file file) close_row
      (λ row _ lies n low high. still (take n row.path) (lies n low high))
      (λ row _ lies n low high. still (take n row.path) (lies n low high)) tree h.parents;
  once = λ other. let o = h.once other in let e = same other tree in omega arith;
}
  where
    still : (parent : PathNames) → HasDirectory tree parent
        → HasDirectory (change_where (has_file file) close_row tree) parent
    still parent has =
        any_change (is_directory_at parent) (has_file file) close_row (λ row is _. is) tree has

    same : (other : ℕ) (rows : List TreeRow)
        → file_count other (change_where (has_file file) close_row rows) ≡ file_count other rows
    same other [] = refl
    same other (row ∷ rows) =
        let rest = same other rows in
        elim (has_file file row) as (λ b. file_weight other (change_row close_row row b) +
        file_count other (change_where (has_file file) close_row rows) ≡ file_weight other row +
        file_count other rows) [ true ↦ omega arith | false ↦ omega arith ]
