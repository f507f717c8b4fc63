-- The name tree: what its rows are, in a form that each change keeps. Cited by the laws of the
-- metaserver, and for names.
use Rattle.qfs_base.specs.NameTree.{PathNames, kind_at, parents_of, path_eq, row_cmp, stands_at}
use Rattle.qfs_base.specs.Path.{IsPath}
use Rattle.qfs_base.specs.Sizes.{MOST_FILE_BYTES}
use Rattle.qfs_base.specs.Table.{Each, IsRising}
use Rattle.qfs_base.specs.declared.image.TreeRow.{TreeRow}
use Rattle.qfs_model_meta.specs.Grammar.{HasMaker, HasParents, IsPlain, IsTree, files_in}
use Rattle.qfs_model_meta.specs.TreeRows.{kind_of, row_path, standing}
use Rattle.std.proofs.Common.{Bool, List, Some, [], ap, arith, cond, false, filter, find, length}
use Rattle.std.proofs.Common.{length-take, map, nat_eq, nat_lt, refl, suc, sym, take, true, zero, ℕ}
use Rattle.std.proofs.Common.{◌&&◌, ◌-◌, ◌<◌, ◌==◌, ◌||◌, ◌∙◌, ◌∷◌, ◌≡◌, ◌≢◌, ◌≤◌}
use Rattle.std.proofs.lemmas.Bool.{and_from, and_parts, eq-eqb, eqb-true, lt-ltb, ltb-true}
use Rattle.std.specs.List.{list_any, range_with_len}
use Rattle.std.specs.Option.{option_map}
use Rattle.std.specs.Prelude.{IsTrue}
use Rattle.std.specs.declared.cmp.Ordering.TheVariants.{Less}
use Rattle.qfs_base.specs.declared.lists.NameKind.TheVariants as Is
use Rattle.qfs_laws_tables.specs.Distinct.{copies, distinct-once, once-distinct, one_if}
use Rattle.qfs_base.specs.EachLaws.{each_weaker}
use Rattle.qfs_laws_tables.specs.EachRow.{each-range, each_both, each_map, each_of_filter}
use Rattle.qfs_laws_tables.specs.EachRow.{each_of_map, range-each}
use Rattle.qfs_laws_tables.specs.Keys.{less-not}
use Rattle.qfs_laws_tables.specs.SomeRow.{any_each, found-any}
use Rattle.qfs_laws_tables.specs.Sums.{found-le-total, none-total, total, total-filter, total-map}
use Rattle.qfs_laws_tables.specs.Sums.{weigh_if}
use Rattle.qfs_laws_tree.specs.TreeFacts.{kind-at, kind-row, kind_in, path-is, path-self, row-tied}

-- ---- directories

abbrev pub is_directory_at : PathNames → TreeRow → Bool
is_directory_at path row = path_eq row.path path && (row.file == 0)

abbrev pub HasDirectory : List TreeRow → PathNames → Type 0
HasDirectory tree path = IsTrue (list_any (is_directory_at path) tree)

pub directory-file : (file : ℕ) (closed : Bool) → kind_of file closed ≡ Is.Directory → file ≡ 0
unfolding kind_of
directory-file zero closed e = refl
directory-file (suc n) true e = absurd (cc)
directory-file (suc n) false e = absurd (cc)

pub file-directory : (file : ℕ) (closed : Bool) → file ≡ 0 → kind_of file closed ≡ Is.Directory
unfolding kind_of
file-directory zero closed e = refl
file-directory (suc n) closed e = absurd (omega arith)

pub kind-directory : (tree : List TreeRow) (path : PathNames) → (path ≡ [] → ⊥)
    → kind_at (standing tree) path ≡ Some Is.Directory → HasDirectory tree path
kind-directory tree path root at =
    let r = kind-row tree path Is.Directory root at in
    found-any (stands_at row_path path) (is_directory_at path) tree r.0 r.1
    (and_from _ _ (ap (λ p. path_eq p path) r.2 ∙ path-self path)
    (eq-eqb r.0.file 0 (directory-file r.0.file r.0.closed r.3)))

-- the one row at a path of a rising tree
pub rising-find : (tree : List TreeRow) (path : PathNames) (test : TreeRow → Bool)
    → IsRising (row_cmp row_path) tree
    → list_any (λ row. path_eq row.path path && test row) tree ≡ true
    → (row : TreeRow) × (find (stands_at row_path path) tree ≡ Some row) × (test row ≡ true)
rising-find [] path test rising any = absurd (cc)
rising-find (row ∷ rows) path test rising any =
    (elim (path_eq row.path path) as
    (λ b. path_eq row.path path ≡ b →
    ((b && test row) || list_any (λ row. path_eq row.path path && test row) rows) ≡ true
    → (found : TreeRow) × (cond b (Some row) (find (stands_at row_path path) rows) ≡ Some found)
    × (test found ≡ true)) [
      | true ↦ λ is any. (row, refl, one (test row) is any)
      | false ↦ λ is any. rising-find rows path test rising.1 any
    ]) refl any
  where
    one : (b : Bool) → path_eq row.path path ≡ true
        → (b || list_any (λ row. path_eq row.path path && test row) rows) ≡ true → b ≡ true
    one true is any = refl
    one false is any =
        absurd (any_each ⊥ (λ later. row_cmp row_path row later ≡ Less)
        (λ row. path_eq row.path path && test row)
        (λ later above at. let same : row.path ≡ later.path = path-is row.path path is ∙ sym
        (path-is later.path path (and_parts _ _ at).0) in less-not
        (sym above ∙ row-tied row later same)) rows rising.0 any)

pub directory-kind : (tree : List TreeRow) (path : PathNames) → IsRising (row_cmp row_path) tree
    → HasDirectory tree path → kind_at (standing tree) path ≡ Some Is.Directory
directory-kind tree [] rising has = root
  where
    root : kind_at (standing tree) [] ≡ Some Is.Directory
    root = unfold kind_at in refl
directory-kind tree (name ∷ names) rising has =
    let r = rising-find tree (name ∷ names) (λ row. row.file == 0) rising has in
    kind-at tree name names ∙ ap (option_map kind_in) r.1 ∙ ap Some
    (file-directory r.0.file r.0.closed (eqb-true r.0.file 0 r.2))

-- every directory above a path is there
abbrev pub Lies : List TreeRow → PathNames → Type 0
Lies tree path = (n : ℕ) → 1 ≤ n → n < length path → HasDirectory tree (take n path)

not-root : (path : PathNames) (n : ℕ) → 1 ≤ n → n < length path → take n path ≡ [] → ⊥
not-root path n low high e = let l = ap length e in omega (arith, length-take n path)

pub parents-lie : (tree : List TreeRow) (path : PathNames)
    → Each (λ parent. kind_at (standing tree) parent ≡ Some Is.Directory) (parents_of path)
    → Lies tree path
parents-lie tree path each n low high =
    kind-directory tree (take n path) (not-root path n low high)
    (range-each (λ n. kind_at (standing tree) (take n path) ≡ Some Is.Directory) 1 (length path - 1)
    (each_of_map _ (λ n. take n path) (range_with_len 1 (length path - 1)) each) n low
    (omega arith))

pub lie-parents : (tree : List TreeRow) (path : PathNames) → IsRising (row_cmp row_path) tree
    → Lies tree path
    → Each (λ parent. kind_at (standing tree) parent ≡ Some Is.Directory) (parents_of path)
lie-parents tree path rising lies =
    each_map (λ n. kind_at (standing tree) (take n path) ≡ Some Is.Directory) _ (λ n. take n path)
    (λ n h. h) (range_with_len 1 (length path - 1))
    (each-range _ 1 (length path - 1)
    (λ n low high. directory-kind tree (take n path) rising (lies n low (omega arith))))

-- ---- the tree

pub record RowIs (next : ℕ) (row : TreeRow) : Type 0 where
  pub path : IsPath row.path
  pub no_root : row.path ≢ []
  pub plain : IsPlain row
  pub number : 0 < row.file → row.file < next
  pub len : row.len ≤ MOST_FILE_BYTES
  pub maker : HasMaker row

-- how many rows are of a file
abbrev pub file_weight : ℕ → TreeRow → ℕ
file_weight file row = weigh_if (nat_lt 0 row.file) (one_if (nat_eq row.file file))

abbrev pub file_count : ℕ → List TreeRow → ℕ
file_count file tree = total (file_weight file) tree

pub record HasTree (next : ℕ) (tree : List TreeRow) : Type 0 where
  pub in_order : IsRising (row_cmp row_path) tree
  pub rows : Each (RowIs next) tree
  pub parents : Each (λ (row : TreeRow). Lies tree row.path) tree
  pub once : (file : ℕ) → file_count file tree ≤ 1

file-count : (file : ℕ) (tree : List TreeRow) → copies file (files_in tree) ≡ file_count file tree
unfolding files_in
file-count file tree =
    total-filter (λ k. one_if (nat_eq k file)) (nat_lt 0) (map (λ (row : TreeRow). row.file) tree)
    ∙ total-map (λ k. weigh_if (nat_lt 0 k) (one_if (nat_eq k file))) (λ (row : TreeRow). row.file)
    tree

pub tree-of : (next : ℕ) (tree : List TreeRow) → IsTree next tree → HasTree next tree
unfolding files_in
tree-of next tree h = record {
  in_order = h.in_order;
  rows = each_weaker _ (RowIs next)
      (λ row p. record {
        path = p.0.0;
        no_root = p.0.1;
        plain = p.1.0.0;
        number = λ some. p.1.0.1
            (lt-ltb 0 row.file some);
        len = p.1.1.0;
        maker = p.1.1.1;
      }) tree
      (each_both (λ (row : TreeRow). IsPath row.path × (row.path ≢ []))
      (λ row. (IsPlain row × (nat_lt 0 row.file ≡ true → row.file < next))
      × ((row.len ≤ MOST_FILE_BYTES) × HasMaker row)) tree
      (each_both (λ (row : TreeRow). IsPath row.path) (λ (row : TreeRow). row.path ≢ []) tree
      h.paths h.no_root)
      (each_both (λ row. IsPlain row × (nat_lt 0 row.file ≡ true → row.file < next))
      (λ (row : TreeRow). (row.len ≤ MOST_FILE_BYTES) × HasMaker row) tree
      (each_both IsPlain (λ (row : TreeRow). nat_lt 0 row.file ≡ true → row.file < next) tree
      h.plain_directories
      (each_of_map (λ file. nat_lt 0 file ≡ true → file < next) (λ (row : TreeRow). row.file) tree
      (each_of_filter (λ file. file < next) (nat_lt 0) (map (λ (row : TreeRow). row.file) tree)
      h.file_numbers)))
      (each_both (λ (row : TreeRow). row.len ≤ MOST_FILE_BYTES) HasMaker tree h.lengths h.makers)));
  parents = each_weaker (HasParents tree) (λ (row : TreeRow). Lies tree row.path)
      (λ row p. parents-lie tree row.path p) tree h.in_directories;
  once = λ file. let d = distinct-once (files_in tree) h.each_file_once file in let e = file-count
      file tree in omega arith;
}

pub of-tree : (next : ℕ) (tree : List TreeRow) → HasTree next tree → IsTree next tree
unfolding files_in
of-tree next tree h = record {
  in_order = h.in_order;
  paths = each_weaker (RowIs next) (λ (row : TreeRow). IsPath row.path) (λ row r. r.path) tree
      h.rows;
  no_root = each_weaker (RowIs next) (λ (row : TreeRow). row.path ≢ []) (λ row r. r.no_root) tree
      h.rows;
  in_directories = each_weaker (λ (row : TreeRow). Lies tree row.path) (HasParents tree)
      (λ row l. lie-parents tree row.path h.in_order l) tree h.parents;
  plain_directories = each_weaker (RowIs next) IsPlain (λ row r. r.plain) tree h.rows;
  file_numbers = numbers tree h.rows;
  each_file_once = once-distinct (files_in tree)
      (λ file. let o = h.once file in let e = file-count file tree in omega arith);
  lengths = each_weaker (RowIs next) (λ (row : TreeRow). row.len ≤ MOST_FILE_BYTES) (λ row r. r.len)
      tree h.rows;
  makers = each_weaker (RowIs next) HasMaker (λ row r. r.maker) tree h.rows;
}
  where
    numbers : (rows : List TreeRow) → Each (RowIs next) rows
        → Each (λ file. file < next) (filter (nat_lt 0) (map (λ (row : TreeRow). row.file) rows))
    numbers [] each = tt
    numbers (row ∷ rows) each =
        (elim (nat_lt 0 row.file) as (λ b. nat_lt 0 row.file ≡ b → Each (λ file. file < next)
        (cond b (row.file ∷ filter (nat_lt 0) (map (λ (row : TreeRow). row.file) rows))
        (filter (nat_lt 0) (map (λ (row : TreeRow). row.file) rows)))) [
          | true ↦ λ is. (each.0.number (ltb-true 0 row.file is), numbers rows each.1)
          | false ↦ λ is. numbers rows each.1
        ]) refl

-- ---- files

pub weighs : (file : ℕ) (row : TreeRow) → 0 < file → row.file ≡ file → file_weight file row ≡ 1
weighs file row some own =
    let a : nat_lt 0 row.file ≡ true = lt-ltb 0 row.file (omega arith) in
    let b : nat_eq row.file file ≡ true = eq-eqb row.file file own in
    (λ i. weigh_if (a i) (one_if (b i)))

-- the rows of a file are one
pub file-one : (file : ℕ) (test : TreeRow → Bool) (tree : List TreeRow) (row : TreeRow) → 0 < file
    → file_count file tree ≤ 1 → find test tree ≡ Some row → row.file ≡ file
    → Each (λ (r : TreeRow). r.file ≡ file → r ≡ row) tree
file-one file test [] row some once found is = absurd (cc)
file-one file test (x ∷ rows) row some once found is =
    (elim (test x) as (λ b. cond b (Some x) (find test rows) ≡ Some row → (x.file ≡ file → x ≡ row)
    × Each (λ (r : TreeRow). r.file ≡ file → r ≡ row) rows) [
      | true ↦ λ found.
          let e : x ≡ row = cc in
          let weight : file_weight file x ≡ 1 = weighs file x some
          (ap (λ (r : TreeRow). r.file) e ∙ is) in (
            (λ _. e),
            each_weaker (λ r. file_weight file r ≡ 0) _
                (λ r none own. absurd (let w = weighs file r some own in omega arith)) rows
                (none-total (file_weight file) rows (omega arith)),
          )
      | false ↦ λ found.
          let own : file_weight file row ≡ 1 = weighs file row some is in
          let less = found-le-total (file_weight file) test rows row found in (
            (λ at. absurd (let w = weighs file x some at in omega arith)),
            file-one file test rows
                row some (omega arith) found is,
          )
    ]) found
