-- The paths of unclosed files stay found by file, whatever happens to the tree. For its changes.
use Rattle.std.proofs.Common.{Bool, List, None, Some, [], ap, arith, cond, false, find, map, not, refl, subst, suc, sym, true, true≢false, zero, ℕ, ◌&&◌, ◌<◌, ◌==◌, ◌^◌, ◌∙◌, ◌∷◌, ◌≡◌, ◌≢◌, ◌≤◌}
use Rattle.std.proofs.lemmas.Bool.{and_from, and_left, and_parts, and_right, eq-eqb, eqb-true}
use Rattle.std.specs.Option.{option_map}
use Rattle.std.specs.Ordering.{is_eq, nat_cmp}
use Rattle.std.specs.declared.cmp.Ordering.TheVariants.{Equal}
use Rattle.qfs_base.specs.EachLaws.{each_weaker}
use Rattle.qfs_base.specs.NameTree.{PathNames, added, kind_at, path_cmp, path_eq, row_cmp, taken}
use Rattle.qfs_base.specs.Table.{Each, place, without}
use Rattle.qfs_base.specs.declared.image.TreeRow.{TreeRow}
use Rattle.qfs_base.specs.declared.lists.NameKind.{NameKind}
use Rattle.qfs_model_meta.specs.TreeRows.{is_unclosed, kind_of}
use Rattle.qfs_laws_tables.specs.EachRow.{each_change, each_of_all, each_of_map, find_none, found_has, none_found}
use Rattle.qfs_laws_tables.specs.Keys.{equal-is, key-is}
use Rattle.qfs_laws_tables.specs.Placed.{Apart, find_beside}
use Rattle.qfs_laws_tree.specs.Stands.{at_path-off}
use Rattle.qfs_laws_tree.specs.Tree.{HasTree, file-one}
use Rattle.qfs_laws_tree.specs.TreeFacts.{kind_in, path-self}
use Rattle.qfs_names.proofs.FindLaws.{find-changed, find-kept, find-mapped, find-placed_on, found-alone}
use Rattle.qfs_names.proofs.NameLaws.{as-rises, as-same, at-is}
use Rattle.qfs_names.specs.ImageRows.{rows-standing}
use Rattle.qfs_names.specs.declared.row.NameRow.{NameRow}
use Rattle.qfs_names.specs.declared.row.UnclosedRow.{UnclosedRow}
use Rattle.qfs_names.specs.Names.{close_file, closed_row, directory_at, file_at, is_open, is_open_of, of_file, path_row, row_path, standing_of, take_file}
use Rattle.qfs_names.specs.PathLaws.{rows_total}
use Rattle.qfs_names.specs.Trees.{HoldsOpen, as_row, file_cmp, has_number, maker_of, none_of}

-- ---- numbers as keys

pub number-is : (file n : ℕ) → is_eq (nat_cmp file n) ≡ true → n ≡ file
number-is file n is = eqb-true n file (sym (key-is file n) ∙ is)

pub is-number : (file n : ℕ) → n ≡ file → is_eq (nat_cmp file n) ≡ true
is-number file n same = key-is file n ∙ eq-eqb n file same

pub tied-number : (file a b : ℕ) → nat_cmp a b ≡ Equal → is_eq (nat_cmp file a) ≡ is_eq (nat_cmp file b)
tied-number file a b tie = ap (λ n. is_eq (nat_cmp file n)) (sym (number-is a b (ap is_eq tie)))

pub off-number : (file n : ℕ) → (n ≡ file → ⊥) → is_eq (nat_cmp file n) ≡ false
off-number file n apart = one (is_eq (nat_cmp file n)) refl
  where
    one : (b : Bool) → is_eq (nat_cmp file n) ≡ b → b ≡ false
    one true e = absurd (apart (number-is file n e))
    one false e = refl

directory-shut : (path : PathNames) → is_open (directory_at path) ≡ false
unfolding is_unclosed kind_of
directory-shut path = refl

closed-shut : (row : NameRow) → is_open (closed_row row) ≡ false
unfolding is_unclosed kind_of
closed-shut row = one row.file
  where
    one : (file : ℕ) → is_unclosed (kind_of file true) ≡ false
    one zero = refl
    one (suc n) = refl

file-open : (path : PathNames) (file : ℕ) → 1 ≤ file → is_open (file_at path file) ≡ true
unfolding is_unclosed kind_of
file-open path zero some = absurd (omega arith)
file-open path (suc n) some = refl

pub open-some : (row : NameRow) → is_open row ≡ true → 0 < row.file
unfolding is_unclosed kind_of
open-some row is = one row.file row.closed is
  where
    one : (file : ℕ) (closed : Bool) → is_unclosed (kind_of file closed) ≡ true → 0 < file
    one zero closed is = absurd (cc)
    one (suc n) closed is = omega arith

-- ---- a row more

pub index-directory : (paths : List UnclosedRow) (path : PathNames) (rows : List NameRow)
    → Apart (row_cmp row_path) (directory_at path) rows → HoldsOpen paths rows
    → HoldsOpen paths (added row_path (directory_at path) rows)
unfolding added
index-directory paths path rows apart holds file =
    holds file ∙ ap (option_map path_row) (sym
    (find_beside (row_cmp row_path) (is_open_of file) (directory_at path) rows
    (and_left _ _ (directory-shut path))
    (each_weaker (λ row. row_cmp row_path (directory_at path) row ≡ Equal → ⊥)
    (λ row. row_cmp row_path (directory_at path) row ≡ Equal → is_open_of file row ≡ false)
    (λ row off tie. absurd (off tie)) rows apart)))

pub index-file : (paths : List UnclosedRow) (path : PathNames) (number : ℕ) (rows : List NameRow)
    → 1 ≤ number → Each (λ (row : NameRow). row.file ≢ number) rows
    → Apart (row_cmp row_path) (file_at path number) rows → HoldsOpen paths rows
    → HoldsOpen (place file_cmp (path_row (file_at path number)) paths)
    (added row_path (file_at path number) rows)
unfolding added
index-file paths path number rows some fresh apart holds file =
    one (is_eq (nat_cmp file number)) refl
  where
    new : NameRow
    new = file_at path number

    none : find (has_number number) paths ≡ None
    none = holds number ∙ ap (option_map path_row) (find_none (is_open_of number) rows
        (each_weaker (λ (row : NameRow). row.file ≢ number) (λ row. is_open_of number row ≡ false)
        (λ row off. and_right (is_open row) (of_file number row) (off-number number row.file off)) rows
        fresh))

    one : (b : Bool) → is_eq (nat_cmp file number) ≡ b
        → find (has_number file) (place file_cmp (path_row new) paths)
        ≡ option_map path_row (find (is_open_of file) (place (row_cmp row_path) new rows))
    one true is =
        let same : number ≡ file = number-is file number is in
        find-placed_on file_cmp (has_number file) (path_row new) paths is
        (each_weaker (λ (row : UnclosedRow). has_number file row ≡ false)
        (λ (row : UnclosedRow). has_number file row ≡ true → nat_cmp number row.file ≡ Equal)
        (λ row off here. absurd (true≢false (sym here ∙ off))) paths
        (none_found (has_number file) paths (subst (λ n. find (has_number n) paths ≡ None) same none)))
        ∙ ap (option_map path_row) (sym
        (find-placed_on (row_cmp row_path) (is_open_of file) new rows
        (and_from _ _ (file-open path number some) is)
        (each_weaker (λ (row : NameRow). row.file ≢ number)
        (λ (row : NameRow). is_open_of file row ≡ true → row_cmp row_path new row ≡ Equal)
        (λ row off here. absurd
        (off (number-is file row.file (and_parts _ _ here).1 ∙ sym same))) rows fresh)))
    one false off =
        find_beside file_cmp (has_number file) (path_row new) paths off
        (each_of_all
        (λ (row : UnclosedRow). nat_cmp number row.file ≡ Equal → has_number file row ≡ false)
        (λ row tie. sym (tied-number file number row.file tie) ∙ off) paths)
        ∙ holds file
        ∙ ap (option_map path_row) (sym
        (find_beside (row_cmp row_path) (is_open_of file) new rows (and_right _ _ off)
        (each_weaker (λ row. row_cmp row_path new row ≡ Equal → ⊥)
        (λ row. row_cmp row_path new row ≡ Equal → is_open_of file row ≡ false)
        (λ row far tie. absurd (far tie)) rows apart)))

-- ---- a file is closed, or taken

-- the other rows of a table without a number
others-kept : (number file : ℕ) → (file ≡ number → ⊥) → (n : ℕ) → is_eq (nat_cmp file n) ≡ true
    → not (is_eq (nat_cmp number n)) ≡ true
others-kept number file apart n is =
    ap not (off-number number n (λ same. apart (sym (number-is file n is) ∙ same)))

paths-kept : (paths : List UnclosedRow) (number file : ℕ) → (file ≡ number → ⊥)
    → find (has_number file) (without (has_number number) paths) ≡ find (has_number file) paths
paths-kept paths number file apart =
    find-kept (has_number file) (λ row. not (has_number number row)) paths
    (each_of_all
    (λ row. has_number file row ≡ true → not (has_number number row) ≡ true)
    (λ row is. others-kept number file apart row.file is) paths)

paths-gone : (paths : List UnclosedRow) (number : ℕ)
    → find (has_number number) (without (has_number number) paths) ≡ None
paths-gone paths number = find_none (has_number number) _ (gone paths)
  where
    gone : (rows : List UnclosedRow)
        → Each (λ row. has_number number row ≡ false) (without (has_number number) rows)
    gone [] = tt
    gone (row ∷ rows) =
        elim (has_number number row) as (λ b. has_number number row ≡ b
        → Each (λ row. has_number number row ≡ false)
        (cond (not b) (row ∷ without (has_number number) rows) (without (has_number number) rows)))
        [ true ↦ λ _. gone rows | false ↦ λ off. (off, gone rows) ] refl

-- whether two numbers are the same
by_number : (P : Type 0) (file number : ℕ) → (file ≡ number → P) → ((file ≡ number → ⊥) → P) → P
by_number P file number same apart = one (file == number) refl
  where
    one : (b : Bool) → (file == number) ≡ b → P
    one true is = same (eqb-true file number is)
    one false off = apart (λ e. true≢false (sym (eq-eqb file number e) ∙ off))

pub index-closed : (paths : List UnclosedRow) (number : ℕ) (rows : List NameRow)
    → HoldsOpen paths rows → HoldsOpen (without (has_number number) paths) (close_file number rows)
index-closed paths number rows holds file =
    by_number _ file number
    (λ same. subst (λ n. find (has_number n) (without (has_number number) paths)
    ≡ option_map path_row (find (is_open_of n) (close_file number rows))) (sym same)
    (paths-gone paths number ∙ ap (option_map path_row) (sym
    (find_none (is_open_of number) (close_file number rows)
    (each_change (λ _. Unit {0}) (λ row. is_open_of number row ≡ false) (of_file number) closed_row
    (λ row is _. and_left (is_open (closed_row row)) (of_file number row) (closed-shut row))
    (λ row off _. and_right (is_open row) (of_file number row) off) rows
    (each_of_all _ (λ _. tt) rows))))))
    (λ apart. paths-kept paths number file apart ∙ holds file ∙ ap (option_map path_row) (sym
    (find-changed (is_open_of file) (of_file number) closed_row rows
    (each_of_all (λ row. of_file number row ≡ true
    → (is_open_of file row ≡ false) × (is_open_of file (closed_row row) ≡ false))
    (λ row is. (
      and_right (is_open row) (of_file file row)
          (off-number file row.file (λ own. apart (sym own ∙ number-is number row.file is))),
      and_left (is_open (closed_row row)) (of_file file row) (closed-shut row),
    )) rows))))

pub index-without : (paths : List UnclosedRow) (number : ℕ) (rows : List NameRow)
    → HoldsOpen paths rows → HoldsOpen (without (has_number number) paths) (take_file number rows)
index-without paths number rows holds file =
    by_number _ file number
    (λ same. subst (λ n. find (has_number n) (without (has_number number) paths)
    ≡ option_map path_row (find (is_open_of n) (take_file number rows))) (sym same)
    (paths-gone paths number ∙ ap (option_map path_row) (sym
    (find_none (is_open_of number) (take_file number rows) (gone rows)))))
    (λ apart. paths-kept paths number file apart ∙ holds file ∙ ap (option_map path_row) (sym
    (find-kept (is_open_of file) (λ row. not (of_file number row)) rows
    (each_of_all (λ row. is_open_of file row ≡ true → not (of_file number row) ≡ true)
    (λ row is. others-kept number file apart row.file (and_parts (is_open row) (of_file file row) is).1)
    rows))))
  where
    gone : (rows : List NameRow)
        → Each (λ row. is_open_of number row ≡ false) (take_file number rows)
    gone [] = tt
    gone (row ∷ rows) =
        elim (of_file number row) as (λ b. of_file number row ≡ b
        → Each (λ row. is_open_of number row ≡ false)
        (cond (not b) (row ∷ take_file number rows) (take_file number rows)))
        [ true ↦ λ _. gone rows | false ↦ λ off. (and_right _ _ off, gone rows) ] refl

-- ---- what isn't open is taken by its path

pub index-taken : (paths : List UnclosedRow) (path : PathNames) (kind : NameKind)
    (rows : List NameRow)
    → HasTree (2 ^ 32) (map as_row rows) → (path ≡ [] → ⊥)
    → kind_at (standing_of rows) path ≡ Some kind → is_unclosed kind ≡ false → HoldsOpen paths rows
    → HoldsOpen paths (taken row_path path rows)
unfolding taken
index-taken paths path kind rows h root at shut holds file =
    holds file ∙ ap (option_map path_row) (sym
    (find-kept (is_open_of file) (λ (row : NameRow). not (path_eq row.path path)) rows
    (each_weaker (λ (row : NameRow). (path_eq row.path path && is_open row) ≡ false)
    (λ (row : NameRow). is_open_of file row ≡ true → not (path_eq row.path path) ≡ true)
    (λ row off is. stays (path_eq row.path path) (is_open row) off
    (and_parts (is_open row) (of_file file row) is).0) rows
    (each_of_map (λ (row : TreeRow). (path_eq row.path path && is_unclosed (kind_in row)) ≡ false) as_row rows
    (at_path-off (map as_row rows) path kind (λ (row : TreeRow). is_unclosed (kind_in row)) h.in_order
    root (ap (λ s. kind_at s path) (sym (rows-standing maker_of none_of none_of rows)) ∙ at)
    (λ row _ is. ap is_unclosed is ∙ shut))))))
  where
    stays : (a b : Bool) → (a && b) ≡ false → b ≡ true → not a ≡ true
    stays true true off is = absurd (cc)
    stays true false off is = absurd (cc)
    stays false b off is = refl

-- ---- the row of an unclosed file

-- the rows of its number are one
pub ones-of : (file : ℕ) (rows : List NameRow) (row : NameRow) → HasTree (2 ^ 32) (map as_row rows)
    → find (is_open_of file) rows ≡ Some row
    → Each (λ (other : NameRow). of_file file other ≡ true → other ≡ row) rows
ones-of file rows row h found =
    let own = (found_has (λ _. Unit {0}) (is_open_of file) rows row found
    (each_of_all _ (λ _. tt) rows)).1 in
    let parts = and_parts (is_open row) (of_file file row) own in
    let number : row.file ≡ file = number-is file row.file parts.1 in
    let some : 0 < file = subst (λ n. 0 < n) number (open-some row parts.0) in
    each_weaker (λ (other : NameRow). other.file ≡ file → as_row other ≡ as_row row)
    (λ other. of_file file other ≡ true → other ≡ row)
    (λ other one is. as-same other row (one (number-is file other.file is))) rows
    (each_of_map (λ (r : TreeRow). r.file ≡ file → r ≡ as_row row) as_row rows
    (file-one file (λ (r : TreeRow). is_unclosed (kind_in r) && is_eq (nat_cmp file r.file))
    (map as_row rows) (as_row row) some (h.once file)
    (find-mapped as_row (is_open_of file) _ rows (each_of_all _ (λ _. refl) rows)
    ∙ ap (option_map as_row) found) number))

-- and the only one at its path
pub own-rows : (file : ℕ) (rows : List NameRow) (row : NameRow) → HasTree (2 ^ 32) (map as_row rows)
    → find (is_open_of file) rows ≡ Some row
    → Each (λ (other : NameRow). is_eq (path_cmp row.path other.path) ≡ of_file file other) rows
own-rows file rows row h found =
    both rows (ones-of file rows row h found)
    (found-alone (row_cmp row_path) rows_total (is_open_of file) rows row
    (as-rises rows h.in_order) found)
  where
    own : of_file file row ≡ true
    own = (and_parts (is_open row) (of_file file row) (found_has (λ _. Unit {0}) (is_open_of file)
        rows row found (each_of_all _ (λ _. tt) rows)).1).1

    both : (xs : List NameRow)
        → Each (λ (r : NameRow). of_file file r ≡ true → r ≡ row) xs
        → Each (λ (r : NameRow). row_cmp row_path row r ≡ Equal → r ≡ row) xs
        → Each (λ (other : NameRow). is_eq (path_cmp row.path other.path) ≡ of_file file other) xs
    both [] ones alone = tt
    both (x ∷ xs) ones alone = (
      one (is_eq (path_cmp row.path x.path)) refl (of_file file x) refl,
      both xs ones.1 alone.1,
    )
      where
        one : (a : Bool) → is_eq (path_cmp row.path x.path) ≡ a → (b : Bool) → of_file file x ≡ b
            → a ≡ b
        one true is b at =
            sym own ∙ ap (of_file file) (sym (alone.0 (equal-is _ is))) ∙ at
        one false off false at = refl
        one false off true at =
            sym off ∙ ap (λ (r : NameRow). is_eq (path_cmp row.path r.path)) (ones.0 at)
            ∙ at-is row.path row.path ∙ path-self row.path
