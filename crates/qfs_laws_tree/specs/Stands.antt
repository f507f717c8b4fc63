-- What stands in the tree after a change stood before it, and the other way round. Cited by the
-- laws of the metaserver, and for names.
use Rattle.qfs_base.specs.NameTree.{PathNames, add_refusal, kind_at, look_refusal, path_eq}
use Rattle.qfs_base.specs.NameTree.{rmdir_refusal, row_cmp, stands_at, taken}
use Rattle.qfs_base.specs.Table.{Each, IsRising, change_where}
use Rattle.qfs_base.specs.declared.image.TreeRow.{TreeRow}
use Rattle.qfs_base.specs.declared.lists.NameKind.{NameKind}
use Rattle.qfs_model_meta.specs.TreeRows.{add_row, close_file, close_row, closed_file}
use Rattle.qfs_model_meta.specs.TreeRows.{directory_row, file_row, file_stands, has_file, is_closed}
use Rattle.qfs_model_meta.specs.TreeRows.{is_closed_row, is_unclosed, is_unclosed_row, kind_of}
use Rattle.qfs_model_meta.specs.TreeRows.{row_at, row_path, standing, take_file, take_path}
use Rattle.std.proofs.Common.{Bool, List, None, Some, [], ap, arith, false, filter, find, not, refl}
use Rattle.std.proofs.Common.{subst, suc, sym, true, zero, ℕ, ⊎_elim, ◌&&◌, ◌<◌, ◌==◌, ◌||◌, ◌∙◌}
use Rattle.std.proofs.Common.{◌∷◌, ◌≡◌}
use Rattle.std.proofs.lemmas.Bool.{and_from, and_parts, and_right, cases_lt, eqb-true, not-true}
use Rattle.std.proofs.lemmas.Bool.{or_left, or_right, true≢false}
use Rattle.std.proofs.lemmas.Bool.Decides.{nat_tests}
use Rattle.std.specs.List.{list_any}
use Rattle.std.specs.Prelude.{IsTrue, is_some, unwrap_or}
use Rattle.qfs_base.specs.declared.lists.NameKind.TheVariants as Is
use Rattle.qfs_laws_slots.specs.RowKeys.{has_file-is, own-file}
use Rattle.qfs_laws_slots.specs.SlotTable.{Onward}
use Rattle.qfs_base.specs.EachLaws.{each_filter, each_weaker}
use Rattle.qfs_laws_tables.specs.EachRow.{each_of_all, each_both, each_passes}
use Rattle.qfs_laws_tables.specs.SomeRow.{any_change, any_each, any_filter, any_filter_given}
use Rattle.qfs_laws_tables.specs.SomeRow.{any_of_change, any_of_filter, none_any}
use Rattle.qfs_laws_tree.specs.Tree.{HasTree, file-one, rising-find}
use Rattle.qfs_laws_tree.specs.TreeChanges.{any-added, closed-any, closed_test, stands-any}
use Rattle.qfs_laws_tree.specs.TreeChanges.{stands-some, stands_test}
use Rattle.qfs_laws_tree.specs.TreeFacts.{kind-row, kind_in, look-closed, path-self, rmdir-empty}

-- from tests on rows to what stands
pub onward-any : (tree more : List TreeRow) (file : ℕ)
    → (list_any (stands_test file) tree ≡ true → list_any (stands_test file) more ≡ true)
    → (list_any (closed_test file) tree ≡ true → list_any (closed_test file) more ≡ true)
    → Onward tree more file
onward-any tree more file stands closed = (
  (λ s. subst IsTrue (sym (stands-any file more)) (stands (subst IsTrue (stands-any file tree) s))),
  (λ s. subst IsTrue (sym (closed-any file more)) (closed (subst IsTrue (closed-any file tree) s))),
)

pub back-any : (tree more : List TreeRow) (file : ℕ)
    → (list_any (stands_test file) more ≡ true → list_any (stands_test file) tree ≡ true)
    → IsTrue (file_stands file more) → IsTrue (file_stands file tree)
back-any tree more file back s =
    subst IsTrue (sym (stands-any file tree)) (back (subst IsTrue (stands-any file more) s))

or-back : (a b : Bool) → a ≡ false → (a || b) ≡ true → b ≡ true
or-back true b e any = absurd (true≢false e)
or-back false b e any = any

-- ---- a row is added

pub added-onward : (new : TreeRow) (tree : List TreeRow)
    → add_refusal (standing tree) new.path ≡ None → (file : ℕ) → Onward tree (add_row new tree) file
added-onward new tree free file =
    onward-any tree (add_row new tree) file
    (λ any. any-added (stands_test file) new tree free ∙ or_right _ _ any)
    (λ any. any-added (closed_test file) new tree free ∙ or_right _ _ any)

pub added-back : (new : TreeRow) (tree : List TreeRow) → add_refusal (standing tree) new.path ≡ None
    → (file : ℕ) → stands_test file new ≡ false → IsTrue (file_stands file (add_row new tree))
    → IsTrue (file_stands file tree)
added-back new tree free file off =
    back-any tree (add_row new tree) file
    (λ any. or-back _ _ off (sym (any-added (stands_test file) new tree free) ∙ any))

pub directory-off : (path : PathNames) (file : ℕ) → stands_test file (directory_row path) ≡ false
unfolding directory_row is_closed_row is_unclosed_row kind_of is_closed is_unclosed
directory-off path file = refl

pub file-off : (path : PathNames) (number actor command len file : ℕ) → file < number
    → stands_test file (file_row path number actor command len) ≡ false
unfolding file_row
file-off path number actor command len file low =
    let apart : (number == file) ≡ false = grind (arith, nat_tests) in
    and_right _ _ (has_file-is file (file_row path number actor command len) ∙ apart)

-- ---- rows are taken

pub filtered-back : (keep : TreeRow → Bool) (tree : List TreeRow) (file : ℕ)
    → IsTrue (file_stands file (filter keep tree)) → IsTrue (file_stands file tree)
filtered-back keep tree file =
    back-any tree (filter keep tree) file (any_of_filter (stands_test file) keep tree)

pub without_file-onward : (file : ℕ) (tree : List TreeRow) (other : ℕ) → (other == file) ≡ false
    → Onward tree (take_file file tree) other
unfolding take_file
without_file-onward file tree other apart =
    onward-any tree (filter (λ (row : TreeRow). not (has_file file row)) tree) other
    (any_filter (stands_test other) (λ (row : TreeRow). not (has_file file row))
    (λ row is. off row (own-file other row (and_parts _ _ is).1)) tree)
    (any_filter (closed_test other) (λ (row : TreeRow). not (has_file file row))
    (λ row is. off row (own-file other row (and_parts _ _ is).1)) tree)
  where
    off : (row : TreeRow) → row.file ≡ other → not (has_file file row) ≡ true
    off row same = ap not (has_file-is file row ∙ ap (λ k. k == file) same ∙ apart)

pub without_file-gone : (file : ℕ) (tree : List TreeRow) (other : ℕ)
    → IsTrue (file_stands other (take_file file tree)) → (other == file) ≡ false
unfolding take_file
without_file-gone file tree other stands =
    any_each ((other == file) ≡ false) (λ (row : TreeRow). not (has_file file row) ≡ true)
    (stands_test other)
    (λ row keep is. ap (λ k. k == file) (sym (own-file other row (and_parts _ _ is).1)) ∙ sym
    (has_file-is file row) ∙ not-true _ keep)
    (filter (λ (row : TreeRow). not (has_file file row)) tree)
    (each_passes (λ (row : TreeRow). not (has_file file row)) tree)
    (subst IsTrue (stands-any other (filter (λ (row : TreeRow). not (has_file file row)) tree))
    stands)

-- no row at a path passes a test that what stands there doesn't
pub at_path-off : (tree : List TreeRow) (path : PathNames) (kind : NameKind) (test : TreeRow → Bool)
    → IsRising (row_cmp row_path) tree → (path ≡ [] → ⊥) → kind_at (standing tree) path ≡ Some kind
    → ((row : TreeRow) → find (stands_at row_path path) tree ≡ Some row → kind_in row ≡ kind → test
    row ≡ false) → Each (λ row. (path_eq row.path path && test row) ≡ false) tree
at_path-off tree path kind test rising root at off =
    none_any (λ row. path_eq row.path path && test row) tree
    ((elim (list_any (λ row. path_eq row.path path && test row) tree) as
    (λ b. list_any (λ row. path_eq row.path path && test row) tree ≡ b → b ≡ false) [
      | true ↦ λ any.
          let r = rising-find tree path test rising any in
          let k = kind-row tree path kind root at in
          let same : r.0 ≡ k.0 = some-same (sym r.1 ∙ k.1) in
          absurd (true≢false (sym r.2 ∙ ap test same ∙ off k.0 k.1 k.3))
      | false ↦ λ _. refl
    ]) refl)
  where
    some-same : {a b : TreeRow} → Some a ≡ Some b → a ≡ b
    some-same e = cc

taken-keep : (tree : List TreeRow) (path : PathNames) (test : TreeRow → Bool)
    → Each (λ row. (path_eq row.path path && test row) ≡ false) tree → list_any test tree ≡ true
    → list_any test (take_path path tree) ≡ true
unfolding take_path taken
taken-keep tree path test off any =
    any_filter_given (λ row. (path_eq row.path path && test row) ≡ false) test
    (λ (row : TreeRow). not (path_eq row.path path))
    (λ row o is. one (path_eq row.path path) (test row) o is) tree off any
  where
    one : (a b : Bool) → (a && b) ≡ false → b ≡ true → not a ≡ true
    one true b o is = absurd (true≢false (sym is ∙ o))
    one false b o is = refl

directory-stands : (file : ℕ) (row : TreeRow) → kind_in row ≡ Is.Directory
    → stands_test file row ≡ false
unfolding is_closed_row is_unclosed_row
directory-stands file row is =
    (λ i. (is_closed (is i) || is_unclosed (is i)) && has_file file row) ∙ none
  where
    none : ((is_closed Is.Directory || is_unclosed Is.Directory) && has_file file row) ≡ false
    none = unfold is_closed is_unclosed in refl

directory-closed : (file : ℕ) (row : TreeRow) → kind_in row ≡ Is.Directory
    → closed_test file row ≡ false
unfolding is_closed_row
directory-closed file row is = (λ i. is_closed (is i) && has_file file row) ∙ none
  where
    none : (is_closed Is.Directory && has_file file row) ≡ false
    none = unfold is_closed in refl

pub emptied-onward : (next : ℕ) (path : PathNames) (tree : List TreeRow)
    → rmdir_refusal (standing tree) path ≡ None → (path ≡ [] → ⊥) → HasTree next tree → (file : ℕ)
    → Onward tree (take_path path tree) file
emptied-onward next path tree free root h file =
    let at = (rmdir-empty (standing tree) path free).0 in
    onward-any tree (take_path path tree) file
    (taken-keep tree path (stands_test file)
    (at_path-off tree path Is.Directory (stands_test file) h.in_order root at
    (λ row _ is. directory-stands file row is)))
    (taken-keep tree path (closed_test file)
    (at_path-off tree path Is.Directory (closed_test file) h.in_order root at
    (λ row _ is. directory-closed file row is)))

pub taken-back : (path : PathNames) (tree : List TreeRow) (file : ℕ)
    → IsTrue (file_stands file (take_path path tree)) → IsTrue (file_stands file tree)
unfolding take_path taken
taken-back path tree file = filtered-back (λ (row : TreeRow). not (path_eq row.path path)) tree file

-- a closed file is taken by its path
pub removed-onward : (next : ℕ) (path : PathNames) (file : ℕ) (tree : List TreeRow)
    → look_refusal (standing tree) path ≡ None → (path ≡ [] → ⊥) → (row_at tree path).file ≡ file
    → HasTree next tree → (other : ℕ) → (other == file) ≡ false
    → Onward tree (take_path path tree) other
unfolding row_at
removed-onward next path file tree looks root own h other apart =
    let at = look-closed (standing tree) path looks in
    let off : (row : TreeRow) → find (stands_at row_path path) tree ≡ Some row → has_file other
    row ≡ false = λ row is. has_file-is other row ∙ off_one row is in
    onward-any tree (take_path path tree) other
    (taken-keep tree path (stands_test other)
    (at_path-off tree path Is.Closed (stands_test other) h.in_order root at
    (λ row is _. and_right _ _ (off row is))))
    (taken-keep tree path (closed_test other)
    (at_path-off tree path Is.Closed (closed_test other) h.in_order root at
    (λ row is _. and_right _ _ (off row is))))
  where
    off_one : (row : TreeRow) → find (stands_at row_path path) tree ≡ Some row
        → (row.file == other) ≡ false
    off_one row is =
        let e : row.file ≡ file = ap (λ o. (unwrap_or o (directory_row [])).file) (sym is) ∙ own in
        let a = apart in
        grind (arith, nat_tests)

pub removed-gone : (next : ℕ) (path : PathNames) (file : ℕ) (tree : List TreeRow)
    → look_refusal (standing tree) path ≡ None → (path ≡ [] → ⊥) → (row_at tree path).file ≡ file
    → HasTree next tree → (other : ℕ) → IsTrue (file_stands other (take_path path tree))
    → (other == file) ≡ false
unfolding row_at take_path taken
removed-gone next path file tree looks root own h other stands =
    let at = look-closed (standing tree) path looks in
    let k = kind-row tree path Is.Closed root at in
    let e : k.0.file ≡ file = ap (λ o. (unwrap_or o (directory_row [])).file) (sym k.1) ∙ own in
    any_each ((other == file) ≡ false)
    (λ (row : TreeRow). (not (path_eq row.path path) ≡ true)
    × (row.file ≡ k.0.file → 0 < k.0.file → row ≡ k.0)) (stands_test other)
    (λ row b is.
    let s = stands-some other row is in
    (elim (other == file) as (λ t. (other == file) ≡ t → t ≡ false) [
      | true ↦ λ same.
          let f : row.file ≡ k.0.file = s.0 ∙ eqb-true other file same ∙ sym e in
          let r : row ≡ k.0 = b.1 f (subst (λ n. 0 < n) f s.1) in
          absurd (true≢false (sym b.0 ∙ ap (λ (x : TreeRow). not (path_eq x.path path)) r ∙ ap
          (λ p. not (path_eq p path)) k.2 ∙ ap not (path-self path)))
      | false ↦ λ _. refl
    ]) refl)
    (filter (λ (row : TreeRow). not (path_eq row.path path)) tree)
    (each_both (λ (row : TreeRow). not (path_eq row.path path) ≡ true)
    (λ (row : TreeRow). row.file ≡ k.0.file → 0 < k.0.file → row ≡ k.0)
    (filter (λ (row : TreeRow). not (path_eq row.path path)) tree)
    (each_passes (λ (row : TreeRow). not (path_eq row.path path)) tree)
    (each_filter _ (λ (row : TreeRow). not (path_eq row.path path)) tree (ones k.0 k.1)))
    (subst IsTrue (stands-any other (filter (λ (row : TreeRow). not (path_eq row.path path)) tree))
    stands)
  where
    ones : (r : TreeRow) → find (stands_at row_path path) tree ≡ Some r
        → Each (λ (row : TreeRow). row.file ≡ r.file → 0 < r.file → row ≡ r) tree
    ones r is =
        ⊎_elim (λ some. each_weaker (λ (row : TreeRow). row.file ≡ r.file → row ≡ r) _
        (λ row f own _. f own) tree (file-one r.file (stands_at row_path path) tree r some
        (h.once r.file) is refl))
        (λ none. each_of_all _ (λ row _ some. absurd (omega arith)) tree) (cases_lt 0 r.file)

-- ---- a file is closed

is_closed-true : (file : ℕ) → 0 < file → is_closed (kind_of file true) ≡ true
unfolding is_closed kind_of
is_closed-true zero some = absurd (omega arith)
is_closed-true (suc n) some = refl

pub closed-now : (file : ℕ) (row : TreeRow) → 0 < row.file → has_file file row ≡ true
    → closed_test file (close_row row) ≡ true
unfolding is_closed_row close_row has_file
closed-now file row some is = and_from _ _ (is_closed-true row.file some) is

closed-stands : (file : ℕ) (row : TreeRow) → closed_test file row ≡ true
    → stands_test file row ≡ true
closed-stands file row is =
    let p = and_parts (is_closed_row row) (has_file file row) is in and_from
    (is_closed_row row || is_unclosed_row row) (has_file file row)
    (or_left (is_closed_row row) (is_unclosed_row row) p.0) p.1

pub closing-onward : (file : ℕ) (tree : List TreeRow) (other : ℕ)
    → Onward tree (close_file file tree) other
unfolding close_file
closing-onward file tree other =
    onward-any tree (change_where (has_file file) close_row tree) other
    (any_change (stands_test other) (has_file file) close_row
    (λ row is _. closed-stands other (close_row row)
    (closed-now other row (stands-some other row is).1 (and_parts _ _ is).1)) tree)
    (any_change (closed_test other) (has_file file) close_row
    (λ row is _. closed-now other row (stands-some other row (closed-stands other row is)).1
    (and_parts _ _ is).1) tree)

kind-file : (file : ℕ) (closed : Bool) → 0 < file
    → (is_closed (kind_of file closed) || is_unclosed (kind_of file closed)) ≡ true
unfolding kind_of is_closed is_unclosed
kind-file zero closed some = absurd (omega arith)
kind-file (suc n) true some = refl
kind-file (suc n) false some = refl

opened-stands : (other : ℕ) (row : TreeRow) → stands_test other (close_row row) ≡ true
    → stands_test other row ≡ true
unfolding close_row has_file is_closed_row is_unclosed_row
opened-stands other row is =
    and_from _ _ (one row.file row.closed (stands-some other (close_row row) is).1)
    (and_parts _ _ is).1
  where
    one : (file : ℕ) (closed : Bool) → 0 < file
        → (is_closed (kind_of file closed) || is_unclosed (kind_of file closed)) ≡ true
    one file closed some = kind-file file closed some

pub closing-back : (file : ℕ) (tree : List TreeRow) (other : ℕ) → 0 < other
    → IsTrue (file_stands other (close_file file tree)) → IsTrue (file_stands other tree)
unfolding close_file
closing-back file tree other some =
    back-any tree (change_where (has_file file) close_row tree) other
    (any_of_change (stands_test other) (stands_test other) (has_file file) close_row
    (λ row is. opened-stands other row is) (λ row is. is) tree)

pub stands_of_closed : (file : ℕ) (tree : List TreeRow) → IsTrue (is_some (closed_file file tree))
    → IsTrue (file_stands file tree)
stands_of_closed file tree closed =
    subst IsTrue (sym (stands-any file tree))
    (weaker tree (subst IsTrue (closed-any file tree) closed))
  where
    weaker : (rows : List TreeRow) → list_any (closed_test file) rows ≡ true
        → list_any (stands_test file) rows ≡ true
    weaker [] any = any
    weaker (row ∷ rows) any =
        (elim (closed_test file row) as
        (λ b. closed_test file row ≡ b → (b || list_any (closed_test file) rows) ≡ true →
        (stands_test file row || list_any (stands_test file) rows) ≡ true) [
          | true ↦ λ is _. ap (λ b. b || list_any (stands_test file) rows)
              (closed-stands file row is)
          | false ↦ λ _ any. or_right (stands_test file row) _ (weaker rows any)
        ]) refl any
