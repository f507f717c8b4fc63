-- Files that are closed or given up, and the paths at which they stand. Cited by the laws of the
-- metaserver and of puts and gets, and for names.
use Rattle.qfs_base.specs.NameTree.{PathNames, is_filled, is_within, kind_at, look_refusal}
use Rattle.qfs_base.specs.NameTree.{rename_refusal, rmdir_refusal, source_refusal, stands_at}
use Rattle.qfs_base.specs.Path.{IsPath}
use Rattle.qfs_base.specs.Table.{Each, change_row, change_where}
use Rattle.qfs_base.specs.declared.image.TreeRow.{TreeRow}
use Rattle.qfs_base.specs.declared.lists.NameKind.{NameKind}
use Rattle.qfs_model_meta.specs.TreeRows.{close_file, close_row, closed_file, file_stands, has_file}
use Rattle.qfs_model_meta.specs.TreeRows.{is_closed, is_closed_row, is_unclosed, is_unclosed_row}
use Rattle.qfs_model_meta.specs.TreeRows.{kind_of, row_path, standing, take_file}
use Rattle.std.proofs.Common.{Bool, List, None, Option, Some, [], ap, arith, cond, false, find, not}
use Rattle.std.proofs.Common.{refl, subst, suc, sym, true, zero, ℕ, ◌&&◌, ◌<◌, ◌||◌, ◌∙◌, ◌∷◌, ◌≡◌}
use Rattle.std.proofs.lemmas.Bool.{and_parts, eq-eqb, true≢false}
use Rattle.std.specs.List.{list_any}
use Rattle.std.specs.Prelude.{IsTrue, is_some}
use Rattle.qfs_base.specs.declared.lists.NameKind.TheVariants as Is
use Rattle.qfs_base.specs.declared.reply.TreeRefusal.TheVariants as Not
use Rattle.qfs_laws_slots.specs.RowKeys.{has_file-is, own-file}
use Rattle.qfs_base.specs.EachLaws.{each_weaker}
use Rattle.qfs_laws_tables.specs.EachRow.{found_has}
use Rattle.qfs_laws_tree.specs.History.{IsUnclosedFile}
use Rattle.qfs_laws_tree.specs.Move.{if-none}
use Rattle.qfs_laws_tree.specs.Stands.{closed-now, filtered-back}
use Rattle.qfs_laws_tree.specs.Tree.{HasTree, RowIs, file-one}
use Rattle.qfs_laws_tree.specs.TreeChanges.{closed-any, closed_test}
use Rattle.qfs_laws_tree.specs.TreeFacts.{kind-row, look-closed, or-none, rmdir-empty}

not-root : (tree : List TreeRow) (path : PathNames) (kind : NameKind)
    → kind_at (standing tree) path ≡ Some kind → (kind ≡ Is.Directory → ⊥) → path ≡ [] → ⊥
unfolding kind_at
not-root tree path kind at other e =
    let root : Some Is.Directory ≡ Some kind = sym (ap (kind_at (standing tree)) e) ∙ at in
    other (let k : kind ≡ Is.Directory = cc in k)

pub closed-root : (tree : List TreeRow) (path : PathNames)
    → look_refusal (standing tree) path ≡ None → path ≡ [] → ⊥
closed-root tree path looks =
    not-root tree path Is.Closed (look-closed (standing tree) path looks) (λ e. cc)

pub emptied-root : (tree : List TreeRow) (path : PathNames)
    → rmdir_refusal (standing tree) path ≡ None → path ≡ [] → ⊥
unfolding is_filled
emptied-root tree path free e =
    true≢false (sym (ap (is_filled (standing tree)) e) ∙ (rmdir-empty (standing tree) path free).1)

pub path-of : (next : ℕ) (tree : List TreeRow) (path : PathNames) (kind : NameKind)
    → HasTree next tree → (path ≡ [] → ⊥) → kind_at (standing tree) path ≡ Some kind → IsPath path
path-of next tree path kind h root at =
    let r = kind-row tree path kind root at in
    subst IsPath r.2 (found_has (RowIs next) (stands_at row_path path) tree r.0 r.1 h.rows).0.path

unclosed-not : (file : ℕ) (closed : Bool) → is_unclosed (kind_of file closed) ≡ true
    → (closed ≡ false) × (0 < file)
unfolding is_unclosed kind_of
unclosed-not zero closed is = absurd (cc)
unclosed-not (suc n) true is = absurd (cc)
unclosed-not (suc n) false is = (refl, omega arith)

found-there : (file : ℕ) (test : TreeRow → Bool) (rows : List TreeRow) (row : TreeRow)
    → find test rows ≡ Some row → row.file ≡ file → list_any (has_file file) rows ≡ true
found-there file test [] row found own = absurd (cc)
found-there file test (x ∷ rows) row found own =
    (elim (test x) as (λ b. cond b (Some x) (find test rows) ≡ Some row →
    (has_file file x || list_any (has_file file) rows) ≡ true) [
      | true ↦ λ found. let e : x ≡ row = cc in ap (λ b. b || list_any (has_file file) rows)
          (has_file-is file x ∙ eq-eqb _ _ (ap (λ (r : TreeRow). r.file) e ∙ own))
      | false ↦ λ found. elim (has_file file x) as
          (λ b. (b || list_any (has_file file) rows) ≡ true)
          [ true ↦ refl | false ↦ found-there file test rows row found own ]
    ]) found

closed-is : (file : ℕ) (closed : Bool) → is_closed (kind_of file closed) ≡ true → closed ≡ false → ⊥
unfolding is_closed kind_of
closed-is zero closed is off = cc
closed-is (suc n) true is off = cc
closed-is (suc n) false is off = cc

-- the rows of a file that an unclosed row is of
pub unclosed-rows : (next file : ℕ) (test : TreeRow → Bool) (tree : List TreeRow) (row : TreeRow)
    → HasTree next tree → find test tree ≡ Some row → row.file ≡ file → is_unclosed_row row ≡ true
    → IsUnclosedFile file tree × Each (λ (r : TreeRow). r.file ≡ file → r ≡ row) tree
unfolding is_unclosed_row
unclosed-rows next file test tree row h found own is =
    let u = unclosed-not row.file row.closed is in
    let some : 0 < file = subst (λ n. 0 < n) own u.1 in
    let ones = file-one file test tree row some (h.once file) found own in (
      record {
        some = some;
        unclosed = each_weaker (λ (r : TreeRow). r.file ≡ file → r ≡ row)
            (λ (r : TreeRow). r.file ≡ file → r.closed ≡ false)
            (λ r e o. ap (λ (x : TreeRow). x.closed) (e o) ∙ u.0) tree ones;
        there = there tree found;
      },
      ones,
    )
  where
    there : (rows : List TreeRow) → find test rows ≡ Some row → list_any (has_file file) rows ≡ true
    there rows f = found-there file test rows row f own

-- no closed row is of an unclosed file
pub not-closed : (file : ℕ) (tree : List TreeRow) → IsUnclosedFile file tree
    → is_some (closed_file file tree) ≡ false
unfolding closed_file is_closed_row
not-closed file tree is =
    one (find (λ (row : TreeRow). is_closed (kind_of row.file row.closed) && has_file file row)
    tree) refl
  where
    one : (o : Option TreeRow)
        → find (λ (row : TreeRow). is_closed (kind_of row.file row.closed) && has_file file row)
        tree ≡ o
        → is_some o ≡ false
    one None e = refl
    one (Some row) e =
        let r = found_has (λ (row : TreeRow). row.file ≡ file → row.closed ≡ false)
        (λ (row : TreeRow). is_closed (kind_of row.file row.closed) && has_file file row) tree
        row e is.unclosed in
        let p = and_parts (is_closed (kind_of row.file row.closed)) (has_file file row) r.1 in
        absurd (closed-is row.file row.closed p.0 (r.0 (own-file file row p.1)))

own-some : (file : ℕ) (row : TreeRow) → 0 < file → has_file file row ≡ true → 0 < row.file
own-some file row some own = let e : row.file ≡ file = own-file file row own in omega arith

closed-later : (file : ℕ) (tree : List TreeRow) → 0 < file → list_any (has_file file) tree ≡ true
    → list_any (closed_test file) (close_file file tree) ≡ true
unfolding close_file
closed-later file [] some any = absurd (cc)
closed-later file (row ∷ rows) some any =
    (elim (has_file file row) as (λ b. has_file file row ≡ b →
    (b || list_any (has_file file) rows) ≡ true
    → (closed_test file (change_row close_row row b) || list_any (closed_test file)
    (change_where (has_file file) close_row rows)) ≡ true) [
      | true ↦ λ own _. ap (λ b. b || list_any (closed_test file)
          (change_where (has_file file) close_row rows))
          (closed-now file row (own-some file row some own) own)
      | false ↦ λ _ any. elim (closed_test file row) as
          (λ b. (b || list_any (closed_test file)
          (change_where (has_file file) close_row rows)) ≡ true)
          [ true ↦ refl | false ↦ closed-later file rows some any ]
    ]) refl any

pub closed-after : (file : ℕ) (tree : List TreeRow) → IsUnclosedFile file tree
    → IsTrue (is_some (closed_file file (close_file file tree)))
closed-after file tree is =
    subst IsTrue (sym (closed-any file (close_file file tree)))
    (closed-later file tree is.some is.there)

no-source : source_refusal None ≡ None → ⊥
no-source none = let e : Some Not.Missing ≡ None = unfold source_refusal in none in cc

pub source-path : (next : ℕ) (from to : PathNames) (tree : List TreeRow)
    → rename_refusal (standing tree) from to ≡ None → HasTree next tree → IsPath from
unfolding rename_refusal
source-path next from to tree free h =
    let a = or-none _ _ free in
    let b = or-none _ _ a.1 in
    let c = or-none _ _ b.1 in
    let apart = if-none Not.IntoSelf (is_within from to) c.0 in
    one (kind_at (standing tree) from) refl b.0
    (λ e. true≢false (sym (ap (λ p. is_within p to) e) ∙ apart))
  where
    one : (o : Option NameKind) → kind_at (standing tree) from ≡ o → source_refusal o ≡ None
        → (from ≡ [] → ⊥) → IsPath from
    one None at none root = absurd (no-source none)
    one (Some kind) at none root = path-of next tree from kind h root at

pub without_file-back : (file : ℕ) (tree : List TreeRow) (other : ℕ)
    → IsTrue (file_stands other (take_file file tree)) → IsTrue (file_stands other tree)
unfolding take_file
without_file-back file tree other = filtered-back (λ row. not (has_file file row)) tree other
