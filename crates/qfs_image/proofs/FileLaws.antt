-- The files of a tree by number: what is found there is what the rules of an image ask of the tree.
use Rattle.std.proofs.Common.{◌≡◌, ◌∙◌, refl, sym, ap, subst, arith, ℕ, zero, suc, ◌+◌, ◌<◌, ◌≤◌, Bool, true, false, cond, not, ◌&&◌, ◌||◌, ◌==◌, List, [], ◌∷◌, length, drop, get_or, Option, Some, None}
use Rattle.std.specs.Prelude.{nat_eq, nat_lt, is_some}
use Rattle.std.specs.Cmp.{nat_cmp_total}
use Rattle.std.specs.List.{list_all, list_any}
use Rattle.std.specs.Ordering.{nat_cmp}
use Rattle.std.proofs.lemmas.Bool.{eqb-true, eqb-false, lt-ltb, ne_eqb}
use Rattle.std.proofs.lemmas.List.{at_drop_all, at_drop_more}
use Rattle.qfs_base.specs.KeyMap.{has_key, value_at, with_entry}
use Rattle.qfs_base.specs.KeyMapLaws.{value_at-with_entry}
use Rattle.qfs_base.specs.declared.image.TreeRow.{TreeRow}
use Rattle.qfs_laws_tables.specs.Keys.{key-is}
use Rattle.qfs_laws_tree.specs.TreeChanges.{closed-any, closed_test, stands-any, stands_test}
use Rattle.qfs_model_disks.specs.Tests.{are_distinct}
use Rattle.qfs_model_meta.specs.Grammar.{files_in}
use Rattle.qfs_model_meta.specs.TreeRows.{closed_file, file_stands, has_file, is_closed, is_closed_row, is_unclosed, is_unclosed_row, kind_of}
use Rattle.qfs_image.specs.Files.{Files, is_closed_in, with_files}

-- ---- a file more

pub at-with : {V : Type 0} (entries : List (ℕ × V)) (k : ℕ) (v : V) (file : ℕ) → value_at nat_cmp (with_entry nat_cmp entries k v) file ≡ cond (k == file) (Some v) (value_at nat_cmp entries file)
at-with entries k v file =
    value_at-with_entry nat_cmp_total entries k v file
    ∙ ap (λ b. cond b (Some v) (value_at nat_cmp entries file)) (key-is file k)

some_if : {V : Type 0} (b : Bool) (v : V) (o : Option V) → is_some (cond b (Some v) o) ≡ (b || is_some o)
some_if true v o = refl
some_if false v o = refl

-- ---- rows of files, and of directories

skipped : (row : TreeRow) (rows : List TreeRow) → row.file ≡ 0 → files_in (row ∷ rows) ≡ files_in rows
unfolding files_in
skipped row rows none = rw none refl

kept : (row : TreeRow) (rows : List TreeRow) → (row.file == 0) ≡ false → files_in (row ∷ rows) ≡ row.file ∷ files_in rows
unfolding files_in
kept row rows some =
    let above : nat_lt 0 row.file ≡ true = lt-ltb 0 row.file (omega (arith, eqb-false row.file 0 some)) in
    rw above refl

closed_kind : (file : ℕ) (closed : Bool) → (file == 0) ≡ false → is_closed (kind_of file closed) ≡ closed
unfolding kind_of is_closed
closed_kind zero closed some = absurd cc
closed_kind (suc n) true some = refl
closed_kind (suc n) false some = refl

file_kind : (file : ℕ) (closed : Bool) → (file == 0) ≡ false → (is_closed (kind_of file closed) || is_unclosed (kind_of file closed)) ≡ true
unfolding kind_of is_closed is_unclosed
file_kind zero closed some = absurd cc
file_kind (suc n) true some = refl
file_kind (suc n) false some = refl

no_kind : (file : ℕ) (closed : Bool) → file ≡ 0 → (is_closed (kind_of file closed) ≡ false) × (is_unclosed (kind_of file closed) ≡ false)
unfolding kind_of is_closed is_unclosed
no_kind zero closed none = (refl, refl)
no_kind (suc n) closed none = absurd (omega (arith, none))

stands_row : (file : ℕ) (row : TreeRow) → (row.file == 0) ≡ false → stands_test file row ≡ (row.file == file)
unfolding is_closed_row is_unclosed_row has_file
stands_row file row some = rw (file_kind row.file row.closed some) (key-is file row.file)

closed_row : (file : ℕ) (row : TreeRow) → (row.file == 0) ≡ false → closed_test file row ≡ (row.closed && (row.file == file))
unfolding is_closed_row has_file
closed_row file row some = rw (closed_kind row.file row.closed some) (ap (λ b. row.closed && b) (key-is file row.file))

no_row : (file : ℕ) (row : TreeRow) → row.file ≡ 0 → (stands_test file row ≡ false) × (closed_test file row ≡ false)
unfolding is_closed_row is_unclosed_row
no_row file row none =
    let k = no_kind row.file row.closed none in
    (rw (k.0, k.1) refl, rw k.0 refl)

-- ---- each file once

none_has : (rest : List ℕ) → list_all (λ file. not (has_key {V = Bool} nat_cmp [] file)) rest ≡ true
none_has [] = refl
none_has (file ∷ rest) = none_has rest

moved_in : (e h A n : Bool) → (not (e || h) && (A && not n)) ≡ ((not h && A) && not (e || n))
moved_in true true A n = refl
moved_in true false true n = refl
moved_in true false false n = refl
moved_in false true A n = refl
moved_in false false A n = refl

fresh_with : (files : Files) (k : ℕ) (closed : Bool) (rest : List ℕ)
    → list_all (λ file. not (has_key nat_cmp (with_entry nat_cmp files k closed) file)) rest
    ≡ (list_all (λ file. not (has_key nat_cmp files file)) rest && not (list_any (nat_eq k) rest))
fresh_with files k closed [] = refl
fresh_with files k closed (file ∷ rest) =
    let has : has_key nat_cmp (with_entry nat_cmp files k closed) file ≡ ((k == file) || has_key nat_cmp files file) =
    ap is_some (at-with files k closed file) ∙ some_if (k == file) closed (value_at nat_cmp files file) in
    rw (has, fresh_with files k closed rest)
    (moved_in (k == file) (has_key nat_cmp files file) (list_all (λ file. not (has_key nat_cmp files file)) rest) (list_any (nat_eq k) rest))

assoc : (A B D : Bool) → ((A && B) && D) ≡ (A && (B && D))
assoc true B D = refl
assoc false B D = refl

found_distinct : (files : Files) (rows : List TreeRow)
    → is_some (with_files files rows) ≡ (list_all (λ file. not (has_key nat_cmp files file)) (files_in rows) && are_distinct (files_in rows))
unfolding with_files are_distinct
found_distinct files [] = unfold files_in in refl
found_distinct files (row ∷ rows) =
    elim (row.file == 0) as (λ b. (row.file == 0) ≡ b
    → is_some (cond b (with_files files rows) (cond (has_key nat_cmp files row.file) None (with_files (with_entry nat_cmp files row.file row.closed) rows)))
    ≡ (list_all (λ file. not (has_key nat_cmp files file)) (files_in (row ∷ rows)) && are_distinct (files_in (row ∷ rows)))) [
      | true ↦ λ none. rw (skipped row rows (eqb-true row.file 0 none)) (found_distinct files rows)
      | false ↦ λ some. rw (kept row rows some) (elim (has_key nat_cmp files row.file) as (λ h.
          is_some (cond h None (with_files (with_entry nat_cmp files row.file row.closed) rows))
          ≡ ((not h && list_all (λ file. not (has_key nat_cmp files file)) (files_in rows)) && (not (list_any (nat_eq row.file) (files_in rows)) && are_distinct (files_in rows)))) [
            | true ↦ refl
            | false ↦
                found_distinct (with_entry nat_cmp files row.file row.closed) rows
                ∙ ap (λ b. b && are_distinct (files_in rows)) (fresh_with files row.file row.closed (files_in rows))
                ∙ assoc (list_all (λ file. not (has_key nat_cmp files file)) (files_in rows)) (not (list_any (nat_eq row.file) (files_in rows))) (are_distinct (files_in rows))
          ])
    ] refl

pub once_each : (tree : List TreeRow) → is_some (with_files [] tree) ≡ are_distinct (files_in tree)
once_each tree = found_distinct [] tree ∙ ap (λ b. b && are_distinct (files_in tree)) (none_has (files_in tree))

-- ---- what is found

-- files tell which stand, and which of these are closed
abbrev Tells : Option Bool → Option Bool → ℕ → List TreeRow → Type 0
Tells now old file rows =
    (is_some now ≡ (is_some old || list_any (stands_test file) rows))
    × (is_closed_in now ≡ (is_closed_in old || list_any (closed_test file) rows))

or_false : (b : Bool) → (b || false) ≡ b
or_false true = refl
or_false false = refl

told_nothing : (o : Option Bool) (file : ℕ) → Tells o o file []
told_nothing o file = (sym (or_false (is_some o)), sym (or_false (is_closed_in o)))

told_here : (e c : Bool) (o : Option Bool) (A B : Bool) → (e ≡ true → o ≡ None)
    → ((is_some (cond e (Some c) o) || A) ≡ (is_some o || (e || A))) × ((is_closed_in (cond e (Some c) o) || B) ≡ (is_closed_in o || ((c && e) || B)))
unfolding is_closed_in
told_here true true None A B fresh = (refl, refl)
told_here true false None A B fresh = (refl, refl)
told_here true c (Some d) A B fresh = let none = fresh refl in absurd cc
told_here false true o A B fresh = (refl, refl)
told_here false false o A B fresh = (refl, refl)

has_none : {V : Type 0} (o : Option V) → is_some o ≡ false → o ≡ None
has_none None is = refl
has_none (Some v) is = absurd cc

found_tells : (files found : Files) (rows : List TreeRow) (file : ℕ) → with_files files rows ≡ Some found
    → Tells (value_at nat_cmp found file) (value_at nat_cmp files file) file rows
unfolding with_files
found_tells files found [] file is =
    let same : files ≡ found = cc in
    subst (λ (all : Files). Tells (value_at nat_cmp all file) (value_at nat_cmp files file) file []) same (told_nothing (value_at nat_cmp files file) file)
found_tells files found (row ∷ rows) file is =
    (elim (row.file == 0) as (λ b. (row.file == 0) ≡ b
    → cond b (with_files files rows) (cond (has_key nat_cmp files row.file) None (with_files (with_entry nat_cmp files row.file row.closed) rows)) ≡ Some found
    → Tells (value_at nat_cmp found file) (value_at nat_cmp files file) file (row ∷ rows)) [
      | true ↦ λ none is. directory (eqb-true row.file 0 none) (found_tells files found rows file is)
      | false ↦ λ some is. (elim (has_key nat_cmp files row.file) as (λ h. has_key nat_cmp files row.file ≡ h
          → cond h None (with_files (with_entry nat_cmp files row.file row.closed) rows) ≡ Some found
          → Tells (value_at nat_cmp found file) (value_at nat_cmp files file) file (row ∷ rows)) [
            | true ↦ λ has is. absurd cc
            | false ↦ λ has is. a_file some has (found_tells (with_entry nat_cmp files row.file row.closed) found rows file is)
          ]) refl is
    ]) refl is
  where
    directory : row.file ≡ 0 → Tells (value_at nat_cmp found file) (value_at nat_cmp files file) file rows → Tells (value_at nat_cmp found file) (value_at nat_cmp files file) file (row ∷ rows)
    directory none tells = let no = no_row file row none in rw (no.0, no.1) tells

    a_file : (row.file == 0) ≡ false → has_key nat_cmp files row.file ≡ false
        → Tells (value_at nat_cmp found file) (value_at nat_cmp (with_entry nat_cmp files row.file row.closed) file) file rows
        → Tells (value_at nat_cmp found file) (value_at nat_cmp files file) file (row ∷ rows)
    a_file some has tells =
        let at = at-with files row.file row.closed file in
        let fresh : (row.file == file) ≡ true → value_at nat_cmp files file ≡ None =
        (λ e. has_none (value_at nat_cmp files file) (ap (has_key nat_cmp files) (sym (eqb-true row.file file e)) ∙ has)) in
        let here = told_here (row.file == file) row.closed (value_at nat_cmp files file) (list_any (stands_test file) rows) (list_any (closed_test file) rows) fresh in (
          tells.0 ∙ ap (λ (o : Option Bool). is_some o || list_any (stands_test file) rows) at ∙ here.0
              ∙ ap (λ b. is_some (value_at nat_cmp files file) || (b || list_any (stands_test file) rows)) (sym (stands_row file row some)),
          tells.1 ∙ ap (λ (o : Option Bool). is_closed_in o || list_any (closed_test file) rows) at ∙ here.1
              ∙ ap (λ b. is_closed_in (value_at nat_cmp files file) || (b || list_any (closed_test file) rows)) (sym (closed_row file row some)),
        )

-- the files of a tree are found, and whether they are closed
pub files_found : (tree : List TreeRow) (found : Files) → with_files [] tree ≡ Some found → (file : ℕ)
    → (has_key nat_cmp found file ≡ file_stands file tree) × (is_closed_in (value_at nat_cmp found file) ≡ is_some (closed_file file tree))
unfolding is_closed_in
files_found tree found is file =
    let tells = found_tells [] found tree file is in
    (tells.0 ∙ sym (stands-any file tree), tells.1 ∙ sym (closed-any file tree))

-- ---- in the loop over the rows

file_step : (files : Files) (tree : List TreeRow) (i : ℕ) (row : TreeRow) → i < length tree → row ≡ get_or tree i row
    → with_files files (drop i tree) ≡ with_files files (row ∷ drop (i + 1) tree)
file_step files tree i row inside at =
    at_drop_more (with_files files) tree i row inside ∙ ap (λ (r : TreeRow). with_files files (r ∷ drop (i + 1) tree)) (sym at)

pub step_over : (files : Files) (tree : List TreeRow) (i : ℕ) (row : TreeRow) → i < length tree → row ≡ get_or tree i row → row.file ≡ 0
    → with_files files (drop (i + 1) tree) ≡ with_files files (drop i tree)
unfolding with_files
step_over files tree i row inside at none = sym (file_step files tree i row inside at ∙ (rw none refl))

pub step_known : (files : Files) (tree : List TreeRow) (i : ℕ) (row : TreeRow) → i < length tree → row ≡ get_or tree i row → (row.file ≡ 0 → ⊥)
    → true ≡ has_key nat_cmp files row.file → None ≡ with_files files (drop i tree)
unfolding with_files
step_known files tree i row inside at some has = sym (file_step files tree i row inside at ∙ (rw (ne_eqb row.file 0 some, sym has) refl))

pub step_put : (files : Files) (tree : List TreeRow) (i : ℕ) (row : TreeRow) → i < length tree → row ≡ get_or tree i row → (row.file ≡ 0 → ⊥)
    → false ≡ has_key nat_cmp files row.file → with_files (with_entry nat_cmp files row.file row.closed) (drop (i + 1) tree) ≡ with_files files (drop i tree)
unfolding with_files
step_put files tree i row inside at some has = sym (file_step files tree i row inside at ∙ (rw (ne_eqb row.file 0 some, sym has) refl))

pub files_end : (files : Files) (tree : List TreeRow) (i : ℕ) → length tree ≤ i → Some files ≡ with_files files (drop i tree)
unfolding with_files
files_end files tree i past = sym (at_drop_all (with_files files) tree i past)
