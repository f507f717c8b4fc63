-- What is found of the joined tree: by a path, and by a file's number.
use Rattle.std.proofs.Common.{Bool, Bor, List, None, Option, Some, [], ap, arith, cond, false, find, is_some, map, refl, subst, suc, sym, true, true≢false, unwrap_or, zero, ℕ, ◌==◌, ◌||◌, ◌&&◌, ◌<◌, ◌^◌, ◌∙◌, ◌∷◌, ◌≡◌, ◌≢◌}
use Rattle.std.proofs.lemmas.Bool.{and_from, and_parts, eq-eqb, eqb-true, or_left}
use Rattle.std.proofs.lemmas.Bool.Decides.{nat_tests}
use Rattle.std.specs.List.{list_any}
use Rattle.std.specs.Option.{option_copied, option_map}
use Rattle.std.specs.Prelude.{IsSome}
use Rattle.qfs_base.specs.NameTree.{PathNames, look_refusal, stands_at}
use Rattle.qfs_base.specs.declared.image.TreeRow.{TreeRow}
use Rattle.qfs_base.specs.declared.lists.NameKind.TheVariants as Is
use Rattle.qfs_laws_tables.specs.EachRow.{each_of_all, found_has}
use Rattle.qfs_laws_tables.specs.Keys.{key-is}
use Rattle.qfs_laws_tables.specs.SomeRow.{found-any, some-any}
use Rattle.qfs_laws_tree.specs.Files.{closed-root, not-closed, unclosed-rows}
use Rattle.qfs_laws_tree.specs.Tree.{HasTree}
use Rattle.qfs_laws_tree.specs.TreeChanges.{stands-any, stands-some, stands_test}
use Rattle.qfs_laws_tree.specs.TreeFacts.{kind-row, look-closed}
use Rattle.qfs_model_meta.specs.TreeRows as image
use Rattle.qfs_names.specs.ImageRows.{with_maker}
use Rattle.qfs_names.specs.Names.{directory_at, is_open, is_open_of, of_file, row_at, row_kind, row_path}
use Rattle.qfs_names.specs.Trees.{as_row}
use Rattle.qfs_names.specs.declared.row.NameRow.{NameRow}
use Rattle.qfs_names.proofs.FindLaws.{find-mapped}
use Rattle.qfs_namespace.specs.Joined.{known_in, is_known_as, joined, joined_row, known_of, no_file}
use Rattle.qfs_namespace.specs.Namespaces.{IsTied}
use Rattle.qfs_namespace.specs.declared.file.KnownFile.{KnownFile}

own-key : (file : ℕ) (row : NameRow) → of_file file row ≡ true → row.file ≡ file
own-key file row is = eqb-true row.file file (sym (key-is file row.file) ∙ is)

-- a row of a closed file
abbrev pub closed_of : ℕ → NameRow → Bool
closed_of file row = image.is_closed (row_kind row) && of_file file row

found-passes : {X : Type 0} (test : X → Bool) (xs : List X) (x : X) → find test xs ≡ Some x → test x ≡ true
found-passes test xs x found =
    (found_has (λ _. Unit {0}) test xs x found (each_of_all _ (λ _. tt) xs)).1

found-own : (file : ℕ) (rows : List NameRow) (row : NameRow) → find (is_open_of file) rows ≡ Some row
    → row.file ≡ file
found-own file rows row found =
    own-key file row (and_parts _ _ (found-passes (is_open_of file) rows row found)).1

closed-own : (file : ℕ) (rows : List NameRow) (row : NameRow) → find (closed_of file) rows ≡ Some row
    → row.file ≡ file
closed-own file rows row found =
    own-key file row (and_parts _ _ (found-passes (closed_of file) rows row found)).1

any-rows : (test : TreeRow → Bool) (rows : List NameRow) → list_any (λ r. test (as_row r)) rows ≡ true
    → list_any test (map as_row rows) ≡ true
any-rows test [] any = any
any-rows test (row ∷ rows) any =
    elim (test (as_row row)) as (λ b. (b || list_any (λ r. test (as_row r)) rows) ≡ true
    → (b || list_any test (map as_row rows)) ≡ true) [
      | true ↦ λ _. refl
      | false ↦ any-rows test rows
    ] any

file-kind : (file : ℕ) (closed : Bool) → 0 < file
    → (image.is_closed (image.kind_of file closed) || image.is_unclosed (image.kind_of file closed)) ≡ true
unfolding image.kind_of image.is_closed image.is_unclosed
file-kind zero closed some = absurd (omega arith)
file-kind (suc n) true some = refl
file-kind (suc n) false some = refl

pub stands-own : (row : NameRow) → 0 < row.file → stands_test row.file (as_row row) ≡ true
unfolding image.is_closed_row image.is_unclosed_row image.has_file
stands-own row some =
    and_from _ _ (file-kind row.file row.closed some) (key-is row.file row.file ∙ eq-eqb _ _ refl)

closed-stands : (file : ℕ) (row : NameRow) → closed_of file row ≡ true → stands_test file (as_row row) ≡ true
unfolding image.is_closed_row image.is_unclosed_row image.has_file
closed-stands file row is =
    let closed = image.is_closed (row_kind row) in
    let p = and_parts closed (of_file file row) is in
    and_from (closed || is_open row) (of_file file row) (or_left closed (is_open row) p.0) p.1

open-row : (row : NameRow) → is_open row ≡ true → image.is_unclosed_row (as_row row) ≡ true
unfolding image.is_unclosed_row
open-row row is = is

-- nothing comes of nothing
either-none : {X Y : Type 0} (f : X → Y) (b : Bool) → cond b (option_map f None) None ≡ None
either-none f true = refl
either-none f false = refl

-- the unclosed file of an actor is the one found among joined rows, if it is the actor's
abbrev pub FindsOpen : List KnownFile → ℕ → ℕ → List NameRow → Type 0
FindsOpen files actor file rows =
    find (λ (row : TreeRow). image.is_unclosed_of actor row && image.has_file file row) (joined files rows)
    ≡ cond ((known_of files file).actor == actor)
    (option_map (joined_row files) (find (is_open_of file) rows)) None

open-step : (files : List KnownFile) (actor file : ℕ) (row : NameRow) (rows : List NameRow)
    → FindsOpen files actor file rows → FindsOpen files actor file (row ∷ rows)
unfolding image.is_unclosed_of image.is_unclosed_row image.has_file
open-step files actor file row rows rest =
    one (of_file file row) refl (is_open row) ((known_of files file).actor == actor) refl
  where
    and-false : (b : Bool) → (b && false) ≡ false
    and-false true = refl
    and-false false = refl

    last : (mine : Bool) → ((known_of files file).actor == actor) ≡ mine
        → cond (mine && true) (Some (joined_row files row))
        (find (λ (row : TreeRow). image.is_unclosed_of actor row && image.has_file file row) (joined files rows))
        ≡ cond mine (Some (joined_row files row)) None
    last true e = refl
    last false e =
        rest ∙ ap (λ b. cond b (option_map (joined_row files) (find (is_open_of file) rows)) None) e

    one : (own : Bool) → of_file file row ≡ own → (unclosed mine : Bool) → ((known_of files file).actor == actor) ≡ mine
        → cond ((unclosed && ((known_of files row.file).actor == actor)) && own) (Some (joined_row files row))
        (find (λ (row : TreeRow). image.is_unclosed_of actor row && image.has_file file row) (joined files rows))
        ≡ cond mine (option_map (joined_row files) (cond (unclosed && own) (Some row) (find (is_open_of file) rows))) None
    one false is unclosed mine e =
        ap (λ b. cond b (Some (joined_row files row)) (find (λ (row : TreeRow). image.is_unclosed_of actor row && image.has_file file row) (joined files rows)))
        (and-false (unclosed && ((known_of files row.file).actor == actor)))
        ∙ rest ∙ ap (λ b. cond b (option_map (joined_row files) (find (is_open_of file) rows)) None) e
        ∙ ap (λ b. cond mine (option_map (joined_row files) (cond b (Some row) (find (is_open_of file) rows))) None)
        (sym (and-false unclosed))
    one true is false mine e =
        rest ∙ ap (λ b. cond b (option_map (joined_row files) (find (is_open_of file) rows)) None) e
    one true is true mine e =
        let same : ((known_of files row.file).actor == actor) ≡ mine =
        ap (λ n. (known_of files n).actor == actor) (own-key file row is) ∙ e in
        ap (λ b. cond (b && true) (Some (joined_row files row)) (find (λ (row : TreeRow). image.is_unclosed_of actor row && image.has_file file row) (joined files rows)))
        same ∙ last mine e

open-rows : (files : List KnownFile) (actor file : ℕ) (rows : List NameRow)
    → FindsOpen files actor file rows
open-rows files actor file [] = sym (either-none (joined_row files) ((known_of files file).actor == actor))
open-rows files actor file (row ∷ rows) =
    open-step files actor file row rows (open-rows files actor file rows)

-- unclosed files among the rows of names alone
open-as : (file : ℕ) (rows : List NameRow)
    → find (λ (row : TreeRow). image.is_unclosed_row row && image.has_file file row) (map as_row rows)
    ≡ option_map as_row (find (is_open_of file) rows)
unfolding image.is_unclosed_row image.has_file
open-as file rows = find-mapped as_row (is_open_of file) _ rows (each_of_all _ (λ row. refl) rows)

-- closed files among joined rows, and among those of names alone
closed-joined : (files : List KnownFile) (file : ℕ) (rows : List NameRow)
    → image.closed_file file (joined files rows) ≡ option_map (joined_row files) (find (closed_of file) rows)
unfolding image.closed_file image.is_closed_row image.has_file
closed-joined files file rows =
    find-mapped (joined_row files) (closed_of file) _ rows (each_of_all _ (λ row. refl) rows)

closed-as : (file : ℕ) (rows : List NameRow)
    → image.closed_file file (map as_row rows) ≡ option_map as_row (find (closed_of file) rows)
unfolding image.closed_file image.is_closed_row image.has_file
closed-as file rows = find-mapped as_row (closed_of file) _ rows (each_of_all _ (λ row. refl) rows)

-- a file that stands, and isn't unclosed, is closed
closed-or-open : (file : ℕ) (rows : List NameRow) → list_any (stands_test file) (map as_row rows) ≡ true
    → find (is_open_of file) rows ≡ None → is_some (find (closed_of file) rows) ≡ true
unfolding image.is_closed_row image.is_unclosed_row image.has_file
closed-or-open file [] stands none = absurd (true≢false (sym stands))
closed-or-open file (row ∷ rows) stands none =
    (elim (image.is_closed (row_kind row)) as (λ c. ((c || is_open row) && of_file file row || list_any (stands_test file) (map as_row rows)) ≡ true
    → cond (is_open row && of_file file row) (Some row) (find (is_open_of file) rows) ≡ None
    → is_some (cond (c && of_file file row) (Some row) (find (closed_of file) rows)) ≡ true) [
      | true ↦ (elim (of_file file row) as (λ o. (o || list_any (stands_test file) (map as_row rows)) ≡ true
          → cond (is_open row && o) (Some row) (find (is_open_of file) rows) ≡ None
          → is_some (cond o (Some row) (find (closed_of file) rows)) ≡ true) [
            | true ↦ λ _ _. refl
            | false ↦ λ any none. closed-or-open file rows any (later (is_open row) none)
          ])
      | false ↦ (elim (is_open row && of_file file row) as (λ o. (o || list_any (stands_test file) (map as_row rows)) ≡ true
          → cond o (Some row) (find (is_open_of file) rows) ≡ None
          → is_some (find (closed_of file) rows) ≡ true) [
            | true ↦ λ _ none. absurd (cc)
            | false ↦ λ any none. closed-or-open file rows any none
          ])
    ]) stands none
  where
    later : (unclosed : Bool) → cond (unclosed && false) (Some row) (find (is_open_of file) rows) ≡ None
        → find (is_open_of file) rows ≡ None
    later true e = e
    later false e = e

-- whether there is a reference to what was found
pub seen-there : {T : Type 0} (o : Option T) (seen : Option (Bor T)) → option_copied seen ≡ o
    → is_some seen ≡ is_some o
seen-there o None is = ap is_some is
seen-there o (Some at) is = ap is_some is

-- what a look at a reference tells of what was found
pub seen-none : {T : Type 0} (f : NameRow → T) (o : Option NameRow) (seen : Option (Bor T))
    → option_copied seen ≡ option_map f o → is_some seen ≡ false → o ≡ None
seen-none f None seen is none = refl
seen-none f (Some row) None is none = absurd (cc)
seen-none f (Some row) (Some at) is none = absurd (true≢false none)

pub seen-some : {T : Type 0} (f : NameRow → T) (o : Option NameRow) (seen : Option (Bor T))
    → option_copied seen ≡ option_map f o → is_some seen ≡ true → (row : NameRow) × (o ≡ Some row)
seen-some f (Some row) seen is some = (row, refl)
seen-some f None None is some = absurd (true≢false (sym some))
seen-some f None (Some at) is some = absurd (cc)

-- ---- by a path

pub found-at : (files : List KnownFile) (path : PathNames) (rows : List NameRow)
    → find (stands_at image.row_path path) (joined files rows)
    ≡ option_map (joined_row files) (find (stands_at row_path path) rows)
found-at files path rows =
    find-mapped (joined_row files) (stands_at row_path path) (stands_at image.row_path path) rows
    (each_of_all _ (λ row. refl) rows)

-- the file at a path, as the rows of names and those of an image tell it
pub at-as : (path : PathNames) (rows : List NameRow)
    → (image.row_at (map as_row rows) path).file ≡ (row_at rows path).file
unfolding image.row_at image.directory_row
at-as path rows =
    ap (λ o. (unwrap_or o (image.directory_row [])).file)
    (find-mapped as_row (stands_at row_path path) (stands_at image.row_path path) rows
    (each_of_all _ (λ row. refl) rows))
    ∙ one (find (stands_at row_path path) rows)
  where
    one : (o : Option NameRow) → (unwrap_or (option_map as_row o) (image.directory_row [])).file
        ≡ (unwrap_or o (directory_at [])).file
    one None = refl
    one (Some row) = refl

-- a closed file has a number, and so has an unclosed one
closed-number : (file : ℕ) (closed : Bool) → image.kind_of file closed ≡ Is.Closed → 0 < file
unfolding image.kind_of
closed-number zero closed e = absurd (cc)
closed-number (suc n) closed e = omega arith

pub looked-number : (path : PathNames) (rows : List NameRow)
    → look_refusal (image.standing (map as_row rows)) path ≡ None
    → 0 < (image.row_at (map as_row rows) path).file
unfolding image.row_at
looked-number path rows looks =
    let k = kind-row (map as_row rows) path Is.Closed (closed-root (map as_row rows) path looks)
    (look-closed (image.standing (map as_row rows)) path looks) in
    subst (λ n. 0 < n) (ap (λ o. (unwrap_or o (image.directory_row [])).file) (sym k.1))
    (closed-number k.0.file k.0.closed k.3)

open-number : (file : ℕ) (closed : Bool) → image.is_unclosed (image.kind_of file closed) ≡ true → 0 < file
unfolding image.kind_of image.is_unclosed
open-number zero closed is = absurd (cc)
open-number (suc n) closed is = omega arith

pub open-some : (file : ℕ) (rows : List NameRow) → IsSome (find (is_open_of file) rows) → 0 < file
open-some file rows some = one (find (is_open_of file) rows) refl some
  where
    one : (o : Option NameRow) → find (is_open_of file) rows ≡ o → IsSome o → 0 < file
    one None e is = absurd (true≢false (sym is))
    one (Some row) e is =
        subst (λ n. 0 < n) (found-own file rows row e)
        (open-number row.file row.closed (and_parts _ _ (found-passes (is_open_of file) rows row e)).0)

-- ---- what stands

stands-with : (actor command len : ℕ → ℕ) (file : ℕ) (rows : List NameRow)
    → list_any (stands_test file) (map (with_maker actor command len) rows)
    ≡ list_any (stands_test file) (map as_row rows)
unfolding image.is_closed_row image.is_unclosed_row image.has_file
stands-with actor command len file [] = refl
stands-with actor command len file (row ∷ rows) =
    ap (λ b. stands_test file (as_row row) || b) (stands-with actor command len file rows)

pub stands-joined : (files : List KnownFile) (file : ℕ) (rows : List NameRow)
    → image.file_stands file (joined files rows) ≡ image.file_stands file (map as_row rows)
stands-joined files file rows =
    stands-any file (joined files rows)
    ∙ stands-with (λ file. (known_of files file).actor) (λ file. (known_of files file).command)
    (λ file. (known_of files file).len) file rows
    ∙ sym (stands-any file (map as_row rows))

-- nothing stands under the number 0
any-some : (more : List NameRow) → list_any (stands_test 0) (map as_row more) ≡ true → 0 < 0
any-some [] any = absurd (true≢false (sym any))
any-some (row ∷ more) any =
    (elim (stands_test 0 (as_row row)) as (λ b. stands_test 0 (as_row row) ≡ b
    → (b || list_any (stands_test 0) (map as_row more)) ≡ true → 0 < 0) [
      | true ↦ λ is _. let s = stands-some 0 (as_row row) is in omega arith
      | false ↦ λ _ rest. any-some more rest
    ]) refl any

-- what is known of a file has its number, where the file stands or is none
module _ (rows : List NameRow) (files : List KnownFile) (next : ℕ) (h : IsTied rows files next) where
  pub known-none : (file : ℕ) → image.file_stands file (map as_row rows) ≡ false
      → find (is_known_as file) files ≡ None
  known-none file off =
      none-of (find (is_known_as file) files) (some-any (is_known_as file) files ∙ h.stand file ∙ off)
    where
      none-of : (o : Option KnownFile) → is_some o ≡ false → o ≡ None
      none-of None e = refl
      none-of (Some x) e = absurd (true≢false e)

  pub known-number : (file : ℕ) → image.file_stands file (map as_row rows) ≡ true
      → (known_of files file).file ≡ file
  known-number file stands = one (find (is_known_as file) files) refl
      (some-any (is_known_as file) files ∙ h.stand file ∙ stands)
    where
      one : (o : Option KnownFile) → find (is_known_as file) files ≡ o → is_some o ≡ true
          → (unwrap_or o no_file).file ≡ file
      one None e is = absurd (true≢false (sym is))
      one (Some x) e is =
          eqb-true x.file file (sym (key-is file x.file)
          ∙ (found_has (λ _. Unit {0}) (is_known_as file) files x e (each_of_all _ (λ _. tt) files)).1)

  -- nothing stands under the number 0, and nothing is known of it
  pub zero-known : known_of files 0 ≡ no_file
  zero-known = ap (λ o. unwrap_or o no_file) (known-none 0 (off (image.file_stands 0 (map as_row rows)) refl))
    where
      off : (b : Bool) → image.file_stands 0 (map as_row rows) ≡ b → b ≡ false
      off true is = absurd (let s = any-some rows (sym (stands-any 0 (map as_row rows)) ∙ is) in omega arith)
      off false is = refl

  -- a row with what is known of its file, which has its number
  known-row : (row : NameRow) → (known_of files row.file).file ≡ row.file
      → known_of files row.file ≡ known_in (joined_row files row)
  known-row row number =
      (λ i. record {
        file = number i;
        actor = (known_of files row.file).actor;
        command = (known_of files row.file).command;
        len = (known_of files row.file).len;
      })

  found-number : (test : NameRow → Bool) (row : NameRow) → find test rows ≡ Some row
      → (known_of files row.file).file ≡ row.file
  found-number test row found = one row.file refl
    where
      one : (file : ℕ) → row.file ≡ file → (known_of files row.file).file ≡ row.file
      one zero is = ap (λ n. (known_of files n).file) is ∙ ap (λ (k : KnownFile). k.file) zero-known ∙ sym is
      one (suc n) is =
          known-number row.file
          (stands-any row.file (map as_row rows)
          ∙ any-rows (stands_test row.file) rows
          (found-any test (λ r. stands_test row.file (as_row r)) rows row found
          (stands-own row (subst (λ n. 0 < n) (sym is) (omega arith)))))

  pub known-found : (test : NameRow → Bool) (row : NameRow) → find test rows ≡ Some row
      → known_of files row.file ≡ known_in (joined_row files row)
  known-found test row found = known-row row (found-number test row found)

  pub known-at : (path : PathNames)
      → known_of files (row_at rows path).file ≡ known_in (image.row_at (joined files rows) path)
  unfolding image.row_at image.directory_row
  known-at path =
      one (find (stands_at row_path path) rows) refl
      ∙ sym (ap (λ o. known_in (unwrap_or o (image.directory_row []))) (found-at files path rows))
    where
      one : (o : Option NameRow) → find (stands_at row_path path) rows ≡ o
          → known_of files (unwrap_or o (directory_at [])).file
          ≡ known_in (unwrap_or (option_map (joined_row files) o) (image.directory_row []))
      one None e = zero-known
      one (Some row) e = known-found (stands_at row_path path) row e

  -- ---- unclosed files

  pub unclosed-joined : (actor file : ℕ)
      → image.unclosed_file actor file (joined files rows)
      ≡ cond ((known_of files file).actor == actor)
      (option_map (joined_row files) (find (is_open_of file) rows)) None
  unfolding image.unclosed_file
  unclosed-joined actor file = open-rows files actor file rows

  pub unclosed-known : (actor file : ℕ) (row : NameRow) → find (is_open_of file) rows ≡ Some row
      → (known_of files file).actor ≡ actor
      → Some (known_of files file) ≡ option_map known_in (image.unclosed_file actor file (joined files rows))
  unclosed-known actor file row found own =
      let mine : ((known_of files file).actor == actor) ≡ true = eq-eqb _ _ own in
      let is : row.file ≡ file = found-own file rows row found in
      sym (ap (option_map known_in) (unclosed-joined actor file
      ∙ ap (λ b. cond b (option_map (joined_row files) (find (is_open_of file) rows)) None) mine
      ∙ ap (option_map (joined_row files)) found)
      ∙ ap Some (sym (known-found (is_open_of file) row found) ∙ ap (known_of files) is))

  pub unclosed-other : (actor file : ℕ)
      → (known_of files file).actor ≢ actor
      → image.unclosed_file actor file (joined files rows) ≡ None
  unclosed-other actor file other =
      unclosed-joined actor file ∙ ap (λ b. cond b (option_map (joined_row files) (find (is_open_of file) rows)) None)
      (let off : ((known_of files file).actor == actor) ≡ false = grind (arith, nat_tests) in off)

  pub unclosed-none : (actor file : ℕ) → find (is_open_of file) rows ≡ None
      → image.unclosed_file actor file (joined files rows) ≡ None
  unclosed-none actor file none =
      unclosed-joined actor file
      ∙ ap (λ o. cond ((known_of files file).actor == actor) (option_map (joined_row files) o) None) none
      ∙ either-none (joined_row files) ((known_of files file).actor == actor)

  -- ---- closed files

  pub closed-found : (file : ℕ) (row : NameRow) → find (closed_of file) rows ≡ Some row
      → Some (known_of files file) ≡ option_map known_in (image.closed_file file (joined files rows))
  closed-found file row found =
      let is : row.file ≡ file = closed-own file rows row found in
      sym (ap (option_map known_in) (closed-joined files file rows ∙ ap (option_map (joined_row files)) found)
      ∙ ap Some (sym (known-found (closed_of file) row found) ∙ ap (known_of files) is))

  -- a file that is known and not unclosed is closed
  pub closed-known : (file : ℕ) (x : KnownFile) → find (is_known_as file) files ≡ Some x
      → find (is_open_of file) rows ≡ None
      → Some x ≡ option_map known_in (image.closed_file file (joined files rows))
  closed-known file x known none = one (find (closed_of file) rows) refl
    where
      stands : list_any (stands_test file) (map as_row rows) ≡ true
      stands = sym (stands-any file (map as_row rows)) ∙ sym (h.stand file)
          ∙ sym (some-any (is_known_as file) files) ∙ ap is_some known

      one : (o : Option NameRow) → find (closed_of file) rows ≡ o
          → Some x ≡ option_map known_in (image.closed_file file (joined files rows))
      one None e = absurd (true≢false (sym (closed-or-open file rows stands none) ∙ ap is_some e))
      one (Some row) e = sym (ap (λ o. Some (unwrap_or o no_file)) known) ∙ closed-found file row e

  pub closed-unknown : (file : ℕ) → find (is_known_as file) files ≡ None
      → image.closed_file file (joined files rows) ≡ None
  closed-unknown file none =
      closed-joined files file rows ∙ ap (option_map (joined_row files)) (one (find (closed_of file) rows) refl)
    where
      off : list_any (stands_test file) (map as_row rows) ≡ false
      off = sym (stands-any file (map as_row rows)) ∙ sym (h.stand file)
          ∙ sym (some-any (is_known_as file) files) ∙ ap is_some none

      one : (o : Option NameRow) → find (closed_of file) rows ≡ o → o ≡ None
      one None e = refl
      one (Some row) e =
          absurd (true≢false (sym (any-rows (stands_test file) rows
          (found-any (closed_of file) (λ r. stands_test file (as_row r)) rows row e
          (closed-stands file row (found-passes (closed_of file) rows row e)))) ∙ off))

  pub closed-open : HasTree (2 ^ 32) (map as_row rows) → (file : ℕ) (row : NameRow)
      → find (is_open_of file) rows ≡ Some row
      → image.closed_file file (joined files rows) ≡ None
  closed-open tree file row found =
      closed-joined files file rows ∙ ap (option_map (joined_row files)) (none (find (closed_of file) rows) refl)
    where
      there : find (λ (row : TreeRow). image.is_unclosed_row row && image.has_file file row) (map as_row rows)
          ≡ Some (as_row row)
      there = open-as file rows ∙ ap (option_map as_row) found

      none : (o : Option NameRow) → find (closed_of file) rows ≡ o → o ≡ None
      none None e = refl
      none (Some other) e =
          let unclosed = unclosed-rows (2 ^ 32) file
          (λ (row : TreeRow). image.is_unclosed_row row && image.has_file file row)
          (map as_row rows) (as_row row) tree there (found-own file rows row found)
          (open-row row (and_parts _ _ (found-passes (is_open_of file) rows row found)).0) in
          absurd (true≢false (sym (ap is_some (closed-as file rows ∙ ap (option_map as_row) e))
          ∙ not-closed file (map as_row rows) unclosed.0))

  -- an unclosed file of an actor is one of the unclosed rows
  pub open-there : (actor file : ℕ) → IsSome (image.unclosed_file actor file (joined files rows))
      → IsSome (find (is_open_of file) rows)
  open-there actor file unclosed = one (find (is_open_of file) rows) refl
    where
      one : (o : Option NameRow) → find (is_open_of file) rows ≡ o → IsSome o
      one None e = absurd (true≢false (sym unclosed ∙ ap is_some (unclosed-none actor file e)))
      one (Some row) e = refl
