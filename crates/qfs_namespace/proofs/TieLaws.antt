-- Files are known by number exactly where they stand in the tree, through each change.
use Rattle.std.proofs.Common.{Bool, List, None, [], ap, arith, false, map, not, refl, subst, suc, sym, true, true≢false, zero, ℕ, ◌==◌, ◌||◌, ◌+◌, ◌<◌, ◌^◌, ◌∙◌, ◌∷◌, ◌≡◌, ◌≢◌}
use Rattle.std.proofs.lemmas.Bool.{eqb-true, not-true, or_parts}
use Rattle.std.proofs.lemmas.Bool.Decides.{nat_tests}
use Rattle.std.specs.List.{list_any}
use Rattle.std.specs.Ordering.{is_eq, nat_cmp}
use Rattle.std.specs.Prelude.{IsTrue}
use Rattle.std.specs.declared.cmp.Ordering.TheVariants.{Equal}
use Rattle.qfs_base.specs.EachLaws.{each_filter, each_weaker}
use Rattle.qfs_base.specs.NameTree.{PathNames, add_refusal, look_refusal, rename_refusal, rmdir_refusal, added, renamed, taken}
use Rattle.qfs_base.specs.Path.{IsPath}
use Rattle.qfs_base.specs.Table.{Each, place, without}
use Rattle.qfs_base.specs.declared.image.TreeRow.{TreeRow}
use Rattle.qfs_laws_tables.specs.EachRow.{each_of_all, each_passes, each_place}
use Rattle.qfs_laws_tables.specs.Keys.{key-is}
use Rattle.qfs_laws_tables.specs.Placed.{any-placed}
use Rattle.qfs_laws_tables.specs.SomeRow.{any_each, any_filter, any_of_filter}
use Rattle.qfs_laws_tree.specs.Files.{closed-root, emptied-root, without_file-back}
use Rattle.qfs_laws_tree.specs.Move.{move-back, move-onward}
use Rattle.qfs_laws_tree.specs.Stands.{closing-back, closing-onward, directory-off, emptied-onward, removed-gone, removed-onward, taken-back, without_file-gone, without_file-onward}
use Rattle.qfs_laws_tree.specs.Tree.{HasTree}
use Rattle.qfs_laws_tree.specs.TreeChanges.{any-added, stands-any, stands-some, stands_test}
use Rattle.qfs_model_meta.specs.TreeRows.{add_row, close_file, directory_row, file_stands, has_file, is_closed, is_closed_row, is_unclosed, is_unclosed_row, kind_of, row_at, standing}
use Rattle.qfs_names.specs.ImageRows.{rows-added, rows-closed, rows-moved, rows-taken, rows-without_file}
use Rattle.qfs_names.specs.Names as names
use Rattle.qfs_names.specs.Trees.{as_row, maker_of, none_of}
use Rattle.qfs_names.specs.declared.row.NameRow.{NameRow}
use Rattle.qfs_namespace.specs.Joined.{known_cmp, is_known_as}
use Rattle.qfs_namespace.specs.Namespaces.{IsTied}
use Rattle.qfs_namespace.specs.declared.file.KnownFile.{KnownFile}
use Rattle.qfs_namespace.proofs.FindLaws.{stands-own}

-- two tests that imply each other agree
agree : (a b : Bool) → (a ≡ true → b ≡ true) → (b ≡ true → a ≡ true) → a ≡ b
agree true b there back = sym (there refl)
agree false true there back = back refl
agree false false there back = refl

-- an empty tree, of whose files none is known
pub tied-empty : IsTied [] [] 1
unfolding file_stands
tied-empty = record { stand = λ file. refl; numbers = tt; first = omega arith }

-- a row that is added to the tree stands beside what stood
stand-added : (new : NameRow) (rows : List NameRow) (file : ℕ)
    → add_refusal (standing (map as_row rows)) new.path ≡ None
    → file_stands file (map as_row (added names.row_path new rows))
    ≡ (stands_test file (as_row new) || file_stands file (map as_row rows))
stand-added new rows file free =
    ap (file_stands file) (rows-added maker_of none_of none_of new rows)
    ∙ stands-any file (add_row (as_row new) (map as_row rows))
    ∙ any-added (stands_test file) (as_row new) (map as_row rows) free
    ∙ sym (ap (λ b. stands_test file (as_row new) || b) (stands-any file (map as_row rows)))

-- nothing stands under the number 0
none-stands : (more : List TreeRow) → IsTrue (file_stands 0 more) → 0 < 0
none-stands more is =
    any_each (0 < 0) (λ _. Unit {0}) (stands_test 0) (λ row _ s. let p = stands-some 0 row s in omega arith) more
    (each_of_all _ (λ _. tt) more) (subst IsTrue (stands-any 0 more) is)

-- whether a file that was made is of a number
test-made : (file number : ℕ) (path : PathNames) → 0 < number
    → stands_test file (as_row (names.file_at path number)) ≡ is_eq (nat_cmp file number)
unfolding is_closed_row is_unclosed_row has_file kind_of is_closed is_unclosed
test-made file zero path some = absurd (omega arith)
test-made file (suc n) path some = refl

-- the rows of a tree in which a file doesn't stand are of others
pub none-of : (file : ℕ) → 0 < file → (rows : List NameRow)
    → list_any (stands_test file) (map as_row rows) ≡ false
    → Each (λ (row : NameRow). row.file ≢ file) rows
none-of file some [] off = tt
none-of file some (row ∷ rows) off =
    let p = or_parts _ _ off in (
      (λ is. true≢false (sym (ap (λ n. stands_test n (as_row row)) (sym is)
          ∙ stands-own row (subst (λ n. 0 < n) (sym is) some)) ∙ p.0)),
      none-of file some rows p.1,
    )

module _ (rows : List NameRow) (files : List KnownFile) (next : ℕ) (h : IsTied rows files next) where
  pub tied-directory : (path : PathNames) → add_refusal (standing (map as_row rows)) path ≡ None
      → IsTied (added names.row_path (names.directory_at path) rows) files next
  unfolding directory_row
  tied-directory path free = record {
    stand = λ file. h.stand file ∙ sym
        (stand-added (names.directory_at path) rows file free
        ∙ ap (λ b. b || file_stands file (map as_row rows)) (directory-off path file));
    numbers = h.numbers;
    first = h.first;
  }

  pub tied-file : (path : PathNames) (new : KnownFile) → add_refusal (standing (map as_row rows)) path ≡ None
      → new.file ≡ next → 0 < next
      → IsTied (added names.row_path (names.file_at path next) rows) (place known_cmp new files) (next + 1)
  tied-file path new free is some = record {
    stand = λ file.
        any-placed known_cmp (is_known_as file) new files
        (each_weaker (λ (row : KnownFile). row.file < next) _ (λ row below tie. one new.file row.file is below tie) files h.numbers)
        ∙ ap (λ b. is_known_as file new || b) (h.stand file)
        ∙ ap (λ b. b || file_stands file (map as_row rows))
        (ap (λ n. is_eq (nat_cmp file n)) is ∙ sym (test-made file next path some))
        ∙ sym (stand-added (names.file_at path next) rows file free);
    numbers = each_place (λ (row : KnownFile). row.file < next + 1) known_cmp new files (omega arith)
        (each_weaker (λ (row : KnownFile). row.file < next) _ (λ row below. omega arith) files h.numbers);
    first = omega (arith, h.first);
  }
    where
      one : (a b : ℕ) → a ≡ next → b < next → nat_cmp a b ≡ Equal → ⊥
      one a b at below tie =
          let e : b ≡ a = eqb-true b a (sym (key-is a b) ∙ ap is_eq tie) in omega arith

  module _ (tree : HasTree (2 ^ 32) (map as_row rows)) where
    pub tied-emptied : (path : PathNames) → rmdir_refusal (standing (map as_row rows)) path ≡ None
        → IsTied (taken names.row_path path rows) files next
    tied-emptied path free = record {
      stand = λ file. h.stand file
          ∙ agree _ _ (emptied-onward (2 ^ 32) path (map as_row rows) free
          (emptied-root (map as_row rows) path free) tree file).0
          (taken-back path (map as_row rows) file)
          ∙ sym (ap (file_stands file) (rows-taken maker_of none_of none_of path rows));
      numbers = h.numbers;
      first = h.first;
    }

    pub tied-closed : (file : ℕ) → IsTied (names.close_file file rows) files next
    tied-closed file = record {
      stand = λ other. h.stand other
          ∙ agree _ _ (closing-onward file (map as_row rows) other).0 (back other)
          ∙ sym (ap (file_stands other) (rows-closed maker_of none_of none_of file rows));
      numbers = h.numbers;
      first = h.first;
    }
      where
        back : (other : ℕ) → IsTrue (file_stands other (close_file file (map as_row rows)))
            → IsTrue (file_stands other (map as_row rows))
        back zero is = absurd (let s = none-stands (close_file file (map as_row rows)) is in omega arith)
        back (suc n) is = closing-back file (map as_row rows) (suc n) (omega arith) is

    pub tied-moved : (from to : PathNames) → IsPath to
        → rename_refusal (standing (map as_row rows)) from to ≡ None
        → IsTied (renamed names.row_path names.at_path from to rows) files next
    tied-moved from to is free = record {
      stand = λ file. h.stand file
          ∙ agree _ _ (move-onward from to (map as_row rows) (2 ^ 32) is free tree file).0
          (move-back from to (map as_row rows) (2 ^ 32) is free tree file)
          ∙ sym (ap (file_stands file) (rows-moved maker_of none_of none_of from to rows));
      numbers = h.numbers;
      first = h.first;
    }

    -- a file that is gone from both
    gone : (file : ℕ) (more : List NameRow)
        → ((other : ℕ) → (other == file) ≡ false → IsTrue (file_stands other (map as_row rows)) → IsTrue (file_stands other (map as_row more)))
        → ((other : ℕ) → IsTrue (file_stands other (map as_row more)) → IsTrue (file_stands other (map as_row rows)))
        → ((other : ℕ) → IsTrue (file_stands other (map as_row more)) → (other == file) ≡ false)
        → IsTied more (without (is_known_as file) files) next
    gone file more onward back off = record {
      stand = λ other. agree _ _
          (λ known. onward other (apart other known)
          (sym (h.stand other) ∙ any_of_filter (is_known_as other) (λ row. not (is_known_as file row)) files known))
          (λ stands. any_filter (is_known_as other) (λ row. not (is_known_as file row))
          (λ row is. kept other row (off other stands) is) files (h.stand other ∙ back other stands));
      numbers = each_filter (λ (row : KnownFile). row.file < next) (λ row. not (is_known_as file row)) files h.numbers;
      first = h.first;
    }
      where
        kept : (other : ℕ) (row : KnownFile) → (other == file) ≡ false → is_known_as other row ≡ true
            → not (is_known_as file row) ≡ true
        kept other row off is =
            let own : row.file ≡ other = eqb-true row.file other (sym (key-is other row.file) ∙ is) in
            ap not (key-is file row.file ∙ ap (λ n. n == file) own ∙ off)

        apart : (other : ℕ) → list_any (is_known_as other) (without (is_known_as file) files) ≡ true
            → (other == file) ≡ false
        apart other known =
            any_each ((other == file) ≡ false) (λ (row : KnownFile). not (is_known_as file row) ≡ true) (is_known_as other)
            (λ row keep is.
            let own : row.file ≡ other = eqb-true row.file other (sym (key-is other row.file) ∙ is) in
            ap (λ n. n == file) (sym own) ∙ sym (key-is file row.file) ∙ not-true _ keep)
            (without (is_known_as file) files)
            (each_passes (λ (row : KnownFile). not (is_known_as file row)) files) known

    pub tied-aborted : (file : ℕ) → IsTied (names.take_file file rows) (without (is_known_as file) files) next
    tied-aborted file =
        let e = rows-without_file maker_of none_of none_of file rows in
        gone file (names.take_file file rows)
        (λ other off stands. subst (λ t. IsTrue (file_stands other t)) (sym e)
        ((without_file-onward file (map as_row rows) other off).0 stands))
        (λ other stands. without_file-back file (map as_row rows) other
        (subst (λ t. IsTrue (file_stands other t)) e stands))
        (λ other stands. without_file-gone file (map as_row rows) other
        (subst (λ t. IsTrue (file_stands other t)) e stands))

    pub tied-removed : (path : PathNames) (file : ℕ) → look_refusal (standing (map as_row rows)) path ≡ None
        → (row_at (map as_row rows) path).file ≡ file
        → IsTied (taken names.row_path path rows) (without (is_known_as file) files) next
    tied-removed path file looks own =
        let e = rows-taken maker_of none_of none_of path rows in
        let root = closed-root (map as_row rows) path looks in
        gone file (taken names.row_path path rows)
        (λ other off stands. subst (λ t. IsTrue (file_stands other t)) (sym e)
        ((removed-onward (2 ^ 32) path file (map as_row rows) looks root own tree other off).0 stands))
        (λ other stands. taken-back path (map as_row rows) other
        (subst (λ t. IsTrue (file_stands other t)) e stands))
        (λ other stands. removed-gone (2 ^ 32) path file (map as_row rows) looks root own tree other
        (subst (λ t. IsTrue (file_stands other t)) e stands))

    -- what is gone leaves no row of it
    gone-rows : (file : ℕ) (more : List NameRow) → 0 < file
        → (IsTrue (file_stands file (map as_row more)) → (file == file) ≡ false)
        → Each (λ (row : NameRow). row.file ≢ file) more
    gone-rows file more some off =
        none-of file some more (one (list_any (stands_test file) (map as_row more)) refl)
      where
        one : (b : Bool) → list_any (stands_test file) (map as_row more) ≡ b → b ≡ false
        one true is =
            absurd (let o = off (stands-any file (map as_row more) ∙ is) in
            let same : (file == file) ≡ true = grind (arith, nat_tests) in
            true≢false (sym same ∙ o))
        one false is = refl

    pub aborted-rows : (file : ℕ) → 0 < file
        → Each (λ (row : NameRow). row.file ≢ file) (names.take_file file rows)
    aborted-rows file some =
        gone-rows file (names.take_file file rows) some
        (λ stands. without_file-gone file (map as_row rows) file
        (subst (λ t. IsTrue (file_stands file t)) (rows-without_file maker_of none_of none_of file rows) stands))

    pub removed-rows : (path : PathNames) (file : ℕ) → look_refusal (standing (map as_row rows)) path ≡ None
        → (row_at (map as_row rows) path).file ≡ file → 0 < file
        → Each (λ (row : NameRow). row.file ≢ file) (taken names.row_path path rows)
    removed-rows path file looks own some =
        gone-rows file (taken names.row_path path rows) some
        (λ stands. removed-gone (2 ^ 32) path file (map as_row rows) looks
        (closed-root (map as_row rows) path looks) own tree file
        (subst (λ t. IsTrue (file_stands file t)) (rows-taken maker_of none_of none_of path rows) stands))

  pub fresh-rows : 0 < next → Each (λ (row : NameRow). row.file ≢ next) rows
  fresh-rows some =
      none-of next some rows
      (sym (stands-any next (map as_row rows)) ∙ sym (h.stand next) ∙ none-known files h.numbers)
    where
      differs : (a b : ℕ) → b < a → (b == a) ≡ false
      differs a b less = grind (arith, nat_tests)

      none-known : (more : List KnownFile) → Each (λ (row : KnownFile). row.file < next) more
          → list_any (is_known_as next) more ≡ false
      none-known [] each = refl
      none-known (row ∷ more) each =
          let off : is_known_as next row ≡ false = key-is next row.file ∙ differs next row.file each.0 in
          ap (λ b. b || list_any (is_known_as next) more) off ∙ none-known more each.1
