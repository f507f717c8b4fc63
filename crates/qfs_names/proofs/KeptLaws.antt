-- What the tree is made of stays so through each of its changes. For the calls that make them.
use Rattle.std.proofs.Common.{◌∷◌, List, None, Option, Some, ap, arith, false, find, map, not, refl, subst, sym, true≢false, ℕ, ◌+◌, ◌<◌, ◌^◌, ◌∙◌, ◌≡◌, ◌≢◌, ◌≤◌, []}
use Rattle.std.specs.Option.{option_map}
use Rattle.std.specs.Ordering.{is_eq}
use Rattle.std.specs.declared.cmp.Ordering.TheVariants.{Equal}
use Rattle.qfs_base.specs.EachLaws.{each_weaker}
use Rattle.qfs_base.specs.NameTree.{PathNames, add_refusal, added, look_refusal, path_cmp, path_eq, Standing, rename_refusal, renamed, rmdir_refusal, row_cmp, taken}
use Rattle.qfs_base.specs.Path.{IsPath}
use Rattle.qfs_base.specs.Table.{Each, change_where, place, place_all, without}
use Rattle.qfs_base.specs.declared.image.TreeEntry.{TreeEntry}
use Rattle.qfs_base.specs.declared.image.TreeRow.{TreeRow}
use Rattle.qfs_model_meta.specs.Grammar.{IsTree}
use Rattle.qfs_base.specs.declared.lists.NameKind.TheVariants as Is
use Rattle.qfs_model_meta.specs.TreeRows as image
use Rattle.qfs_model_meta.specs.TreeRows.{is_unclosed}
use Rattle.qfs_laws_tables.specs.EachRow.{each_of_all, each_of_map, found_has}
use Rattle.qfs_laws_tables.specs.Placed.{Apart}
use Rattle.qfs_laws_tree.specs.Files.{closed-root, emptied-root}
use Rattle.qfs_laws_tree.specs.Move.{move-tree}
use Rattle.qfs_laws_tree.specs.Tree.{HasTree, tree-of}
use Rattle.qfs_laws_tree.specs.TreeChanges.{tree-closed, tree-emptied, tree-removed, tree-without_file}
use Rattle.qfs_laws_tree.specs.TreeFacts.{add-free, look-closed, none-at, rmdir-empty}
use Rattle.qfs_names.proofs.FindLaws.{change-agree, filter-agree}
use Rattle.qfs_names.proofs.IndexLaws.{index-closed, index-directory, index-file, index-taken, index-without, number-is, open-some, own-rows}
use Rattle.qfs_names.proofs.MoveLaws.{index-moved}
use Rattle.qfs_names.proofs.NameLaws.{at-is, none-count, row-is, tree-put}
use Rattle.qfs_names.specs.ImageRows.{rows-added, rows-closed, rows-moved, rows-standing, rows-taken, rows-without_file}
use Rattle.qfs_names.specs.declared.row.NameRow.{NameRow}
use Rattle.qfs_names.specs.declared.row.UnclosedRow.{UnclosedRow}
use Rattle.qfs_names.specs.Names.{at_path, close_file, closed_row, directory_at, file_at, is_open, is_open_of, moved_rows, of_file, open_paths, path_row, row_of, row_path, standing_of, take_file}
use Rattle.qfs_names.specs.Trees.{Contents, HoldsOpen, IsNames, as_row, file_cmp, has_number, maker_of, none_of}
use Rattle.qfs_table.specs.Tables as table
use Rattle.std.proofs.lemmas.Bool.{and_parts}

abbrev pub Paths : Type 0
Paths = table.Contents UnclosedRow

-- a refusal by the rows is one by those of an image
there : (P : List Standing → Type 0) (rows : List NameRow) → P (standing_of rows)
    → P (image.standing (map as_row rows))
there P rows holds = subst P (rows-standing maker_of none_of none_of rows) holds

-- nothing is at the place of a new row
pub apart-of : (rows : List NameRow) (new : NameRow)
    → add_refusal (standing_of rows) new.path ≡ None
    → (new.path ≢ []) × Apart (row_cmp row_path) new rows
apart-of rows new free =
    let f = add-free (image.standing (map as_row rows)) new.path
    (there (λ s. add_refusal s new.path ≡ None) rows free) in
    let none = none-at (map as_row rows) new.path f.1 in (
      none.0,
      each_weaker (λ (row : NameRow). path_eq row.path new.path ≡ false)
          (λ row. row_cmp row_path new row ≡ Equal → ⊥)
          (λ row off tie. true≢false
          (sym (ap is_eq tie) ∙ at-is new.path row.path ∙ off)) rows
          (each_of_map (λ (row : TreeRow). path_eq row.path new.path ≡ false) as_row rows none.1),
    )

module _ (names now : Contents) (unclosed : Paths) (spare : ℕ) (was : IsNames names unclosed spare) where
  put : (path : PathNames) (file : ℕ) → IsPath path → file < 2 ^ 32
      → add_refusal (standing_of names.rows) path ≡ None
      → ((0 < file) → Each (λ (row : NameRow). row.file ≢ file) names.rows)
      → now.rows ≡ added row_path (file_at path file) names.rows
      → HasTree (2 ^ 32) (map as_row now.rows)
  put path file is low free fresh rows =
      subst (HasTree (2 ^ 32)) (sym (ap (map as_row) rows ∙ rows-added maker_of none_of none_of (file_at path file) names.rows))
      (tree-put (as_row (file_at path file)) (map as_row names.rows)
      (there (λ s. add_refusal s path ≡ None) names.rows free)
      (row-is path file is (apart-of names.rows (file_at path file) free).0 low)
      (λ some. none-count file names.rows (fresh some)) was.tree)

  pub kept-directory : (less : ℕ) (path : PathNames) → IsPath path
      → add_refusal (standing_of names.rows) path ≡ None
      → now.rows ≡ added row_path (directory_at path) names.rows → names.spare ≤ now.spare + 1
      → less + 1 ≡ spare → IsNames now unclosed less
  kept-directory less path is free rows few taken_one = record {
    tree = put path 0 is (omega arith) free (λ some. absurd (omega arith)) rows;
    index = subst (HoldsOpen unclosed.rows) (sym rows) (index-directory unclosed.rows path names.rows
        (apart-of names.rows (directory_at path) free).1 was.index);
    room = omega (arith, was.room, few, taken_one);
    index_room = omega (arith, was.index_room, taken_one);
  }

  pub kept-file : (more : Paths) (less : ℕ) (path : PathNames) (file : ℕ) → IsPath path
      → 1 ≤ file → file < 2 ^ 32 → add_refusal (standing_of names.rows) path ≡ None
      → Each (λ (row : NameRow). row.file ≢ file) names.rows
      → now.rows ≡ added row_path (file_at path file) names.rows → names.spare ≤ now.spare + 1
      → more.rows ≡ place file_cmp (path_row (file_at path file)) unclosed.rows
      → unclosed.spare ≤ more.spare + 1 → less + 1 ≡ spare → IsNames now more less
  kept-file more less path file is some low free fresh rows few paths few_paths taken_one = record {
    tree = put path file is low free (λ _. fresh) rows;
    index = λ number. ap (find (has_number number)) paths
        ∙ index-file unclosed.rows path file names.rows some fresh
        (apart-of names.rows (file_at path file) free).1 was.index number
        ∙ ap (λ rows. option_map path_row (find (is_open_of number) rows)) (sym rows);
    room = omega (arith, was.room, few, taken_one);
    index_room = omega (arith, was.index_room, few_paths, taken_one);
  }

  -- what is found by file is the unclosed row, which its path finds
  open-at : (file : ℕ) (found : UnclosedRow) → find (has_number file) unclosed.rows ≡ Some found
      → (0 < file) × Each (λ (row : NameRow). is_eq (path_cmp found.path row.path) ≡ of_file file row) names.rows
  open-at file found is = one (find (is_open_of file) names.rows) refl (sym is ∙ was.index file)
    where
      one : (o : Option NameRow) → find (is_open_of file) names.rows ≡ o
          → Some found ≡ option_map path_row o
          → (0 < file) × Each (λ (row : NameRow). is_eq (path_cmp found.path row.path) ≡ of_file file row) names.rows
      one None at e = absurd (cc)
      one (Some row) at e =
          let same : found ≡ path_row row = cc in
          let own = (found_has (λ _. Unit {0}) (is_open_of file) names.rows row at
          (each_of_all _ (λ _. tt) names.rows)).1 in
          let parts = and_parts (is_open row) (of_file file row) own in (
            subst (λ n. 0 < n) (number-is file row.file parts.1) (open-some row parts.0),
            subst (λ (path : PathNames). Each (λ (other : NameRow).
                is_eq (path_cmp path other.path) ≡ of_file file other) names.rows)
                (ap (λ (r : UnclosedRow). r.path) (sym same))
                (own-rows file names.rows row was.tree at),
          )

  pub closed-rows : (file : ℕ) (found : UnclosedRow)
      → find (has_number file) unclosed.rows ≡ Some found
      → change_where (λ (row : NameRow). is_eq (path_cmp found.path row.path)) closed_row names.rows
      ≡ close_file file names.rows
  closed-rows file found is = change-agree _ _ closed_row names.rows (open-at file found is).1

  pub rows-without : (file : ℕ) (found : UnclosedRow)
      → find (has_number file) unclosed.rows ≡ Some found
      → without (λ (row : NameRow). is_eq (path_cmp found.path row.path)) names.rows
      ≡ take_file file names.rows
  rows-without file found is =
      filter-agree (λ (row : NameRow). not (is_eq (path_cmp found.path row.path)))
      (λ row. not (of_file file row)) names.rows
      (each_weaker (λ (row : NameRow). is_eq (path_cmp found.path row.path) ≡ of_file file row)
      (λ (row : NameRow). not (is_eq (path_cmp found.path row.path)) ≡ not (of_file file row))
      (λ row same. ap not same) names.rows (open-at file found is).1)

  pub kept-closed : (left : Paths) (file : ℕ) (found : UnclosedRow)
      → find (has_number file) unclosed.rows ≡ Some found
      → left.rows ≡ without (has_number file) unclosed.rows → left.spare ≡ unclosed.spare
      → now.rows ≡ close_file file names.rows → now.spare ≡ names.spare → IsNames now left spare
  kept-closed left file found is paths paths_spare rows rows_spare = record {
    tree = subst (HasTree (2 ^ 32)) (sym (ap (map as_row) rows ∙ rows-closed maker_of none_of none_of file names.rows))
        (tree-closed (2 ^ 32) file (map as_row names.rows) (open-at file found is).0 was.tree);
    index = λ number. ap (find (has_number number)) paths
        ∙ index-closed unclosed.rows file names.rows was.index number
        ∙ ap (λ rows. option_map path_row (find (is_open_of number) rows)) (sym rows);
    room = omega (arith, was.room, rows_spare);
    index_room = omega (arith, was.index_room, paths_spare);
  }

  pub kept-without : (left : Paths) (file : ℕ) (found : UnclosedRow)
      → find (has_number file) unclosed.rows ≡ Some found
      → left.rows ≡ without (has_number file) unclosed.rows → left.spare ≡ unclosed.spare
      → now.rows ≡ take_file file names.rows → now.spare ≡ names.spare → IsNames now left spare
  kept-without left file found is paths paths_spare rows rows_spare = record {
    tree = subst (HasTree (2 ^ 32)) (sym (ap (map as_row) rows ∙ rows-without_file maker_of none_of none_of file names.rows))
        (tree-without_file (2 ^ 32) file (map as_row names.rows) (open-at file found is).0 was.tree);
    index = λ number. ap (find (has_number number)) paths
        ∙ index-without unclosed.rows file names.rows was.index number
        ∙ ap (λ rows. option_map path_row (find (is_open_of number) rows)) (sym rows);
    room = omega (arith, was.room, rows_spare);
    index_room = omega (arith, was.index_room, paths_spare);
  }

  pub kept-emptied : (path : PathNames) → rmdir_refusal (standing_of names.rows) path ≡ None
      → now.rows ≡ taken row_path path names.rows → now.spare ≡ names.spare
      → IsNames now unclosed spare
  kept-emptied path free rows rows_spare =
      let free_there = there (λ s. rmdir_refusal s path ≡ None) names.rows free in record {
        tree = subst (HasTree (2 ^ 32)) (sym (ap (map as_row) rows ∙ rows-taken maker_of none_of none_of path names.rows))
            (tree-emptied (2 ^ 32) path (map as_row names.rows) free_there was.tree);
        index = subst (HoldsOpen unclosed.rows) (sym rows)
            (index-taken unclosed.rows path Is.Directory names.rows was.tree
            (emptied-root (map as_row names.rows) path free_there)
            (rmdir-empty (standing_of names.rows) path free).0 directory-shut was.index);
        room = omega (arith, was.room, rows_spare);
        index_room = was.index_room;
      }
    where
      directory-shut : is_unclosed Is.Directory ≡ false
      directory-shut = unfold is_unclosed in refl

  pub kept-removed : (path : PathNames) → look_refusal (standing_of names.rows) path ≡ None
      → now.rows ≡ taken row_path path names.rows → now.spare ≡ names.spare
      → IsNames now unclosed spare
  kept-removed path free rows rows_spare =
      let free_there = there (λ s. look_refusal s path ≡ None) names.rows free in record {
        tree = subst (HasTree (2 ^ 32)) (sym (ap (map as_row) rows ∙ rows-taken maker_of none_of none_of path names.rows))
            (tree-removed (2 ^ 32) path (map as_row names.rows) free_there was.tree);
        index = subst (HoldsOpen unclosed.rows) (sym rows)
            (index-taken unclosed.rows path Is.Closed names.rows was.tree
            (closed-root (map as_row names.rows) path free_there)
            (look-closed (standing_of names.rows) path free) closed-shut was.index);
        room = omega (arith, was.room, rows_spare);
        index_room = was.index_room;
      }
    where
      closed-shut : is_unclosed Is.Closed ≡ false
      closed-shut = unfold is_unclosed in refl

  pub kept-moved : (then : Paths) (less : ℕ) (from to : PathNames) → IsPath to
      → rename_refusal (standing_of names.rows) from to ≡ None
      → now.rows ≡ renamed row_path at_path from to names.rows
      → then.rows ≡ place_all file_cmp (open_paths (moved_rows from to names.rows)) unclosed.rows
      → less ≤ now.spare → less ≤ then.spare → IsNames now then less
  kept-moved then less from to is free rows paths room index_room = record {
    tree = subst (HasTree (2 ^ 32)) (sym (ap (map as_row) rows ∙ rows-moved maker_of none_of none_of from to names.rows))
        (move-tree from to (map as_row names.rows) (2 ^ 32) is
        (there (λ s. rename_refusal s from to ≡ None) names.rows free) was.tree);
    index = λ number. ap (find (has_number number)) paths
        ∙ index-moved unclosed.rows from to names.rows is free was.tree was.index number
        ∙ ap (λ rows. option_map path_row (find (is_open_of number) rows)) (sym rows);
    room = room;
    index_room = index_room;
  }

-- the rows of the entries of a tree
pub made-of : (entries : List TreeEntry) (rows : List NameRow)
    → IsTree (2 ^ 32) (map (λ entry. as_row (row_of entry)) entries) → rows ≡ map row_of entries
    → HasTree (2 ^ 32) (map as_row rows)
made-of entries rows tree same =
    subst (HasTree (2 ^ 32)) (both entries ∙ ap (map as_row) (sym same))
    (tree-of (2 ^ 32) (map (λ entry. as_row (row_of entry)) entries) tree)
  where
    both : (xs : List TreeEntry)
        → map (λ entry. as_row (row_of entry)) xs ≡ map as_row (map row_of xs)
    both [] = refl
    both (x ∷ xs) = ap (λ rows. as_row (row_of x) ∷ rows) (both xs)
