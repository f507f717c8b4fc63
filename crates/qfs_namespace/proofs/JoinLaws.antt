-- The rows of the name tree joined with what is known of their files.
use Rattle.std.proofs.Common.{List, [], ap, arith, false, map, not, refl, subst, sym, true, unwrap_or, ℕ, ◌∙◌, ◌∷◌, ◌≡◌, ◌≢◌}
use Rattle.std.proofs.lemmas.Bool.{eqb-true}
use Rattle.std.proofs.lemmas.Bool.Decides.{nat_tests}
use Rattle.std.specs.Ordering.{is_eq, nat_cmp}
use Rattle.std.specs.declared.cmp.Ordering.TheVariants.{Equal}
use Rattle.qfs_base.specs.NameTree.{PathNames, Standing, added, renamed, taken}
use Rattle.qfs_base.specs.declared.history.Entry.{Entry}
use Rattle.qfs_base.specs.declared.image.TreeRow.{TreeRow}
use Rattle.qfs_base.specs.Table.{Each, place, without}
use Rattle.qfs_base.specs.EachLaws.{each_weaker}
use Rattle.qfs_laws_tables.specs.EachRow.{each_of_all}
use Rattle.qfs_laws_tables.specs.Keys.{key-is}
use Rattle.qfs_laws_tables.specs.Placed.{find-apart, find-placed}
use Rattle.qfs_model_meta.specs.TreeRows as image
use Rattle.qfs_names.proofs.FindLaws.{find-kept}
use Rattle.qfs_names.specs.ImageRows.{rows-added, rows-closed, rows-moved, rows-standing, rows-taken, rows-without_file}
use Rattle.qfs_names.specs.Names.{at_path, close_file, directory_at, file_at, row_path, standing_of, take_file}
use Rattle.qfs_names.specs.Trees.{as_row, maker_of, none_of}
use Rattle.qfs_names.specs.declared.row.NameRow.{NameRow}
use Rattle.qfs_namespace.specs.Joined.{known_cmp, is_known_as, joined, known_of, no_file}
use Rattle.qfs_namespace.specs.Namespaces.{IsRecorded, Namespace, name_in_row}
use Rattle.qfs_namespace.specs.declared.file.KnownFile.{KnownFile}

pub standing-joined : (files : List KnownFile) (rows : List NameRow)
    → standing_of rows ≡ image.standing (joined files rows)
standing-joined files rows =
    rows-standing (λ file. (known_of files file).actor) (λ file. (known_of files file).command)
    (λ file. (known_of files file).len) rows

-- what the rules say of the names they say of the rows of an image
pub as-rows : (P : List Standing → Type 0) (rows : List NameRow) → P (standing_of rows)
    → P (image.standing (map as_row rows))
as-rows P rows = subst P (rows-standing maker_of none_of none_of rows)

-- a change of what stands inside is one of what callers see
pub written-from : (entry : Entry) (then : Namespace → List TreeRow) (taken : ℕ) (inside seen new : Namespace)
    → inside ≡ seen → IsRecorded entry (then inside) taken inside new
    → IsRecorded entry (then seen) taken seen new
written-from entry then taken inside seen new is =
    subst (λ (n : Namespace). IsRecorded entry (then n) taken n new) is

pub names-joined : (files : List KnownFile) (rows : List NameRow)
    → map name_in_row (joined files rows) ≡ rows
names-joined files [] = refl
names-joined files (row ∷ rows) = ap (λ others. row ∷ others) (names-joined files rows)

-- ---- what is known of files

pub known-own : (new : KnownFile) (files : List KnownFile)
    → known_of (place known_cmp new files) new.file ≡ new
known-own new files =
    ap (λ o. unwrap_or o no_file)
    (find-placed known_cmp (is_known_as new.file) new files (key-is new.file new.file ∙ grind (arith, nat_tests))
    (each_of_all _ (λ row above. ap is_eq above) files))

tied : (a b : ℕ) → nat_cmp a b ≡ Equal → b ≡ a
tied a b e = eqb-true b a (sym (key-is a b) ∙ ap is_eq e)

apart-key : (file other : ℕ) → other ≢ file → is_eq (nat_cmp file other) ≡ false
apart-key file other off = key-is file other ∙ grind (arith, nat_tests)

pub known-other : (new : KnownFile) (files : List KnownFile) (file : ℕ) → new.file ≢ file
    → known_of (place known_cmp new files) file ≡ known_of files file
known-other new files file off =
    ap (λ o. unwrap_or o no_file)
    (find-apart known_cmp (is_known_as file) new files (apart-key file new.file off)
    (λ row tie. apart-key file row.file (λ e. off (sym (tied new.file row.file tie) ∙ e))))

pub known-without : (gone : ℕ) (files : List KnownFile) (file : ℕ) → file ≢ gone
    → known_of (without (is_known_as gone) files) file ≡ known_of files file
known-without gone files file off =
    ap (λ o. unwrap_or o no_file) (find-kept (is_known_as file) (λ row. not (is_known_as gone row)) files
    (each_of_all _ (λ row is. kept row.file (eqb-true row.file file (sym (key-is file row.file) ∙ is))) files))
  where
    kept : (n : ℕ) → n ≡ file → not (is_eq (nat_cmp gone n)) ≡ true
    kept n e = ap not (apart-key gone n (λ g. off (sym e ∙ g)))

-- rows of whose files the same is known stay
pub same-joined : (files more : List KnownFile) (rows : List NameRow)
    → Each (λ (row : NameRow). known_of more row.file ≡ known_of files row.file) rows
    → joined more rows ≡ joined files rows
same-joined files more [] same = refl
same-joined files more (row ∷ rows) same =
    (λ i. record {
      path = row.path;
      file = row.file;
      closed = row.closed;
      actor = (same.0 i).actor;
      command = (same.0 i).command;
      len = (same.0 i).len;
    } ∷ same-joined files more rows same.1 i)

-- ---- the changes

module _ (files : List KnownFile) where
  abbrev actor_of : ℕ → ℕ
  actor_of file = (known_of files file).actor

  abbrev command_of : ℕ → ℕ
  command_of file = (known_of files file).command

  abbrev len_of : ℕ → ℕ
  len_of file = (known_of files file).len

  pub joined-directory : (path : PathNames) (rows : List NameRow) → known_of files 0 ≡ no_file
      → joined files (added row_path (directory_at path) rows)
      ≡ image.add_row (image.directory_row path) (joined files rows)
  unfolding image.directory_row
  joined-directory path rows none =
      rows-added actor_of command_of len_of (directory_at path) rows
      ∙ (λ i. image.add_row (record {
        path = path;
        file = 0;
        closed = false;
        actor = (none i).actor;
        command = (none i).command;
        len = (none i).len;
      }) (joined files rows))

  pub joined-taken : (path : PathNames) (rows : List NameRow)
      → joined files (taken row_path path rows) ≡ image.take_path path (joined files rows)
  joined-taken path rows = rows-taken actor_of command_of len_of path rows

  pub joined-closed : (file : ℕ) (rows : List NameRow)
      → joined files (close_file file rows) ≡ image.close_file file (joined files rows)
  joined-closed file rows = rows-closed actor_of command_of len_of file rows

  pub joined-moved : (from to : PathNames) (rows : List NameRow)
      → joined files (renamed row_path at_path from to rows) ≡ image.move_path from to (joined files rows)
  joined-moved from to rows = rows-moved actor_of command_of len_of from to rows

  pub joined-file : (path : PathNames) (new : KnownFile) (rows : List NameRow)
      → Each (λ (row : NameRow). row.file ≢ new.file) rows
      → joined (place known_cmp new files) (added row_path (file_at path new.file) rows)
      ≡ image.add_row (image.file_row path new.file new.actor new.command new.len) (joined files rows)
  unfolding image.file_row
  joined-file path new rows fresh =
      let more = place known_cmp new files in
      let others = same-joined files more rows
      (each_weaker _ _ (λ row off. known-other new files row.file (λ e. off (sym e))) rows fresh) in
      rows-added (λ file. (known_of more file).actor) (λ file. (known_of more file).command)
      (λ file. (known_of more file).len) (file_at path new.file) rows
      ∙ (λ i. image.add_row (record {
        path = path;
        file = new.file;
        closed = false;
        actor = (known-own new files i).actor;
        command = (known-own new files i).command;
        len = (known-own new files i).len;
      }) (others i))

  -- the rows that are left when a file is gone
  pub joined-gone : (file : ℕ) (rows : List NameRow) → Each (λ (row : NameRow). row.file ≢ file) rows
      → joined (without (is_known_as file) files) rows ≡ joined files rows
  joined-gone file rows off =
      same-joined files (without (is_known_as file) files) rows
      (each_weaker _ _ (λ row o. known-without file files row.file o) rows off)

  pub joined-without_file : (file : ℕ) (rows : List NameRow)
      → joined files (take_file file rows) ≡ image.take_file file (joined files rows)
  joined-without_file file rows = rows-without_file actor_of command_of len_of file rows
