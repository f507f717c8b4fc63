-- What a namespace is, and what each of its changes leaves.
use Rattle.std.specs.Prelude.{◌≡◌, ℕ, ◌+◌, ◌<◌, ◌≤◌, List, [], ◌∷◌, ◌++◌, map}
use Rattle.std.specs.List.{list_any}
use Rattle.qfs_base.specs.declared.history.Entry.{Entry}
use Rattle.qfs_base.specs.declared.image.TreeRow.{TreeRow}
use Rattle.qfs_base.specs.Table.{Each}
use Rattle.qfs_model_meta.specs.TreeRows.{file_stands}
use Rattle.qfs_names.specs.declared.row.NameRow.{NameRow}
use Rattle.qfs_names.specs.Moves.{IsMove}
use Rattle.qfs_names.specs.Trees.{as_row}
use Rattle.qfs_names.specs.declared.moving.Moved.{Moved}
use Rattle.qfs_base.specs.NameTree.{PathNames}
use Rattle.qfs_namespace.specs.declared.file.KnownFile.{KnownFile}
use Rattle.qfs_namespace.specs.Joined.{is_known_as}

-- the namespace as its callers see it: the tree, the number of the next file, the file history, and
-- for how many more directories and files, and entries of the history, there is room
pub record Namespace : Type 0 where
  pub tree : List TreeRow
  pub next_file : ℕ
  pub history : List Entry
  pub spare : ℕ
  pub spare_entries : ℕ

-- files are known by number exactly where they stand in the tree, under numbers that were given out
pub record IsTied (names : List NameRow) (files : List KnownFile) (next : ℕ) : Type 0 where
  pub stand : (file : ℕ) → list_any (is_known_as file) files ≡ file_stands file (map as_row names)
  pub numbers : Each (λ row. row.file < next) files
  pub first : 1 ≤ next

-- both tables have room for what is spare
pub record HasSpare (spare tree_spare files_spare : ℕ) : Type 0 where
  pub names : spare ≤ tree_spare
  pub files : spare ≤ files_spare

-- a change of the tree, with its entry at the end of the history, that takes room for so many
-- directories and files
pub record IsRecorded (entry : Entry) (rows : List TreeRow) (taken : ℕ) (old new : Namespace) : Type 0 where
  pub tree : new.tree ≡ rows
  pub history : new.history ≡ old.history ++ entry ∷ []
  pub spare : new.spare + taken ≡ old.spare
  pub spare_entries : new.spare_entries + 1 ≡ old.spare_entries

-- the rows of the name tree alone, and the plan of a rename of them
abbrev pub name_in_row : TreeRow → NameRow
name_in_row row = record { path = row.path; file = row.file; closed = row.closed }

abbrev pub IsMoved : PathNames → PathNames → List TreeRow → Moved → Type 0
IsMoved from to tree moved = IsMove from to (map name_in_row tree) moved
