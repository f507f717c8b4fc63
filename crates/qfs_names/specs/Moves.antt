-- What a rename moves: the rows within a path under their new paths, and the unclosed ones of them
-- once more. Cited by the contracts of the calls that plan it and do it.
use Rattle.std.specs.Prelude.{◌≡◌, ℕ, ◌+◌, ◌-◌, ◌≤◌, List, length}
use Rattle.qfs_base.specs.NameTree.{PathNames, most_names}
use Rattle.qfs_names.specs.declared.moving.Moved.{Moved}
use Rattle.qfs_names.specs.declared.row.NameRow.{NameRow}
use Rattle.qfs_names.specs.Names.{moved_rows, open_paths}

-- a row has the names that it loses, and few enough from then on
abbrev pub CanMove : ℕ → PathNames → NameRow → Type 0
CanMove depth to row =
    (depth ≤ length row.path) × (length to + (length row.path - depth) ≤ most_names)

pub record IsMove (from to : PathNames) (rows : List NameRow) (moved : Moved) : Type 0 where
  pub rows_then : moved.rows.items ≡ moved_rows from to rows
  pub paths_then : moved.paths.items ≡ open_paths (moved_rows from to rows)
