-- What the tree is made of: rows that form a name tree, and the paths of the unclosed files among
-- them by file.
use Rattle.std.specs.Prelude.{◌≡◌, ℕ, zero, suc, ◌^◌, ◌≤◌, Bool, List, map, find}
use Rattle.std.specs.Option.{option_map}
use Rattle.std.specs.Ordering.{nat_cmp}
use Rattle.std.specs.declared.cmp.Ordering.{Ordering}
use Rattle.qfs_base.specs.declared.image.TreeRow.{TreeRow}
use Rattle.qfs_base.specs.Table.{has_key}
use Rattle.qfs_laws_tree.specs.Tree.{HasTree}
use Rattle.qfs_names.specs.ImageRows.{with_maker}
use Rattle.qfs_names.specs.declared.row.NameRow.{NameRow}
use Rattle.qfs_names.specs.declared.row.UnclosedRow.{UnclosedRow}
use Rattle.qfs_names.specs.Names.{is_open_of, path_row}
use Rattle.qfs_table.specs.Tables as table

-- the tree as its callers see it: the rows in the order of their paths, and how many more have room
abbrev pub Contents : Type 0
Contents = table.Contents NameRow

-- a row as one of an image, in which the first command of actor 1 made each file
abbrev pub maker_of : ℕ → ℕ
maker_of zero = 0
maker_of (suc n) = 1

abbrev pub none_of : ℕ → ℕ
none_of file = 0

abbrev pub as_row : NameRow → TreeRow
as_row row = with_maker maker_of none_of none_of row

-- the order of unclosed files
abbrev pub file_cmp : UnclosedRow → UnclosedRow → Ordering
file_cmp a b = nat_cmp a.file b.file

-- whether a row of unclosed files is of a number
abbrev pub has_number : ℕ → UnclosedRow → Bool
has_number file row = has_key (λ (row : UnclosedRow). nat_cmp file row.file) row

-- the paths of the unclosed files among these rows are found by file
abbrev pub HoldsOpen : List UnclosedRow → List NameRow → Type 0
HoldsOpen paths rows =
    (file : ℕ) → find (has_number file) paths ≡ option_map path_row (find (is_open_of file) rows)

-- both tables have room for what is spare
pub record IsNames (names : Contents) (unclosed : table.Contents UnclosedRow) (spare : ℕ) : Type 0 where
  pub tree : HasTree (2 ^ 32) (map as_row names.rows)
  pub index : HoldsOpen unclosed.rows names.rows
  pub room : spare ≤ names.spare
  pub index_room : spare ≤ unclosed.spare
