-- The rows of the metaserver's name tree: beside each path its file, 0 for a directory, and the
-- command that made it.
use Rattle.std.specs.Prelude.{ℕ, zero, suc, ◌==◌, Bool, true, false, ◌&&◌, ◌||◌, List, [], map, filter, find, Option}
use Rattle.std.specs.List.{list_any}
use Rattle.qfs_base.specs.declared.image.TreeRow.{TreeRow}
use Rattle.qfs_base.specs.declared.lists.NameKind.{NameKind}
use Rattle.qfs_base.specs.declared.lists.NameKind.TheVariants.{Directory, Unclosed, Closed}
use Rattle.qfs_base.specs.NameTree.{PathNames, Standing, added, renamed, taken, stands_at}
use Rattle.std.specs.declared.cmp.Ordering.{Ordering}
use Rattle.std.specs.Ordering.{nat_cmp}
use Rattle.qfs_base.specs.Table.{has_key, without, change_where, look, place_all}

-- what stands at a row: file 0 is a directory
unfoldable pub kind_of : ℕ → Bool → NameKind
kind_of zero closed = Directory
kind_of (suc n) true = Closed
kind_of (suc n) false = Unclosed

-- the tree as its rules see it
unfoldable pub standing : List TreeRow → List Standing
standing tree = map (λ (row : TreeRow). record { path = row.path; kind = kind_of row.file row.closed }) tree

-- a directory at a path
unfoldable pub directory_row : PathNames → TreeRow
directory_row path =
    record { path = path; file = 0; closed = false; actor = 0; command = 0; len = 0 }

-- an unclosed file at a path
unfoldable pub file_row : PathNames → ℕ → ℕ → ℕ → ℕ → TreeRow
file_row path file actor command len =
    record { path = path; file = file; closed = false; actor = actor; command = command; len = len }

-- a row's path, and the row at another path
abbrev pub row_path : TreeRow → PathNames
row_path row = row.path

abbrev pub at_path : PathNames → TreeRow → TreeRow
at_path path row = record row { path = path }

-- the row at a path, and the root's where there is none
unfoldable pub row_at : List TreeRow → PathNames → TreeRow
row_at tree path = look (directory_row []) (stands_at row_path path) tree

-- whether a row is that of a file, an unclosed file, or a closed one
unfoldable pub is_unclosed : NameKind → Bool
is_unclosed Unclosed = true
is_unclosed Closed = false
is_unclosed Directory = false

unfoldable pub is_closed : NameKind → Bool
is_closed Closed = true
is_closed Unclosed = false
is_closed Directory = false

-- whether a row is that of the file of a number
abbrev pub row_file_order : ℕ → TreeRow → Ordering
row_file_order file row = nat_cmp file row.file

unfoldable pub has_file : ℕ → TreeRow → Bool
has_file file row = has_key (row_file_order file) row

unfoldable pub is_unclosed_row : TreeRow → Bool
is_unclosed_row row = is_unclosed (kind_of row.file row.closed)

unfoldable pub is_closed_row : TreeRow → Bool
is_closed_row row = is_closed (kind_of row.file row.closed)

-- whether a row is an actor's unclosed file
unfoldable pub is_unclosed_of : ℕ → TreeRow → Bool
is_unclosed_of actor row = is_unclosed_row row && (row.actor == actor)

-- a file that an actor made and hasn't closed
unfoldable pub unclosed_file : ℕ → ℕ → List TreeRow → Option TreeRow
unclosed_file actor file tree =
    find (λ (row : TreeRow). is_unclosed_of actor row && has_file file row) tree

-- the numbers of these rows' files, rising
unfoldable pub rising_files : List TreeRow → List ℕ
rising_files rows = place_all nat_cmp (map (λ (row : TreeRow). row.file) rows) []

-- the files that an actor hasn't closed, by number
unfoldable pub unclosed_files : ℕ → List TreeRow → List ℕ
unclosed_files actor tree = rising_files (filter (is_unclosed_of actor) tree)

-- a closed file
unfoldable pub closed_file : ℕ → List TreeRow → Option TreeRow
closed_file file tree = find (λ (row : TreeRow). is_closed_row row && has_file file row) tree

-- whether a file is in the tree, closed or not
unfoldable pub file_stands : ℕ → List TreeRow → Bool
file_stands file tree =
    list_any (λ (row : TreeRow). (is_closed_row row || is_unclosed_row row) && has_file file row) tree

-- a row after its file was closed
unfoldable pub close_row : TreeRow → TreeRow
close_row row = record row { closed = true }

-- the tree with a directory or file more
unfoldable pub add_row : TreeRow → List TreeRow → List TreeRow
add_row row tree = added row_path row tree

-- the tree without what stands at a path
unfoldable pub take_path : PathNames → List TreeRow → List TreeRow
take_path path tree = taken row_path path tree

-- the tree without a file
unfoldable pub take_file : ℕ → List TreeRow → List TreeRow
take_file file tree = without (has_file file) tree

-- the tree after a file was closed
unfoldable pub close_file : ℕ → List TreeRow → List TreeRow
close_file file tree = change_where (has_file file) close_row tree

-- the tree after everything within a path moved to another
unfoldable pub move_path : PathNames → PathNames → List TreeRow → List TreeRow
move_path from to tree = renamed row_path at_path from to tree
