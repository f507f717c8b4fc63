-- The rows of the name tree: a path, its file (0 for a directory), and whether that is closed. The
-- rules of a tree see what stands at each path. Cited by the contracts of the tree.
use Rattle.std.specs.Prelude.{ℕ, Bool, true, false, ◌&&◌, List, [], length, take, map, filter, nat_lt, Option}
use Rattle.std.specs.Option.{option_map, option_or}
use Rattle.std.specs.Ordering.{nat_cmp}
use Rattle.std.specs.declared.cmp.Ordering.{Ordering}
use Rattle.qfs_base.specs.declared.image.TreeEntry.{TreeEntry}
use Rattle.qfs_base.specs.declared.lists.Name.{Name}
use Rattle.qfs_base.specs.declared.lists.NameKind.{NameKind}
use Rattle.qfs_base.specs.declared.reply.TreeRefusal.{TreeRefusal}
use Rattle.qfs_base.specs.declared.reply.TreeRefusal.TheVariants as Not
use Rattle.qfs_base.specs.NameTree.{PathNames, Standing, add_refusal, grows_too_deep, is_within, most_names, moved, name_in, path_cmp, refused_if, stands_at}
use Rattle.qfs_base.specs.Table.{change_where, has_key, look, without}
use Rattle.qfs_model_meta.specs.TreeRows.{is_unclosed, kind_of}
use Rattle.qfs_names.specs.declared.row.NameRow.{NameRow}
use Rattle.qfs_names.specs.declared.row.UnclosedRow.{UnclosedRow}

-- a row's path, and the row at another path
abbrev pub row_path : NameRow → PathNames
row_path row = row.path

abbrev pub at_path : PathNames → NameRow → NameRow
at_path path row = record row { path = path }

-- what stands at a row
abbrev pub row_kind : NameRow → NameKind
row_kind row = kind_of row.file row.closed

-- the tree as its rules see it
abbrev pub standing_of : List NameRow → List Standing
standing_of rows = map (λ (row : NameRow). record { path = row.path; kind = row_kind row }) rows

-- a directory at a path, and an unclosed file
abbrev pub directory_at : PathNames → NameRow
directory_at path = record { path = path; file = 0; closed = false }

abbrev pub file_at : PathNames → ℕ → NameRow
file_at path file = record { path = path; file = file; closed = false }

-- the row at a path, and the root's where there is none
abbrev pub row_at : List NameRow → PathNames → NameRow
row_at rows path = look (directory_at []) (stands_at row_path path) rows

-- whether a row is that of a file that isn't closed, of the file of a number, or of both
abbrev pub is_open : NameRow → Bool
is_open row = is_unclosed (row_kind row)

abbrev pub file_order : ℕ → NameRow → Ordering
file_order file row = nat_cmp file row.file

abbrev pub of_file : ℕ → NameRow → Bool
of_file file row = has_key (file_order file) row

abbrev pub is_open_of : ℕ → NameRow → Bool
is_open_of file row = is_open row && of_file file row

-- a row after its file was closed
abbrev pub closed_row : NameRow → NameRow
closed_row row = record row { closed = true }

-- the tree after a file was closed, and without a file
abbrev pub close_file : ℕ → List NameRow → List NameRow
close_file file rows = change_where (of_file file) closed_row rows

abbrev pub take_file : ℕ → List NameRow → List NameRow
take_file file rows = without (of_file file) rows

-- a path as the front of those within it: it is compared with as many names
abbrev pub within_order : PathNames → PathNames → Ordering
within_order top path = path_cmp top (take (length top) path)

-- whether a row would have more than the most names, once what is within a path is within another
abbrev pub is_deep : PathNames → PathNames → NameRow → Bool
is_deep from to row = nat_lt most_names (length (moved from to row.path))

-- why what is within a path doesn't go to another, where nothing else is reason
abbrev pub target_refusal : List Standing → PathNames → PathNames → Option TreeRefusal
target_refusal tree from to =
    option_or (add_refusal tree to) (refused_if (grows_too_deep tree from to) Not.TooDeep)

-- what lies within a path, once that is another
abbrev pub moved_rows : PathNames → PathNames → List NameRow → List NameRow
moved_rows from to rows =
    map (λ (row : NameRow). at_path (moved from to row.path) row)
    (filter (λ (row : NameRow). is_within from row.path) rows)

-- the name of a row in a directory, if it stands right below it
abbrev pub child_at : PathNames → NameRow → Option Name
child_at directory row =
    option_map (λ name. record { part = name; kind = row_kind row }) (name_in directory row.path)

-- the path of an unclosed file, by its number
abbrev pub path_row : NameRow → UnclosedRow
path_row row = record { file = row.file; path = row.path }

abbrev pub open_paths : List NameRow → List UnclosedRow
open_paths rows = map path_row (filter is_open rows)

-- an entry of a list of them as a row, and back
abbrev pub row_of : TreeEntry → NameRow
row_of entry = record { path = entry.path; file = entry.file; closed = entry.closed }

abbrev pub entry_of : NameRow → TreeEntry
entry_of row = record { path = row.path; file = row.file; closed = row.closed }
