-- What the entries of a file history leave, as the code keeps it: under each path a directory, an
-- unclosed file, or a closed one with the command that closed it. The bytes of that command's put
-- make of it the files of the history.
use Rattle.std.specs.Prelude.{ℕ, ◌==◌, ◌&&◌, Bool, false, List, [], length, map, fold, nat_lt, Option}
use Rattle.std.specs.Option.{option_map, option_or}
use Rattle.qfs_base.specs.declared.history.Entry.{Entry}
use Rattle.qfs_base.specs.declared.history.Entry.TheVariants as Wrote
use Rattle.qfs_base.specs.declared.lists.Name.{Name}
use Rattle.qfs_base.specs.declared.lists.NameKind.{NameKind}
use Rattle.qfs_base.specs.declared.lists.NameKind.TheVariants as Is
use Rattle.qfs_base.specs.declared.reply.TreeRefusal.{TreeRefusal}
use Rattle.qfs_base.specs.declared.reply.TreeRefusal.TheVariants as Not
use Rattle.qfs_base.specs.Files.{Puts, Content, FileEntry, IsDirectory, IsUnclosed, IsClosed}
use Rattle.qfs_base.specs.NameTree.{PathNames, Standing, added, taken, renamed, add_refusal, grows_too_deep, is_within, most_names, moved, name_in, refused_if}
use Rattle.qfs_base.specs.Table.{change_where, without}
use Rattle.qfs_files.specs.declared.row.Holding.{Holding}
use Rattle.qfs_files.specs.declared.row.Holding.TheVariants.{Directory, Unclosed, Closed}
use Rattle.qfs_files.specs.declared.row.FileRow.{FileRow}

-- a row's path, and the row at another path
abbrev pub row_names : FileRow → PathNames
row_names row = row.names

abbrev pub at_names : PathNames → FileRow → FileRow
at_names names row = record row { names = names }

-- a row at a path
abbrev pub row_holding : PathNames → Holding → FileRow
row_holding names holding = record { names = names; holding = holding }

-- whether a row is that of a file of this number that isn't closed
abbrev pub holds_unclosed : ℕ → Holding → Bool
holds_unclosed file Directory = false
holds_unclosed file (Unclosed number) = number == file
holds_unclosed file (Closed number actor command) = false

abbrev pub is_unclosed_row : ℕ → FileRow → Bool
is_unclosed_row file row = holds_unclosed file row.holding

-- a row after its file was closed by a command of an actor
abbrev pub closed_by : ℕ → ℕ → ℕ → FileRow → FileRow
closed_by file actor command row = record row { holding = Closed file actor command }

-- what the rules of the name tree see of a row
abbrev pub kind_held : Holding → NameKind
kind_held Directory = Is.Directory
kind_held (Unclosed file) = Is.Unclosed
kind_held (Closed file actor command) = Is.Closed

abbrev pub standing_of : List FileRow → List Standing
standing_of rows =
    map (λ (row : FileRow). record { path = row.names; kind = kind_held row.holding }) rows

-- a row as one of the files of the history, where these are the bytes of each put
abbrev pub content_held : Puts → Holding → Content
content_held puts Directory = IsDirectory
content_held puts (Unclosed file) = IsUnclosed file
content_held puts (Closed file actor command) = IsClosed file (puts actor command)

abbrev pub entry_from : Puts → FileRow → FileEntry
entry_from puts row = record { path = row.names; content = content_held puts row.holding }

abbrev pub entries_from : Puts → List FileRow → List FileEntry
entries_from puts rows = map (entry_from puts) rows

-- the rows after one entry of the history
abbrev pub rows_after : List FileRow → Entry → List FileRow
rows_after rows (Wrote.Mkdir path) = added row_names (row_holding path Directory) rows
rows_after rows (Wrote.Rmdir path) = taken row_names path rows
rows_after rows (Wrote.Created file path) = added row_names (row_holding path (Unclosed file)) rows
rows_after rows (Wrote.Closed file actor command) =
    change_where (is_unclosed_row file) (closed_by file actor command) rows
rows_after rows (Wrote.Aborted file) = without (is_unclosed_row file) rows
rows_after rows (Wrote.Removed path) = taken row_names path rows
rows_after rows (Wrote.Renamed from to) = renamed row_names at_names from to rows

-- the rows of a history
abbrev pub rows_of : List Entry → List FileRow
rows_of history = fold rows_after [] history

-- ---- what the rules of the name tree say of rows

-- whether a row within a path would have more than the most names, once it lies within another
abbrev pub is_deep : PathNames → PathNames → FileRow → Bool
is_deep from to row =
    is_within from row.names && nat_lt most_names (length (moved from to row.names))

-- why what is within a path doesn't go to another, where nothing else is reason
abbrev pub target_refusal : List Standing → PathNames → PathNames → Option TreeRefusal
target_refusal tree from to =
    option_or (add_refusal tree to) (refused_if (grows_too_deep tree from to) Not.TooDeep)

-- the name of a row in a directory, if it stands right below it
abbrev pub child_at : PathNames → FileRow → Option Name
child_at directory row =
    option_map (λ name. record { part = name; kind = kind_held row.holding })
    (name_in directory row.names)
