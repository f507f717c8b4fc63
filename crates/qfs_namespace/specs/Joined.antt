-- The name tree joined with what is known of its files: the rows of an image's tree.
use Rattle.std.specs.Prelude.{ℕ, Bool, List, map}
use Rattle.std.specs.Ordering.{nat_cmp}
use Rattle.std.specs.declared.cmp.Ordering.{Ordering}
use Rattle.qfs_base.specs.declared.image.TreeRow.{TreeRow}
use Rattle.qfs_base.specs.Table.{has_key, look}
use Rattle.qfs_names.specs.ImageRows.{with_maker}
use Rattle.qfs_names.specs.declared.row.NameRow.{NameRow}
use Rattle.qfs_namespace.specs.declared.file.KnownFile.{KnownFile}

-- the order of files, and where a row stands to a number
abbrev pub known_cmp : KnownFile → KnownFile → Ordering
known_cmp a b = nat_cmp a.file b.file

abbrev pub known_order : ℕ → KnownFile → Ordering
known_order file row = nat_cmp file row.file

-- whether a row is that of the file of a number
abbrev pub is_known_as : ℕ → KnownFile → Bool
is_known_as file row = has_key (known_order file) row

-- what is known of the file of a number: nothing of a directory, which has the number 0
abbrev pub no_file : KnownFile
no_file = record { file = 0; actor = 0; command = 0; len = 0 }

abbrev pub known_of : List KnownFile → ℕ → KnownFile
known_of files file = look no_file (is_known_as file) files

-- a row of the name tree with what is known of its file, and all rows so
abbrev pub joined_row : List KnownFile → NameRow → TreeRow
joined_row files row =
    with_maker (λ file. (known_of files file).actor) (λ file. (known_of files file).command)
    (λ file. (known_of files file).len) row

abbrev pub joined : List KnownFile → List NameRow → List TreeRow
joined files rows = map (joined_row files) rows

-- a row of an image's tree as what is known of its file
abbrev pub known_in : TreeRow → KnownFile
known_in row = record { file = row.file; actor = row.actor; command = row.command; len = row.len }
