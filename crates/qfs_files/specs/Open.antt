-- The paths at which unclosed files may stand, kept by file: a row of an unclosed file is found by
-- one of them.
use Rattle.std.specs.Prelude.{◌≡◌, ℕ, Bool, true, List}
use Rattle.std.specs.List.{list_any}
use Rattle.qfs_base.specs.Table.{Each, has_key}
use Rattle.qfs_files.specs.declared.row.FileRow.{FileRow}
use Rattle.qfs_files.specs.declared.row.OpenRow.{OpenRow}
use Rattle.qfs_files.specs.Keys.{open_order}
use Rattle.qfs_files.specs.Rows.{is_unclosed_row}

-- whether a row is that of the unclosed file at the path that is kept
abbrev pub finds : OpenRow → FileRow → Bool
finds kept row = has_key (open_order kept) row

-- a row of an unclosed file is found by one of the paths that are kept
abbrev pub IsCovered : List OpenRow → FileRow → Type 0
IsCovered places row =
    (file : ℕ) → is_unclosed_row file row ≡ true → list_any (λ kept. finds kept row) places ≡ true

abbrev pub Covers : List OpenRow → List FileRow → Type 0
Covers places rows = Each (IsCovered places) rows
