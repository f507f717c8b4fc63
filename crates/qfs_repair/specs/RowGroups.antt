-- The windows in which all rows of a block are read: its aligned groups of rows, in their order.
use Rattle.std.specs.Prelude.{ℕ, ◌-◌, ◌*◌, List, map, min, take}
use Rattle.std.specs.Int.{div_ceil}
use Rattle.std.specs.List.{range_with_len}
use Rattle.qfs_base.specs.Layout.{window_at}
use Rattle.qfs_base.specs.Sizes.{WINDOW_ROWS}
use Rattle.qfs_base.specs.declared.layout.Window.{Window}

-- the windows from a group on, of block k, whose chunks have so many rows
abbrev pub windows_from : ℕ → ℕ → ℕ → List Window
windows_from k rows group =
    map (window_at k 0 rows) (range_with_len group (div_ceil rows WINDOW_ROWS - group))

-- the rows of a group
abbrev pub group_rows : ℕ → ℕ → ℕ
group_rows rows group = min WINDOW_ROWS (rows - group * WINDOW_ROWS)

-- the window of a group
abbrev pub group_window : ℕ → ℕ → ℕ → Window
group_window k rows group =
    record { index = k; first_row = group * WINDOW_ROWS; rows = group_rows rows group }

-- the bytes of a chunk that were filled before a group
abbrev pub filled_before : ℕ → ℕ → List ℕ → List ℕ
filled_before stripe group chunk = take (group * WINDOW_ROWS * stripe) chunk
