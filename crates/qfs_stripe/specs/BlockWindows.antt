-- The windows of a block that an iterator has left.
use Rattle.std.specs.Prelude.{◌-◌, ◌/◌, ◌<◌, ◌≤◌, List, map}
use Rattle.std.specs.Int.{div_ceil}
use Rattle.std.specs.List.{range_with_len}
use Rattle.qfs_base.specs.Layout.{window_at}
use Rattle.qfs_base.specs.Sizes.{WINDOW_ROWS, MOST_ROWS}
use Rattle.qfs_base.specs.declared.layout.Window.{Window}
use Rattle.qfs_stripe.specs.declared.block_windows.BlockWindows.TheInside.{Inside}

-- the windows of the groups that are left
abbrev pub left_in_block : Inside → List Window
left_in_block w = map (window_at w.index w.first w.past) (range_with_len w.group (div_ceil w.past WINDOW_ROWS - w.group))

-- the groups that are left are among those of the rows from the first on, of which there are some
pub record IsInBlock (w : Inside) : Type 0 where
  pub some : w.first < w.past
  pub most : w.past ≤ MOST_ROWS
  pub reached : w.first / WINDOW_ROWS ≤ w.group
  pub upto : w.group ≤ div_ceil w.past WINDOW_ROWS
