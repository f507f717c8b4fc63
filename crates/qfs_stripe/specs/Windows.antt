-- The windows of a range that an iterator has left.
use Rattle.std.specs.Prelude.{◌-◌, ◌++◌, List, flat_map}
use Rattle.std.specs.List.{range_with_len}
use Rattle.qfs_base.specs.Layout.{windows_touched}
use Rattle.qfs_base.specs.declared.layout.Window.{Window}
use Rattle.qfs_stripe.specs.Touched.{AreTouched}
use Rattle.qfs_stripe.specs.declared.windows.Windows.TheInside.{Inside}

-- those of the present block, and then those of the blocks that are left
abbrev pub windows_left : Inside → List Window
windows_left w =
    w.present
    ++ flat_map (windows_touched w.layout.s w.layout.r w.from w.to) (range_with_len w.block (w.past - w.block))

-- the range touches each block that is left
abbrev pub IsInRange : Inside → Type 0
IsInRange w = AreTouched w.layout.s w.layout.r w.from w.to w.block w.past
