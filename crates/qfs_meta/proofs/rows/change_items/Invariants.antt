use Rattle.std.proofs.Common.{◌≡◌, ◌++◌, take, drop, map}
use Rattle.qfs_meta.proofs.rows.change_items.Given as goal

-- the items so far are changed
abbrev pub invariant-loop-at : goal.invariant-loop-at
invariant-loop-at g l =
    take l.at l.items ++ map (g.C.RowChange.changed l.change) (drop l.at l.items) ≡ map (g.C.RowChange.changed l.change) l.fn.items
