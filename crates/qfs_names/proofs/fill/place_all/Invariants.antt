-- What the loop of `fill::place_all` keeps.
use Rattle.std.proofs.Common.{◌≡◌, ◌+◌, ◌≤◌, length}
use Rattle.std.specs.Vec.Iter.{into_iter_items}
use Rattle.qfs_base.specs.Table.{place_all}
use Rattle.qfs_names.proofs.fill.place_all.Given as goal

-- what is left goes where all was to go, and has room
abbrev pub invariant-loop-row : goal.invariant-loop-row
invariant-loop-row g l =
    let left = into_iter_items l.row-iterator in
    record {
      placed : place_all g.T.Row.cmp left l.table.rows
          ≡ place_all g.T.Row.cmp l.fn.rows.items l.fn.table.rows;
      spare : length left ≤ l.table.spare;
      used : l.fn.table.spare + length left ≤ l.table.spare + length l.fn.rows.items;
    }
