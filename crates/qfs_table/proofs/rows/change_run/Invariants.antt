-- What the loop of `rows::change_run` keeps.
use Rattle.std.proofs.Common.{◌≡◌, ◌≤◌, false, ◌++◌, length, vec_capacity}
use Rattle.std.specs.List.{All}
use Rattle.std.specs.Ordering.{is_gt, is_ge}
use Rattle.qfs_base.specs.Table.{Each, change_where, has_key}
use Rattle.qfs_table.specs.Chunks.{flat, front, back, IsChunk}
use Rattle.qfs_table.specs.Cuts.{IsCut}
use Rattle.qfs_table.specs.Places.{IsPlaced}
use Rattle.qfs_table.specs.Rooms.{strain}
use Rattle.qfs_table.proofs.rows.change_run.Given as goal

-- the rows so far are changed, and those from the place on are not below the key
abbrev pub invariant-run : goal.invariant-run
invariant-run g l =
    let order = g.K.Key.order l.key in
    let change = g.C.Change.changed l.change in
    record {
      placed : IsPlaced l.chunks.items l.at;
      joined : front l.chunks.items l.at.chunk l.at.row ++ change_where (has_key order) change
          (back l.chunks.items l.at.chunk l.at.row) ≡ change_where (has_key order) change
          (flat l.fn.chunks.items);
      low : Each (λ row. is_gt (order row) ≡ false) (back l.chunks.items l.at.chunk l.at.row);
      cut : IsCut (λ row. is_ge (order row)) (back l.chunks.items l.at.chunk l.at.row);
      sound : All IsChunk l.chunks.items;
      slots : vec_capacity l.chunks ≡ vec_capacity l.fn.chunks;
      count : length l.chunks.items ≡ length l.fn.chunks.items;
      strain : strain l.chunks.items ≤ strain l.fn.chunks.items;
    }

abbrev pub decreases-run : goal.decreases-run
decreases-run g l = length (back l.chunks.items l.at.chunk l.at.row)
