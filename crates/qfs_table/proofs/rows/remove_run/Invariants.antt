-- What the loop of `rows::remove_run` keeps.
use Rattle.std.proofs.Common.{◌≡◌, ◌≤◌, length, vec_capacity}
use Rattle.std.specs.List.{All}
use Rattle.qfs_base.specs.Table.{IsRising, without, has_key}
use Rattle.qfs_table.specs.Chunks.{flat, IsChunk, IsSpare}
use Rattle.qfs_table.specs.Tables.{held, Takes}
use Rattle.qfs_table.proofs.rows.remove_run.Given as goal

-- what is to be left at last is the same all along
abbrev pub invariant-run : goal.invariant-run
invariant-run g l =
    let test = has_key (g.K.Key.order l.key) in
    record {
      rows : without test (flat l.chunks.items) ≡ without test (flat l.fn.chunks.items);
      counted : l.left ≡ length (flat l.chunks.items);
      fewer : l.left ≤ l.count;
      rising : IsRising g.T.Row.cmp (flat l.chunks.items);
      sound : All IsChunk l.chunks.items;
      spares : All IsSpare l.spare.items;
      slots : vec_capacity l.chunks ≡ vec_capacity l.fn.chunks;
      spare_slots : vec_capacity l.spare ≡ vec_capacity l.fn.spare;
      count : held l.chunks l.spare ≡ held l.fn.chunks l.fn.spare;
      more : length l.fn.spare.items ≤ length l.spare.items;
      strain : Takes 0 l.fn.chunks l.fn.spare l.chunks l.spare;
    }

abbrev pub decreases-run : goal.decreases-run
decreases-run g l = l.left
