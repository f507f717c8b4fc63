-- What the loop of `scan::count_on` keeps.
use Rattle.std.proofs.Common.{◌≡◌, ◌≤◌, ◌+◌, min}
use Rattle.qfs_base.specs.Sizes.{LAST_U32}
use Rattle.qfs_model_meta.specs.Slots.{count_on}
use Rattle.qfs_blocks.proofs.scan.count_on.Given as goal

-- the copies so far and those of the rows to come are all
abbrev pub invariant-loop-row : goal.invariant-loop-row
invariant-loop-row l = record {
  left : min (l.count + count_on l.server l.life l.row-iterator) LAST_U32
      ≡ min (count_on l.server l.life l.fn.rows) LAST_U32;
  fits : l.count ≤ LAST_U32;
}
