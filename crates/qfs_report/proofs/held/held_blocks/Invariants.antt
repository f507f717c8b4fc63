-- The table with the rows that are left is that of all rows.
use Rattle.std.proofs.Common.{◌≡◌, [], drop}
use Rattle.std.specs.List.Sorted.{IsStrictlySortedBy}
use Rattle.std.specs.Map.{keys_of}
use Rattle.qfs_base.specs.Key.{block_cmp}
use Rattle.qfs_report.specs.AuditTables.{table_of}
use Rattle.qfs_report.proofs.held.held_blocks.Given as goal

abbrev pub invariant-loop-row : goal.invariant-loop-row
invariant-loop-row l = record {
  table : table_of l.lives l.blocks (drop l.row-index l.slots) ≡ table_of l.lives [] l.slots;
  rising : IsStrictlySortedBy block_cmp (keys_of l.blocks);
}
