-- The files with the rows that are left are those of all rows.
use Rattle.std.proofs.Common.{◌≡◌, [], drop}
use Rattle.std.specs.List.Sorted.{IsStrictlySortedBy}
use Rattle.std.specs.Map.{keys_of}
use Rattle.std.specs.Ordering.{nat_cmp}
use Rattle.qfs_report.specs.AuditTables.{paths_of, closed_of}
use Rattle.qfs_report.proofs.closed.closed_files.Given as goal

abbrev pub invariant-loop-row : goal.invariant-loop-row
invariant-loop-row l = record {
  files : closed_of (paths_of l.closed) (drop l.row-index l.tree) ≡ closed_of [] l.tree;
  rising : IsStrictlySortedBy nat_cmp (keys_of l.closed);
}
