-- The counts with those of the blocks that are left are those of all blocks.
use Rattle.std.proofs.Common.{◌≡◌, ◌≤◌, ◌+◌, ◌*◌, length}
use Rattle.qfs_report.specs.AuditTables.{paths_of, standing_of, copies_of}
use Rattle.qfs_report.proofs.audit.count_standing.Given as goal

abbrev pub invariant-loop-block : goal.invariant-loop-block
invariant-loop-block l = record {
  blocks : l.standing + length (standing_of (paths_of l.closed) l.block-iterator)
      ≡ length (standing_of (paths_of l.closed) l.blocks);
  copies : l.copies + copies_of (standing_of (paths_of l.closed) l.block-iterator)
      ≡ copies_of (standing_of (paths_of l.closed) l.blocks);
  few_blocks : l.standing + length l.block-iterator ≤ length l.blocks;
  few_copies : l.copies + 9 * length l.block-iterator ≤ 9 * length l.blocks;
}
