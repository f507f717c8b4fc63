-- The text with the lines of the blocks that are left is that of all blocks.
use Rattle.std.proofs.Common.{◌≡◌, ◌++◌, flat_map}
use Rattle.qfs_model_text.specs.Audit.{audit_line}
use Rattle.qfs_report.specs.AuditTables.{paths_of, lines_of}
use Rattle.qfs_report.proofs.audit.push_lines.Given as goal

abbrev pub invariant-loop-block : goal.invariant-loop-block
invariant-loop-block l =
    l.out.items ++ flat_map audit_line (lines_of (paths_of l.closed) l.block-iterator)
    ≡ l.initial.out.items ++ flat_map audit_line (lines_of (paths_of l.closed) l.blocks)
