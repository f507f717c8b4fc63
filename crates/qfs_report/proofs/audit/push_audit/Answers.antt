use Rattle.std.proofs.Common.{sym, subst}
use Rattle.std.specs.List.Sorted.{IsStrictlySortedBy}
use Rattle.std.specs.Ordering.{nat_cmp}
use Rattle.qfs_report.specs.AuditTables.{paths_of}
use Rattle.qfs_report.proofs.AuditLaws.{audit-is}
use Rattle.qfs_report.proofs.Paths.{paths_keys}
use Rattle.qfs_report.proofs.Runs.{on_ok}
use Rattle.qfs_report.proofs.audit.push_audit.Goals as goal

pub returns : goal.returns
returns c =
    let closed = c.in_ok-closed.closed in
    on_ok c.push_summary.result
    (audit-is c.args.image.now c.args.lives.now _ c.as_slice-tree.result.now c.as_slice.result.now
    (paths_of closed) c.in_ok-blocks.blocks c.args.out.now.items c.push_lines.new.out.items
    c.push_summary.new.out.items
    (record {
      files = c.count_files.result;
      dirs = c.count_directories.result;
      blocks = c.count_standing-standing.result.0;
      copies = c.count_standing-standing.result.1;
      condemned = c.len.result;
      steps = c.count_steps.result;
    })
    c.as_slice-tree.ensures c.as_slice.ensures
    c.in_ok-closed.ensures.files (subst (IsStrictlySortedBy nat_cmp) (sym (paths_keys closed))
    c.in_ok-closed.ensures.rising)
    c.in_ok-blocks.ensures.table c.in_ok-blocks.ensures.rising
    c.in_ok-push_lines.ensures
    c.count_files.ensures c.count_directories.ensures
    c.count_standing-standing.ensures.blocks c.count_standing-standing.ensures.copies
    c.len.ensures c.count_steps.ensures)
    c.push_summary.ensures
