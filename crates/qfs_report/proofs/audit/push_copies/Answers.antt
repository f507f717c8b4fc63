use Rattle.std.proofs.Common.{codes, decimal}
use Rattle.qfs_report.proofs.AuditSteps.{three_counts}
use Rattle.qfs_report.proofs.Runs.{on_ok}
use Rattle.qfs_report.proofs.audit.push_copies.Goals as goal

pub returns : goal.returns
returns c =
    let s = c.args.summary.now in
    on_ok c.push_count-3.result
    (three_counts c.args.out.now.items c.push_count.new.out.items c.push_count-2.new.out.items
    c.push_count-3.new.out.items
    (codes "copies") (decimal s.copies) (codes "condemned") (decimal s.condemned) (codes "steps")
    (decimal s.steps)
    c.in_ok-push_count.ensures c.in_ok-push_count-2.ensures)
    c.push_count-3.ensures
