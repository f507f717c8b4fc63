use Rattle.std.proofs.Common.{sym, ◌∙◌}
use Rattle.qfs_report.specs.AuditTables.{paths_of}
use Rattle.qfs_report.proofs.AuditSteps.{line_more}
use Rattle.qfs_report.proofs.audit.push_lines.Goals as goal

pub loop-block-preserved-in-Continue-1 : goal.loop-block-preserved-in-Continue-1
loop-block-preserved-in-Continue-1 c =
    line_more (paths_of c.args.closed.now) c.loop-block.block-iterator c.next.new.self
    c.in-Some.block.now c.in-Some.held.now
    c.in-Some-path_of.path.now c.loop-block.out.items c.push_line.new.out.items
    c.in-Some.ensures.steps
    (sym c.in-Some-path_of.ensures) c.in_ok-push_line.ensures
    ∙ c.loop-block.invariant
