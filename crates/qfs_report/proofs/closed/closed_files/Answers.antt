use Rattle.std.proofs.Common.{ap}
use Rattle.qfs_report.specs.AuditTables.{closed_of}
use Rattle.qfs_report.proofs.Paths.{none_rise, no_paths}
use Rattle.qfs_report.proofs.closed.closed_files.Goals as goal

pub loop-row-init : goal.loop-row-init
loop-row-init c = record {
  files = ap (λ files. closed_of files c.args.tree.now)
      (no_paths c.new-closed.result c.new-closed.ensures);
  rising = none_rise c.new-closed.result c.new-closed.ensures;
}
