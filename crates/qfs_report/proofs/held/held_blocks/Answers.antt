use Rattle.std.proofs.Common.{ap}
use Rattle.qfs_report.specs.AuditTables.{table_of}
use Rattle.qfs_report.proofs.AuditLaws.{no-blocks-rise}
use Rattle.qfs_report.proofs.held.held_blocks.Goals as goal

pub loop-row-init : goal.loop-row-init
loop-row-init c = record {
  table = ap (λ table. table_of c.args.lives.now table c.args.slots.now) c.new-blocks.ensures;
  rising = no-blocks-rise c.new-blocks.result c.new-blocks.ensures;
}
