use Rattle.std.proofs.Common.{refl, sym}
use Rattle.qfs_base.specs.Table.{has_key}
use Rattle.qfs_meta.proofs.RunLaws.{part_of, filter_part}
use Rattle.qfs_meta.proofs.rows.rows_of.Goals as goal

pub returns : goal.returns
returns g c =
    let order = g.K.Key.order c.args.key.now in
    let run = c.run_of-run.result in
    sym (filter_part (has_key order) c.args.rows.now run (part_of (has_key order) order c.args.rows.now run (λ row. refl) c.run_of-run.ensures))
