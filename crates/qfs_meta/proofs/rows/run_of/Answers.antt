use Rattle.std.proofs.Common.{rules}
use Rattle.std.proofs.lemmas.List.Sorted.{IsPartitionPoint-from_clause}
use Rattle.std.specs.Ordering.{is_gt, is_ge}
use Rattle.qfs_meta.proofs.RunLaws.{run_is}
use Rattle.qfs_meta.proofs.rows.run_of.Goals as goal

pub returns : goal.returns
returns g c =
    let order = g.K.Key.order c.args.key.now in
    run_is order c.args.rows.now _ _ c.partition_point.ensures.bound c.partition_point-2.ensures.bound
    (IsPartitionPoint-from_clause (λ row. is_gt (order row)) _ _ c.partition_point.ensures.partitioned c.requires.0 (λ a r q k. search rules))
    (IsPartitionPoint-from_clause (λ row. is_ge (order row)) _ _ c.partition_point-2.ensures.partitioned c.requires.1 (λ a r q k. search rules))
