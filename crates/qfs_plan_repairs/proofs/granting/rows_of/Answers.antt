-- What the check leaves to show of `granting::rows_of`.
use Rattle.std.proofs.Common.{◌≤◌, subst}
use Rattle.qfs_plan_repairs.proofs.Rows.{behind_end}
use Rattle.qfs_plan_repairs.proofs.granting.rows_of.Goals as goal

pub returns-else-index-blocks_of : goal.returns-else-index-blocks_of
returns-else-index-blocks_of c =
    behind_end c.args.layout.now.s c.args.layout.now.r c.args.len c.args.index
    (subst (λ n. n ≤ c.args.index) c.blocks_of.ensures c.if-index-blocks_of.false)
