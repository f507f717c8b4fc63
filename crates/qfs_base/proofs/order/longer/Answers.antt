use Rattle.std.proofs.Common.{rules}
use Rattle.qfs_base.proofs.OrderLaws.{another_step, by_sum, no_last}
use Rattle.qfs_base.proofs.order.longer.Goals as goal

pub returns-in-Some : goal.returns-in-Some
returns-in-Some c =
    by_sum c.checked_add.result c.args.runs.now c.args.more c.in-Some.run'.now (search rules) (search rules) (search rules)

pub returns-in_default : goal.returns-in_default
returns-in_default c =
    another_step c.args.runs.now c.args.more c.in-Some.run'.now (search rules) (search rules)

pub returns-in_default-2 : goal.returns-in_default-2
returns-in_default-2 c = no_last c.args.runs.now c.args.more (search rules)
