use Rattle.std.proofs.Common.{◌≡◌, ◌-◌, drop}
use Rattle.qfs_image.specs.Rules.{follow}
use Rattle.qfs_image.proofs.order.are_in_order.Given as goal

abbrev pub invariant-loop-i : goal.invariant-loop-i
invariant-loop-i g l = follow g.T.InOrder.before (drop (l.i - 1) l.rows) ≡ follow g.T.InOrder.before l.rows
