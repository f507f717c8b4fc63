use Rattle.qfs_base.proofs.OrderLaws.{another_last}
use Rattle.qfs_base.proofs.order.Order.set_last.Goals as goal

pub returns : goal.returns
returns c = another_last c.self.inside.runs c.self.inside.last c.args.self.now c.args.step c.self.invariant.0 c.self.view_is c.requires
