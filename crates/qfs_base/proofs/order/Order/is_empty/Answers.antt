use Rattle.std.proofs.Common.{◌≡◌, [], subst, IsTrue}
use Rattle.qfs_base.proofs.OrderLaws.{empty_exactly}
use Rattle.qfs_base.proofs.order.Order.is_empty.Goals as goal

pub returns : goal.returns
returns c =
    subst (λ steps. (IsTrue c.is_none.result → steps ≡ []) × (steps ≡ [] → IsTrue c.is_none.result)) c.self.view_is
    (empty_exactly c.self.inside.runs c.self.inside.last c.is_none.result c.self.invariant.0 c.is_none.ensures)
