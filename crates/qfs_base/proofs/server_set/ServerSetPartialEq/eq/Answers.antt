-- Two words are equal exactly where they tell the same members.
use Rattle.qfs_base.specs.NumberSetLaws.{pointwise-members_of_bits}
use Rattle.qfs_base.proofs.server_set.ServerSetPartialEq.eq.Goals as goal

pub returns : goal.returns
returns c = rw (← c.self.view_is, ← c.other.view_is) (pointwise-members_of_bits 1 64 _ _ c.self.invariant c.other.invariant)
