use Rattle.qfs_actor.proofs.States.{may_ask}
use Rattle.qfs_actor.proofs.actor.Actor.next.Goals as goal

pub next-requires : goal.next-requires
next-requires c = may_ask c.self.inside.model.value c.self.inside.state c.self.invariant (rw (← c.self.view_is) at c.requires)
