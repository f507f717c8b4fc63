use Rattle.qfs_actors.proofs.States.{may_ask}
use Rattle.qfs_actors.proofs.actor.Actor.next.Goals as goal

pub next-requires : goal.next-requires
next-requires g c =
    let may =
    may_ask c.self.inside.model.value c.self.inside.state c.self.invariant
    (rw (← c.self.view_is) at c.requires) in
    (c.type_bounds.send-M, (c.type_bounds.sync-M, may))
