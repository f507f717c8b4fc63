use Rattle.qfs_actors.proofs.States.{ok-can_ask}
use Rattle.qfs_actors.proofs.actor.Actor.ready.Goals as goal

pub returns-clause-ok : goal.returns-clause-ok
returns-clause-ok g c =
    let actor = c.self.inside.model.value in
    ok-can_ask c.ready.result actor c.ready.new.self
    (c.ready.ensures.of actor c.self.invariant) c.ready.ensures.ok
