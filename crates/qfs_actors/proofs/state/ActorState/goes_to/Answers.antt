use Rattle.std.proofs.Common.{refl}
use Rattle.qfs_actors.proofs.States.{node_of-state}
use Rattle.qfs_actors.proofs.state.ActorState.goes_to.Goals as goal

pub returns-in-Some : goal.returns-in-Some
returns-in-Some g c =
    λ actor of. rw (c.goes_to.ensures, node_of-state actor c.args.self.now of, c.in-Some.is) refl

pub returns-in-None : goal.returns-in-None
returns-in-None g c =
    λ actor of. rw (node_of-state actor c.args.self.now of, c.in-None.is) refl
