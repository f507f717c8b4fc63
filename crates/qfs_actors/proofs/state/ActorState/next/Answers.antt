use Rattle.std.proofs.Common.{refl, subst}
use Rattle.qfs_actors.specs.State.{HasTaken}
use Rattle.qfs_actors.proofs.States.{had_taken, request_of-state, same_rest}
use Rattle.qfs_actors.proofs.state.ActorState.next.Goals as goal

pub returns-in-Some-clause-of : goal.returns-in-Some-clause-of
returns-in-Some-clause-of g c = λ actor of.
    let may = rw c.in-Some.is at c.requires in
    let room = rw c.in-Some.is at of.room in
    let asked = c.next.ensures in
    same_rest actor c.args.self.now _ c.in-Some.machine c.next.new.self of c.in-Some.is
    refl refl refl asked.rest refl
    (λ taken. room (had_taken _ _ _ may asked.request (subst HasTaken asked.out taken)))

pub returns-in-Some-clause-request : goal.returns-in-Some-clause-request
returns-in-Some-clause-request g c = λ actor of.
    rw (c.next.ensures.request, request_of-state actor c.args.self.now of, c.in-Some.is) refl

pub returns-in-Some-clause-out : goal.returns-in-Some-clause-out
returns-in-Some-clause-out g c = rw c.in-Some.is c.next.ensures.out

pub returns-in-None-clause-request : goal.returns-in-None-clause-request
returns-in-None-clause-request g c = λ actor of.
    rw (request_of-state actor c.args.self.now of, c.in-None.is) refl
