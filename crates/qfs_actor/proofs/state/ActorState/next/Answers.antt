use Rattle.std.proofs.Common.{refl}
use Rattle.qfs_actor.proofs.States.{has_taken, request_of-state, same_rest}
use Rattle.qfs_actor.proofs.state.ActorState.next.Goals as goal

pub returns-in-Some-clause-of : goal.returns-in-Some-clause-of
returns-in-Some-clause-of c = λ actor of.
    let may = rw c.in-Some.is at c.requires in
    let asking = rw c.in-Some.is at of.asks in
    let taken = rw c.in-Some.is at of.room in
    same_rest actor c.args.self.now _ c.in-Some.machine c.next.new.self of c.in-Some.is refl refl refl c.next.ensures.rest refl (taken (has_taken _ _ may asking))

pub returns-in-Some-clause-request : goal.returns-in-Some-clause-request
returns-in-Some-clause-request c = λ actor of. rw (c.next.ensures.request, request_of-state actor c.args.self.now of, c.in-Some.is) refl

pub returns-in-Some-clause-out : goal.returns-in-Some-clause-out
returns-in-Some-clause-out c = rw c.in-Some.is c.next.ensures.out

pub returns-in-None-clause-request : goal.returns-in-None-clause-request
returns-in-None-clause-request c = λ actor of. rw (request_of-state actor c.args.self.now of, c.in-None.is) refl
