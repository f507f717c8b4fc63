-- What is asked.
use Rattle.std.proofs.Common.{◌≡◌, true, None, ap}
use Rattle.std.specs.Prelude.{is_none}
use Rattle.qfs_model_actor.specs.Actor.{Actor, request_of, has_finished}

-- an actor without a request has finished
pub none-finished : (actor : Actor) → request_of actor ≡ None → has_finished actor ≡ true
unfolding has_finished
none-finished actor none = ap is_none none
