-- Which node a put asks at each stage.
use Rattle.std.proofs.Common.{◌≡◌, refl, Some, None}
use Rattle.std.specs.Option.{option_map}
use Rattle.qfs_base.specs.declared.chunk.Copy.{Copy}
use Rattle.qfs_model_actor.specs.Ask.{ask, ask_server}
use Rattle.qfs_model_actor.specs.Hold.{ask_or, give_back, end_with}
use Rattle.qfs_model_actor.specs.Put.{ask_grant, store, close_file, put_work}
use Rattle.qfs_model_actor.specs.Work.{node_of_request, request_in}
use Rattle.qfs_writer.specs.declared.stage.PutEnding.{PutEnding}
use Rattle.qfs_writer.specs.declared.stage.Put.{Put}
use Rattle.qfs_writer.specs.declared.stage.PutSlot.{PutSlot}
use Rattle.qfs_writer.specs.declared.stage.Stage.{Stage}
use Rattle.qfs_writer.specs.declared.stage.Stage.TheVariants as At
use Rattle.qfs_writer.specs.Moves.{AsksMeta}
use Rattle.qfs_writer.specs.Rest.{rest_of_put, grant_of}
use Rattle.qfs_writer.proofs.Puts.{rest_of_grant-asks}

pub server-asked : (put : Put) (at : PutSlot) (copy : Copy)
    → Some copy.server ≡ option_map node_of_request (request_in (rest_of_put put (At.Storing at copy)))
unfolding rest_of_put store ask_server grant_of request_in node_of_request
server-asked put at copy = refl

pub meta-asked : (put : Put) (stage : Stage) → AsksMeta stage → Some 0 ≡ option_map node_of_request (request_in (rest_of_put put stage))
unfolding rest_of_put ask_grant close_file put_work ask ask_or end_with give_back request_in node_of_request
meta-asked put At.Creating asks = refl
meta-asked put (At.Granting at) asks = rw (rest_of_grant-asks put at at.grants at.again) refl
meta-asked put (At.Storing at copy) asks = absurd asks
meta-asked put (At.Closing file) asks = refl
meta-asked put (At.Aborting file index slot) asks = refl
meta-asked put (At.GivingUp file ending) asks = refl
meta-asked put (At.Ended ending) asks = absurd asks

-- a put that asks nothing has ended
pub asks-until_ended : (put : Put) (stage : Stage) → ((ending : PutEnding) → stage ≡ At.Ended ending → ⊥)
    → request_in (rest_of_put put stage) ≡ None → ⊥
unfolding rest_of_put ask_grant store close_file put_work ask ask_or ask_server end_with give_back request_in
asks-until_ended put At.Creating other none = cc
asks-until_ended put (At.Granting at) other none = let asks = rw (rest_of_grant-asks put at at.grants at.again) at none in cc
asks-until_ended put (At.Storing at copy) other none = cc
asks-until_ended put (At.Closing file) other none = cc
asks-until_ended put (At.Aborting file index slot) other none = cc
asks-until_ended put (At.GivingUp file ending) other none = cc
asks-until_ended put (At.Ended ending) other none = other ending refl
