-- A work along its replies, and an actor between two commands.
use Rattle.std.proofs.Common.{◌≡◌, List, [], ◌∷◌, ◌++◌, Some, refl, ap, ◌∙◌}
use Rattle.std.specs.Prelude.{option_map}
use Rattle.qfs_base.specs.declared.reply.NodeReply.{NodeReply}
use Rattle.qfs_base.specs.declared.request.NodeRequest.{NodeRequest}
use Rattle.qfs_model_actor.specs.Work.{Report, Work, ends, asks, goes_on, follow}
use Rattle.qfs_model_actor.specs.Actor.{Actor, work_left, moved_on, after_reply}

-- one more reply goes one step further
pub follow-append : (work : Work) (replies : List NodeReply) (reply : NodeReply)
    → follow work (replies ++ reply ∷ []) ≡ goes_on (follow work replies) reply
unfolding follow
follow-append work [] reply = refl
follow-append work (first ∷ replies) reply = follow-append (goes_on work first) replies reply

-- an actor whose command has ended with this reply has one more report
pub after_reply-ends : (actor : Actor) (reply : NodeReply) (work : Work) (report : Report)
    → work_left actor ≡ Some work → goes_on work reply ≡ ends report
    → after_reply actor reply ≡ record actor { ended = actor.ended ++ report ∷ []; heard = [] }
unfolding after_reply moved_on
after_reply-ends actor reply work report w e =
    ap (λ found. moved_on actor reply (option_map (λ w. goes_on w reply) found)) w ∙ ap (λ w. moved_on actor reply (Some w)) e

-- an actor whose command goes on has heard one more reply
pub after_reply-asks : (actor : Actor) (reply : NodeReply) (work : Work) (request : NodeRequest) (more : NodeReply → Work)
    → work_left actor ≡ Some work → goes_on work reply ≡ asks request more
    → after_reply actor reply ≡ record actor { heard = actor.heard ++ reply ∷ [] }
unfolding after_reply moved_on
after_reply-asks actor reply work request more w e =
    ap (λ found. moved_on actor reply (option_map (λ w. goes_on w reply) found)) w ∙ ap (λ w. moved_on actor reply (Some w)) e
