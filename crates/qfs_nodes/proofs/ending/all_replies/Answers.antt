-- One actor more.
use Rattle.std.proofs.Common.{◌++◌, ◌∙◌, ap₂, sym}
use Rattle.qfs_nodes.proofs.Starts.{replies_push}
use Rattle.qfs_nodes.proofs.ending.all_replies.Goals as goal

pub loop-actor-preserved : goal.loop-actor-preserved
loop-actor-preserved c =
    c.in_ok-append.ensures.ok ∙ ap₂ (λ a b. a ++ b) c.loop-actor.invariant c.into_replies.ensures
    ∙ sym (replies_push c.loop-actor.yielded c.in-Some.actor)
