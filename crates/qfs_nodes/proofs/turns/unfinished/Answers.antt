-- One actor more.
use Rattle.qfs_nodes.proofs.Starts.{unfinished-none, unfinished_step}
use Rattle.std.proofs.Common.{◌∙◌}
use Rattle.qfs_nodes.proofs.turns.unfinished.Goals as goal

pub loop-actor-init : goal.loop-actor-init
loop-actor-init c = c.new-turn.ensures ∙ unfinished-none

pub loop-actor-preserved : goal.loop-actor-preserved
loop-actor-preserved c =
    unfinished_step c.args.actors.now c.loop-actor.actor-index c.actor-item.result c.loop-actor.turn _ c.loop-actor.invariant
    c.loop-actor-test.true c.actor-item.is c.in_ok-push_unfinished.ensures
