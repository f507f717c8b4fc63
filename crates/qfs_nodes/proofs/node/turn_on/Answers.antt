-- An actor that hasn't finished has a request.
use Rattle.std.proofs.Common.{◌≡◌, ◌∙◌, sym, true}
use Rattle.qfs_model_actor.specs.Actor.{has_finished}
use Rattle.qfs_nodes.proofs.Asked.{none-finished}
use Rattle.qfs_nodes.proofs.node.turn_on.Goals as goal

pub unreachable-requires : goal.unreachable-requires
unreachable-requires g c =
    let done : has_finished c.args.actor.now.actor ≡ true =
    none-finished c.args.actor.now.actor (sym c.next.ensures.request ∙ c.in-None.is) in
    let going = c.requires.unfinished in cc
