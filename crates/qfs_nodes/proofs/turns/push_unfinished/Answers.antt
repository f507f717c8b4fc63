-- An actor that goes to no node has finished.
use Rattle.std.proofs.Common.{◌≡◌, [], ◌∷◌, ◌++◌, ◌∙◌, ap, sym, true, false}
use Rattle.std.specs.Prelude.{is_some, not}
use Rattle.std.proofs.lemmas.List.{append-nil}
use Rattle.std.proofs.lemmas.Bool.{not-true, not-false}
use Rattle.qfs_model_actor.specs.Actor.{has_finished}
use Rattle.qfs_nodes.proofs.Starts.{node-finished}
use Rattle.qfs_nodes.proofs.turns.push_unfinished.Goals as goal

pub returns-then-is_none : goal.returns-then-is_none
returns-then-is_none c =
    let same : not (has_finished c.args.actor.now.actor) ≡ not c.is_none.result =
    sym (node-finished c.args.actor.now.actor) ∙ ap is_some (sym c.goes_to.ensures) ∙ c.is_none.ensures in
    let done : has_finished c.args.actor.now.actor ≡ true =
    not-false _ (same ∙ ap not c.if-is_none.true) in
    rw done (sym (append-nil c.args.turn.now))

pub returns : goal.returns
returns c =
    let same : not (has_finished c.args.actor.now.actor) ≡ not c.is_none.result =
    sym (node-finished c.args.actor.now.actor) ∙ ap is_some (sym c.goes_to.ensures) ∙ c.is_none.ensures in
    let going : has_finished c.args.actor.now.actor ≡ false =
    not-true _ (same ∙ ap not c.if-is_none.false) in
    rw going (c.in_ok-push.ensures.ok ∙ ap (λ n. c.args.turn.now ++ n ∷ []) c.number.ensures)
