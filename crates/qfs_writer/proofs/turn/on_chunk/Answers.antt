use Rattle.std.proofs.Common.{◌≡◌, ◌∙◌, sym, Some, None}
use Rattle.qfs_machine.specs.Endings.{ending_of_chunk}
use Rattle.qfs_machine.proofs.Endings.{on_served-some, on_served-none}
use Rattle.qfs_model_actor.specs.Hold.{unclosed}
use Rattle.qfs_writer.specs.Moves.{behind_store, on_store}
use Rattle.qfs_writer.specs.Rest.{rest_of_put}
use Rattle.qfs_writer.proofs.turn.on_chunk.Goals as goal

pub returns-in-Some-clause-rest : goal.returns-in-Some-clause-rest
unfolding rest_of_put on_store
returns-in-Some-clause-rest c =
    let ends : ending_of_chunk c.args.answer.now ≡ Some c.in-Some.ending = sym c.of_chunk.ensures ∙ c.in-Some.is in
    sym (on_served-some (unclosed c.args.at.file) (behind_store c.args.put.now c.args.at) c.args.answer.now c.in-Some.ending ends)

pub returns-in-None-clause-rest : goal.returns-in-None-clause-rest
unfolding on_store
returns-in-None-clause-rest c =
    let goes : ending_of_chunk c.args.answer.now ≡ None = sym c.of_chunk.ensures ∙ c.in-None.is in
    c.stored.ensures.rest ∙ sym (on_served-none (unclosed c.args.at.file) (behind_store c.args.put.now c.args.at) c.args.answer.now goes)
