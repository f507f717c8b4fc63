use Rattle.std.proofs.Common.{◌≡◌, ◌∙◌, sym, ap, Some, None}
use Rattle.qfs_machine.specs.Endings.{ending_of_meta, ended_or}
use Rattle.qfs_machine.proofs.Endings.{on_answer-ends, on_answer-none}
use Rattle.qfs_model_actor.specs.Hold.{end_with}
use Rattle.qfs_writer.specs.Moves.{hold_at, on_answer_at}
use Rattle.qfs_writer.proofs.turn.on_meta.Goals as goal

pub returns-in-Some-clause-rest : goal.returns-in-Some-clause-rest
unfolding ended_or
returns-in-Some-clause-rest c =
    let give_up = end_with (hold_at c.args.stage) in
    let next = on_answer_at c.args.put.now c.args.stage in
    let ends : ending_of_meta c.args.answer.now ≡ Some c.in-Some.ending = sym c.of_meta.ensures ∙ c.in-Some.is in
    c.end.ensures.rest ∙ sym (on_answer-ends give_up next c.args.answer.now ∙ ap (ended_or give_up (next c.args.answer.now)) ends)

pub returns-in-None-clause-rest : goal.returns-in-None-clause-rest
returns-in-None-clause-rest c =
    let goes : ending_of_meta c.args.answer.now ≡ None = sym c.of_meta.ensures ∙ c.in-None.is in
    c.answered.ensures.rest ∙ sym (on_answer-none (end_with (hold_at c.args.stage)) (on_answer_at c.args.put.now c.args.stage) c.args.answer.now goes)
