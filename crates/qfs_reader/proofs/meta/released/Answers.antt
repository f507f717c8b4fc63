use Rattle.std.proofs.Common.{◌∙◌, sym}
use Rattle.qfs_machine.proofs.Endings.{on_answer-some, on_answer-none}
use Rattle.qfs_model_actor.specs.Hold.{was_released}
use Rattle.qfs_model_actor.specs.Work.{ends}
use Rattle.qfs_reader.specs.Rest.{rest_of_get}
use Rattle.qfs_reader.proofs.Answered.{ended-rest, ended-at}
use Rattle.qfs_reader.proofs.meta.released.Goals as goal

pub returns-in-Some-clause-rest : goal.returns-in-Some-clause-rest
returns-in-Some-clause-rest c =
    ended-rest c.args.get.now _ _ c.ended.ensures
    ∙ sym (on_answer-some (was_released (rest_of_get c.args.get.now c.args.next)) c.args.answer.now c.in-Some.ending (sym c.of_meta.ensures ∙ c.in-Some.is))

pub returns-in-None-clause-rest : goal.returns-in-None-clause-rest
returns-in-None-clause-rest c =
    c.given_back.ensures.rest
    ∙ sym (on_answer-none ends (was_released (rest_of_get c.args.get.now c.args.next)) c.args.answer.now (sym c.of_meta.ensures ∙ c.in-None.is))
