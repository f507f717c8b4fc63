use Rattle.std.proofs.Common.{◌∙◌, sym}
use Rattle.qfs_machine.proofs.Endings.{on_answer-nothing, on_answer-none}
use Rattle.qfs_model_actor.specs.Get.{was_opened}
use Rattle.qfs_model_actor.specs.Hold.{nothing, end_with}
use Rattle.qfs_reader.specs.Rest.{again}
use Rattle.qfs_reader.proofs.Answered.{ended-rest, ended-at}
use Rattle.qfs_reader.proofs.meta.opened.Goals as goal

pub returns-in-Some-clause-rest : goal.returns-in-Some-clause-rest
returns-in-Some-clause-rest c =
    let get = c.args.get.now in
    ended-rest get _ _ c.ended.ensures
    ∙ sym (on_answer-nothing (was_opened get.layout (again get c.args.more) get.range) c.args.answer c.in-Some.ending (sym c.of_meta.ensures ∙ c.in-Some.is))

pub returns-in-None-clause-rest : goal.returns-in-None-clause-rest
returns-in-None-clause-rest c =
    let get = c.args.get.now in
    c.opened_or_refused.ensures.rest
    ∙ sym (on_answer-none (end_with nothing) (was_opened get.layout (again get c.args.more) get.range) c.args.answer (sym c.of_meta.ensures ∙ c.in-None.is))
