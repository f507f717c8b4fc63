use Rattle.std.proofs.Common.{◌∙◌, sym}
use Rattle.qfs_machine.proofs.Endings.{on_served-some, on_served-none}
use Rattle.qfs_model_actor.specs.Hold.{end_with, granted}
use Rattle.qfs_move.specs.Rest.{course_of, rest_of_move}
use Rattle.qfs_move.proofs.Groups.{group-served}
use Rattle.qfs_repair.specs.Deliveries.{rest_of_after, rest_of_delivery}
use Rattle.qfs_move.proofs.copying.fetched.Goals as goal

pub returns-in-Some-clause-rest : goal.returns-in-Some-clause-rest
unfolding rest_of_move rest_of_delivery rest_of_after end_with
returns-in-Some-clause-rest c =
    let course = course_of c.args.layout.now c.args.errand c.args.copying.source in
    sym (group-served c.args.layout.now course c.args.copying c.args.reply.now c.requires.at.more
    ∙ on_served-some (granted c.args.copying.grant) _ c.args.reply.now.answer c.in-Some.ending (sym c.of_chunk.ensures ∙ c.in-Some.is))

pub returns-in-None-clause-rest : goal.returns-in-None-clause-rest
returns-in-None-clause-rest c =
    let course = course_of c.args.layout.now c.args.errand c.args.copying.source in
    c.answered.ensures.rest
    ∙ sym (group-served c.args.layout.now course c.args.copying c.args.reply.now c.requires.at.more
    ∙ on_served-none (granted c.args.copying.grant) _ c.args.reply.now.answer (sym c.of_chunk.ensures ∙ c.in-None.is))
