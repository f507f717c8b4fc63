use Rattle.std.proofs.Common.{◌∙◌, sym}
use Rattle.qfs_machine.proofs.Endings.{on_served-some, on_served-none}
use Rattle.qfs_model_actor.specs.Hold.{opened}
use Rattle.qfs_reader.specs.Rest.{rest_of_get, report_of_get}
use Rattle.qfs_reader.proofs.Fetches.{position-served}
use Rattle.qfs_reader.proofs.fetch.fetched.Goals as goal

pub returns-in-Some-clause-rest : goal.returns-in-Some-clause-rest
unfolding rest_of_get report_of_get
returns-in-Some-clause-rest c =
    sym (position-served c.args.get.now c.args.attempt c.args.position c.args.reply.now c.requires.at.readable
    ∙ on_served-some (opened c.args.attempt.opened.lease) _ c.args.reply.now.answer c.in-Some.ending (sym c.of_chunk.ensures ∙ c.in-Some.is))

pub returns-in-None-clause-rest : goal.returns-in-None-clause-rest
returns-in-None-clause-rest c =
    c.answered.ensures.rest
    ∙ sym (position-served c.args.get.now c.args.attempt c.args.position c.args.reply.now c.requires.at.readable
    ∙ on_served-none (opened c.args.attempt.opened.lease) _ c.args.reply.now.answer (sym c.of_chunk.ensures ∙ c.in-None.is))
