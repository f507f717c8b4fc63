use Rattle.std.proofs.Common.{◌∙◌, sym}
use Rattle.qfs_machine.proofs.Endings.{on_served-some, on_served-none}
use Rattle.qfs_window.specs.WindowReads.{rest_of_step}
use Rattle.qfs_window.proofs.Fetches.{read-served}
use Rattle.qfs_window.proofs.window_read.fetched.Goals as goal

pub returns-in-Some-clause-rest : goal.returns-in-Some-clause-rest
unfolding rest_of_step
returns-in-Some-clause-rest c = λ reading behind same.
    sym (read-served reading behind c.args.read c.args.reply.now c.requires.at.readable
    ∙ on_served-some reading.hold _ c.args.reply.now.answer c.in-Some.ending (sym c.of_chunk.ensures ∙ c.in-Some.is))

pub returns-in-None-clause-rest : goal.returns-in-None-clause-rest
returns-in-None-clause-rest c = λ reading behind same.
    c.answered.ensures.rest reading behind same
    ∙ sym (read-served reading behind c.args.read c.args.reply.now c.requires.at.readable
    ∙ on_served-none reading.hold _ c.args.reply.now.answer (sym c.of_chunk.ensures ∙ c.in-None.is))
