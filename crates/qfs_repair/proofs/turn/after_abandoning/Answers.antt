use Rattle.std.proofs.Common.{◌∙◌, sym}
use Rattle.qfs_repair.specs.Deliveries.{rest_of_step}
use Rattle.qfs_repair.proofs.Answered.{abandon-ends, abandon-goes_on}
use Rattle.qfs_repair.proofs.turn.after_abandoning.Goals as goal

pub returns-in-Some-clause-rest : goal.returns-in-Some-clause-rest
unfolding rest_of_step
returns-in-Some-clause-rest c = λ course.
    abandon-ends course c.args.grant c.args.after c.args.answer.now c.in-Some.ending (sym c.of_meta.ensures ∙ c.in-Some.is)

pub returns-in-None-clause-rest : goal.returns-in-None-clause-rest
returns-in-None-clause-rest c = λ course.
    c.abandoned.ensures.rest course
    ∙ abandon-goes_on course c.args.grant c.args.after c.args.answer.now (sym c.of_meta.ensures ∙ c.in-None.is)
