use Rattle.std.proofs.Common.{◌∙◌, sym}
use Rattle.qfs_repair.proofs.Answered.{confirm-ends, confirm-goes_on}
use Rattle.qfs_repair.proofs.turn.after_confirming.Goals as goal

pub returns-in-Some-clause-rest : goal.returns-in-Some-clause-rest
returns-in-Some-clause-rest c = λ course.
    c.give_up.ensures.rest course
    ∙ confirm-ends course c.args.grant c.args.answer.now c.in-Some.ending (sym c.of_meta.ensures ∙ c.in-Some.is)

pub returns-in-None-clause-rest : goal.returns-in-None-clause-rest
returns-in-None-clause-rest c = λ course.
    c.confirmed.ensures.rest course
    ∙ confirm-goes_on course c.args.grant c.args.answer.now (sym c.of_meta.ensures ∙ c.in-None.is)
