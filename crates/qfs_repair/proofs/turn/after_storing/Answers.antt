use Rattle.std.proofs.Common.{◌∙◌, sym}
use Rattle.qfs_repair.specs.Deliveries.{rest_of_step}
use Rattle.qfs_repair.proofs.Answered.{put-ends, put-goes_on}
use Rattle.qfs_repair.proofs.turn.after_storing.Goals as goal

pub returns-in-Some-clause-rest : goal.returns-in-Some-clause-rest
unfolding rest_of_step
returns-in-Some-clause-rest c = λ course.
    put-ends course c.args.grant c.args.answer.now c.in-Some.ending (sym c.of_chunk.ensures ∙ c.in-Some.is)

pub returns-in-None-clause-rest : goal.returns-in-None-clause-rest
returns-in-None-clause-rest c = λ course.
    c.stored.ensures.rest course
    ∙ put-goes_on course c.args.grant c.args.answer.now (sym c.of_chunk.ensures ∙ c.in-None.is)
