use Rattle.std.proofs.Common.{◌∙◌}
use Rattle.qfs_repair.proofs.Answered.{storing-meta, confirming-meta, abandoning-meta}
use Rattle.qfs_repair.proofs.turn.after_meta.Goals as goal

pub returns-in-Storing-clause-rest : goal.returns-in-Storing-clause-rest
returns-in-Storing-clause-rest c = λ course.
    rw c.in-Storing.is (storing-meta course c.in-Storing.field-0 c.in-Storing.field-1 c.args.answer.now)

pub returns-in-Confirming-clause-rest : goal.returns-in-Confirming-clause-rest
returns-in-Confirming-clause-rest c = λ course.
    rw c.in-Confirming.is
    (c.after_confirming.ensures.rest course ∙ confirming-meta course c.in-Confirming.grant c.args.answer.now)

pub returns-clause-rest : goal.returns-clause-rest
returns-clause-rest c = λ course.
    rw c.in-Abandoning.is
    (c.after_abandoning.ensures.rest course
    ∙ abandoning-meta course c.in-Abandoning.grant c.in-Abandoning.after c.args.answer.now)
