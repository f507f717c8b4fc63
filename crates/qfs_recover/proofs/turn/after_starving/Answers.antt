use Rattle.std.proofs.Common.{◌∙◌}
use Rattle.qfs_machine.specs.Endings.{report_of_ending}
use Rattle.qfs_recover.specs.Rest.{course_of, report_of_recovery, rest_of_recovery}
use Rattle.qfs_recover.proofs.Turns.{starving-meta, starving-server}
use Rattle.qfs_recover.proofs.turn.after_starving.Goals as goal

pub returns-in-Meta-clause-rest : goal.returns-in-Meta-clause-rest
returns-in-Meta-clause-rest c =
    rw c.in-Meta.is
    (c.after_giving_up.ensures.rest
    ∙ starving-meta c.args.layout.now c.args.errand c.args.grant.now c.args.sources.now c.in-Meta.answer)

pub returns-in-Chunk-clause-rest : goal.returns-in-Chunk-clause-rest
unfolding rest_of_recovery report_of_recovery report_of_ending
returns-in-Chunk-clause-rest c =
    rw (c.ended.ensures, c.in-Chunk.is)
    (starving-server (course_of c.args.layout.now c.args.errand) c.args.grant.now c.args.sources.now c.in-Chunk.field-0)
