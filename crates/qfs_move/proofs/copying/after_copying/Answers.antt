use Rattle.qfs_machine.specs.Endings.{report_of_ending}
use Rattle.qfs_move.specs.Rest.{course_of, report_of_move, rest_of_move}
use Rattle.qfs_move.proofs.Groups.{group-meta}
use Rattle.qfs_move.proofs.copying.after_copying.Goals as goal

pub returns-in-Meta-clause-rest : goal.returns-in-Meta-clause-rest
unfolding rest_of_move report_of_move report_of_ending
returns-in-Meta-clause-rest c =
    rw (c.ended.ensures, c.in-Meta.is)
    (group-meta c.args.layout.now (course_of c.args.layout.now c.args.errand c.args.copying.source) c.args.copying c.in-Meta.field-0 c.requires.at.more)
