use Rattle.std.proofs.Common.{◌∙◌}
use Rattle.qfs_recover.specs.Rest.{course_of, reading_in, behind_group, rest_of_recovery, rest_of_restoring}
use Rattle.qfs_recover.proofs.Groups.{group-begins}
use Rattle.qfs_recover.proofs.restoring.begin_group.Goals as goal

pub returns-clause-rest : goal.returns-clause-rest
unfolding rest_of_recovery rest_of_restoring
returns-clause-rest c =
    let layout = c.args.layout.now in
    let course = course_of layout c.args.errand in
    c.begin_window-read.ensures.rest (reading_in layout course c.args.grant)
    (behind_group layout course c.args.grant c.args.group c.args.chunk.items)
    ∙ rw c.window_of-window.ensures.window
    (group-begins layout course c.args.grant c.args.group c.args.sources c.args.chunk.items c.requires.more)
