use Rattle.qfs_move.specs.Rest.{course_of, rest_of_move}
use Rattle.qfs_move.proofs.Groups.{group-node}
use Rattle.qfs_move.proofs.request.node_of.Goals as goal

pub returns-in-Copying : goal.returns-in-Copying
unfolding rest_of_move
returns-in-Copying c =
    let layout = c.args.layout.now in
    let at = rw c.in-Copying.is at c.requires in
    rw c.in-Copying.is
    (group-node layout (course_of layout c.in-Copying.field-0 c.in-Copying.copying.source) c.in-Copying.copying at.1.more)
