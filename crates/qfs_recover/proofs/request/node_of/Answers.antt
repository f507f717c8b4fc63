use Rattle.qfs_recover.specs.Rest.{course_of, rest_of_recovery}
use Rattle.qfs_recover.proofs.Turns.{meta-node, restoring-node}
use Rattle.qfs_recover.proofs.request.node_of.Goals as goal

pub returns-in-Restoring : goal.returns-in-Restoring
unfolding rest_of_recovery
returns-in-Restoring c =
    let layout = c.args.layout.now in
    let at = rw c.in-Restoring.is at c.requires in
    rw c.in-Restoring.is
    (restoring-node layout (course_of layout c.in-Restoring.field-0) c.in-Restoring.restoring at.1.read.readable)

pub returns-in_default : goal.returns-in_default
returns-in_default c =
    meta-node c.args.layout.now c.args.stage.now c.in_default.not-Restoring c.in_default.not-Delivering c.in_default.not-Ended
