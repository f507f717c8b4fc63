use Rattle.qfs_move.proofs.Groups.{group-asks}
use Rattle.qfs_move.proofs.copying.fetch_request.Goals as goal

pub returns-clause-request : goal.returns-clause-request
returns-clause-request c = λ course.
    rw (c.from_vec.ensures, c.in_ok-room.ensures, c.size_of_group.ensures, c.group_start.ensures.value)
    (group-asks c.args.layout.now course c.args.copying.now c.requires.more)
