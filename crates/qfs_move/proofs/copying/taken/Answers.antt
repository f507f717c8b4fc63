use Rattle.std.proofs.Common.{◌≢◌, ◌∙◌, sym, length}
use Rattle.qfs_machine.specs.Endings.{report_of_ending}
use Rattle.qfs_move.specs.Rest.{course_of, report_of_move, rest_of_move}
use Rattle.qfs_move.specs.Turns.{group_bytes}
use Rattle.qfs_move.proofs.Groups.{filled-short, filled-whole}
use Rattle.qfs_move.proofs.copying.taken.Goals as goal

pub returns-then-room-size_of_group-clause-rest : goal.returns-then-room-size_of_group-clause-rest
unfolding rest_of_move report_of_move report_of_ending
returns-then-room-size_of_group-clause-rest c =
    let short : length c.args.room.now ≢ group_bytes c.args.layout.now c.args.copying =
    λ e. c.if-room-size_of_group.true (e ∙ sym c.size_of_group.ensures) in
    rw c.ended.ensures
    (filled-short c.args.layout.now (course_of c.args.layout.now c.args.errand c.args.copying.source) c.args.copying c.args.room.now short)

pub returns-clause-rest : goal.returns-clause-rest
returns-clause-rest c =
    c.given.ensures.rest
    ∙ filled-whole c.args.layout.now (course_of c.args.layout.now c.args.errand c.args.copying.source) c.args.copying c.args.room.now
    (c.if-room-size_of_group.false ∙ c.size_of_group.ensures)
