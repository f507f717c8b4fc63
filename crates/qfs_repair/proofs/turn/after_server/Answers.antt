use Rattle.std.proofs.Common.{◌∙◌}
use Rattle.qfs_repair.proofs.Answered.{storing-server, other-server}
use Rattle.qfs_repair.proofs.turn.after_server.Goals as goal

pub returns-in-Storing-clause-rest : goal.returns-in-Storing-clause-rest
returns-in-Storing-clause-rest c = λ course room.
    rw c.in-Storing.is
    (c.after_storing.ensures.rest course
    ∙ storing-server course c.in-Storing.grant c.in-Storing.field-1 c.args.answer.now room)

pub returns : goal.returns
returns c =
    record {
      rest = λ course room. other-server course c.args.delivery c.args.answer.now room c.in_default.not-Storing;
      at = tt;
    }
