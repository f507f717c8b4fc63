-- A number outside the range is no member, and the bit tells of each other one.
use Rattle.std.proofs.Common.{sym, arith}
use Rattle.qfs_base.specs.NumberSetLaws.{has-members_of_bits, has-members_of_bits_low, has-members_of_bits_high}
use Rattle.qfs_base.proofs.server_set.ServerSet.contains.Goals as goal
use Rattle.qfs_base.proofs.server_set.ServerSet.contains.Goals.{then-server-lt1-via-then-server-lt1, then-server-lt1-via-else-server-lt1+then-server-gt64}

pub returns-then-server-lt1 : goal.returns-then-server-lt1
returns-then-server-lt1 c =
    rw (← c.self.view_is) (elim c.then-server-lt1.branch [
      | then-server-lt1-via-then-server-lt1 w ↦ sym (has-members_of_bits_low 1 64 _ c.args.server (omega arith))
      | then-server-lt1-via-else-server-lt1+then-server-gt64 w ↦ sym (has-members_of_bits_high 1 64 _ c.args.server (omega arith))
    ])

pub returns : goal.returns
returns c = rw (← c.self.view_is) (sym (has-members_of_bits 1 64 _ c.args.server (omega arith) (omega arith)))
