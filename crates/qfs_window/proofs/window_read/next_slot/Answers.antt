use Rattle.std.proofs.Common.{arith}
use Rattle.qfs_window.specs.WindowReads.{rest_from_slot, rest_of_step}
use Rattle.qfs_window.proofs.Fetches.{from-next, reads-next}
use Rattle.qfs_window.proofs.window_read.next_slot.Goals as goal

pub next_source-slot-requires : goal.next_source-slot-requires
next_source-slot-requires c = omega (arith, c.requires.more.before, c.requires.more.enough, c.requires.more.few)

pub returns-clause-rest : goal.returns-clause-rest
unfolding rest_of_step rest_from_slot
returns-clause-rest c = λ reading behind. from-next reading behind c.args.read _ _ _ c.next_source-slot.ensures c.requires.more.few

pub returns-clause-at : goal.returns-clause-at
returns-clause-at c =
    record { readable = reads-next _ _ _ _ _ c.requires.more c.next_source-slot.ensures; rows = c.requires.rows; room = c.requires.room }
