use Rattle.std.proofs.Common.{arith}
use Rattle.qfs_reader.specs.Rest.{rest_of_get, rest_from_slot}
use Rattle.qfs_reader.proofs.Fetches.{from-next, reads-next}
use Rattle.qfs_reader.proofs.fetch.next_slot.Goals as goal

pub next_source-slot-requires : goal.next_source-slot-requires
next_source-slot-requires c = omega (arith, c.requires.more.before, c.requires.more.enough, c.requires.more.few)

pub returns-clause-rest : goal.returns-clause-rest
unfolding rest_of_get rest_from_slot
returns-clause-rest c = from-next c.args.get.now c.args.attempt c.args.position _ _ _ c.next_source-slot.ensures c.requires.more.few

pub returns-clause-at : goal.returns-clause-at
returns-clause-at c =
    record { window = c.requires.window; readable = reads-next _ _ _ _ _ c.requires.more c.next_source-slot.ensures; room = c.requires.room }
