-- A word with no bit set tells no member.
use Rattle.qfs_base.specs.NumberSetLaws.{members_of_bits-none}
use Rattle.qfs_base.proofs.server_set.ServerSet.none.Goals as goal

pub returns : goal.returns
returns c = members_of_bits-none 1 64
