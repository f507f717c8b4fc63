-- The word with one more bit tells one more member.
use Rattle.std.proofs.Common.{w64, arith}
use Rattle.std.proofs.lemmas.Nat.{or_lt}
use Rattle.qfs_base.specs.NumberSetLaws.{members_of_bits-set}
use Rattle.qfs_base.proofs.server_set.ServerSet.insert.Goals as goal

pub invariant_of-self : goal.invariant_of-self
invariant_of-self c = or_lt 64 _ _ c.self.invariant (omega arith)

pub returns : goal.returns
returns c = rw (← c.self.view_is) (members_of_bits-set w64 1 64 _ c.args.server c.requires.low (omega arith) (omega arith))
