-- The lowest bit that is set tells the least member.
use Rattle.std.proofs.Common.{◌≡◌, [], w64, arith}
use Rattle.qfs_base.specs.NumberSetLaws.{members_of_bits-none, members_of_bits-least}
use Rattle.qfs_base.proofs.server_set.Servers.take_least.Goals as goal

pub returns-then-left-eq0 : goal.returns-then-left-eq0
returns-then-left-eq0 c =
    let none : c.args.self.now ≡ [] = rw (← c.self.view_is, c.if-left-eq0.true) (members_of_bits-none 1 64) in
    (none, none)

pub returns : goal.returns
returns c = rw (← c.self.view_is) (members_of_bits-least w64 1 c.self.inside.left (omega arith) c.self.invariant)
