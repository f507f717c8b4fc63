use Rattle.std.proofs.Common.{◌≡◌, ◌∙◌, arith, min, ◌+◌}
use Rattle.qfs_reader.specs.Rest.{again, rest_of_get, report_of_get}
use Rattle.qfs_reader.proofs.Answered.{range-empty, range-some}
use Rattle.qfs_reader.proofs.meta.read.Goals as goal

pub returns-then-from-to-clause-rest : goal.returns-then-from-to-clause-rest
unfolding rest_of_get report_of_get
returns-then-from-to-clause-rest c =
    let get = c.args.get.now in
    let to : c.min-to.result ≡ min (get.range.from + get.range.count) c.args.opened.len = omega (arith, c.min-to.ensures, c.saturating_add.ensures, c.requires) in
    rw c.nothing.ensures (range-empty get.layout (again get c.args.more) c.args.opened get.range c.min-to.result to c.if-from-to.true)

pub next_block-requires-clause-first : goal.next_block-requires-clause-first
next_block-requires-clause-first c = omega (arith, c.blocks_touched-blocks.ensures.first)

pub returns-clause-rest : goal.returns-clause-rest
returns-clause-rest c =
    let get = c.args.get.now in
    let to : c.min-to.result ≡ min (get.range.from + get.range.count) c.args.opened.len = omega (arith, c.min-to.ensures, c.saturating_add.ensures, c.requires) in
    c.next_block.ensures.rest
    ∙ rw (c.blocks_touched-blocks.ensures.first, c.nothing-2.ensures) (range-some get.layout (again get c.args.more) c.args.opened get.range c.min-to.result to c.if-from-to.false)
