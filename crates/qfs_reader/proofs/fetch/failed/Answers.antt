use Rattle.std.proofs.Common.{◌∙◌, sym, arith}
use Rattle.qfs_reader.proofs.Fetches.{without-stops, without-goes_on, wants-without}
use Rattle.qfs_reader.proofs.fetch.failed.Goals as goal

pub returns-then-are_too_few-clause-rest : goal.returns-then-are_too_few-clause-rest
returns-then-are_too_few-clause-rest c =
    c.too_few.ensures.rest ∙ without-stops c.args.get.now c.args.attempt c.args.position c.args.cause (sym c.if-are_too_few.ensures)

pub next_slot-requires-clause-more : goal.next_slot-requires-clause-more
next_slot-requires-clause-more c =
    let readable = c.requires.readable in
    wants-without c.args.position.sources c.args.position.have c.args.position.slot c.args.cause readable.more (omega (arith, readable.slot, readable.nine)) (sym c.if-are_too_few.ensures)

pub returns-clause-rest : goal.returns-clause-rest
returns-clause-rest c =
    c.next_slot.ensures.rest
    ∙ without-goes_on c.args.get.now c.args.attempt c.args.position c.args.cause c.requires.readable.more.few (sym c.if-are_too_few.ensures)
