use Rattle.std.proofs.Common.{◌∙◌, sym, arith}
use Rattle.qfs_window.specs.WindowReads.{rest_of_step}
use Rattle.qfs_window.proofs.Fetches.{without-stops, without-goes_on, wants-without}
use Rattle.qfs_window.proofs.window_read.failed.Goals as goal

pub returns-then-are_too_few-clause-rest : goal.returns-then-are_too_few-clause-rest
unfolding rest_of_step
returns-then-are_too_few-clause-rest c = λ reading behind.
    without-stops reading behind c.args.read c.args.cause (sym c.if-are_too_few.ensures)

pub next_slot-requires-clause-more : goal.next_slot-requires-clause-more
next_slot-requires-clause-more c =
    let readable = c.requires.readable in
    wants-without c.args.read.sources c.args.read.have c.args.read.slot c.args.cause readable.more (omega (arith, readable.slot, readable.nine)) (sym c.if-are_too_few.ensures)

pub returns-clause-rest : goal.returns-clause-rest
returns-clause-rest c = λ reading behind.
    c.next_slot.ensures.rest reading behind
    ∙ without-goes_on reading behind c.args.read c.args.cause c.requires.readable.more.few (sym c.if-are_too_few.ensures)
