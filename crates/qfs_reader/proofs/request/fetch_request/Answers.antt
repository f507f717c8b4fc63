use Rattle.std.proofs.Common.{arith}
use Rattle.qfs_reader.proofs.Asked.{position-asks}
use Rattle.qfs_reader.proofs.request.fetch_request.Goals as goal

pub window_bytes-requires : goal.window_bytes-requires
window_bytes-requires c = c.requires.window.order.0.few

pub first_byte-requires : goal.first_byte-requires
first_byte-requires c = omega (arith, c.requires.window.order.0.within)

pub returns-clause-request : goal.returns-clause-request
returns-clause-request c =
    rw (c.in_ok-room.ensures, c.window_bytes.ensures.value, c.first_byte.ensures)
    (position-asks c.args.get.now c.args.attempt.now c.args.position.now c.requires.readable)
