use Rattle.std.proofs.Common.{sym}
use Rattle.qfs_window.proofs.Fetches.{read-asks}
use Rattle.qfs_window.proofs.window_read.fetch_request.Goals as goal

pub returns-clause-request : goal.returns-clause-request
returns-clause-request c = λ reading behind same block.
    rw (c.from_vec.ensures, c.in_ok-room.ensures, c.slot_bytes.ensures.value, sym same, sym block)
    (read-asks reading behind c.args.read.now c.requires.at.readable)
