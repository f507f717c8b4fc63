use Rattle.std.proofs.Common.{◌≢◌, ◌∙◌, sym, ap, length}
use Rattle.qfs_machine.specs.Endings.{report_of_ending}
use Rattle.qfs_window.specs.WindowReads.{rest_of_step, slot_bytes}
use Rattle.qfs_window.proofs.Fetches.{filled-short, filled-whole}
use Rattle.qfs_window.proofs.window_read.taken.Goals as goal

pub returns-then-room-slot_bytes-clause-rest : goal.returns-then-room-slot_bytes-clause-rest
unfolding rest_of_step report_of_ending
returns-then-room-slot_bytes-clause-rest c = λ reading behind same.
    let short : length c.args.room.now ≢ slot_bytes reading.stripe c.args.read =
    λ e. c.if-room-slot_bytes.true (e ∙ ap (λ s. slot_bytes s c.args.read) same ∙ sym c.slot_bytes.ensures.value) in
    filled-short reading behind c.args.read c.args.room.now short

pub returns-clause-rest : goal.returns-clause-rest
returns-clause-rest c = λ reading behind same.
    c.given.ensures.rest reading behind same
    ∙ filled-whole reading behind c.args.read c.args.room.now
    (c.if-room-slot_bytes.false ∙ c.slot_bytes.ensures.value ∙ sym (ap (λ s. slot_bytes s c.args.read) same))
