use Rattle.std.proofs.Common.{◌≢◌, ◌∙◌, sym, length}
use Rattle.qfs_reader.specs.Rest.{window_bytes}
use Rattle.qfs_reader.proofs.Answered.{unnamed-rest, ended-at}
use Rattle.qfs_reader.proofs.Fetches.{filled-short, filled-whole}
use Rattle.qfs_reader.proofs.fetch.taken.Goals as goal

pub window_bytes-requires : goal.window_bytes-requires
window_bytes-requires c = c.requires.at.window.order.0.few

pub returns-then-room-window_bytes-clause-rest : goal.returns-then-room-window_bytes-clause-rest
returns-then-room-window_bytes-clause-rest c =
    let short : length c.args.room.now ≢ window_bytes c.args.get.now.layout c.args.position.window =
    λ e. c.if-room-window_bytes.true (e ∙ sym c.window_bytes.ensures.value) in
    unnamed-rest c.args.get.now _ c.ended.ensures ∙ filled-short c.args.get.now c.args.attempt c.args.position c.args.room.now short

pub returns-then-room-window_bytes-clause-at : goal.returns-then-room-window_bytes-clause-at
returns-then-room-window_bytes-clause-at c = ended-at c.args.get.now _ _ c.ended.ensures

pub given-requires-clause-bytes : goal.given-requires-clause-bytes
given-requires-clause-bytes c = c.if-room-window_bytes.false ∙ c.window_bytes.ensures.value

pub returns-clause-rest : goal.returns-clause-rest
returns-clause-rest c =
    c.given.ensures.rest
    ∙ filled-whole c.args.get.now c.args.attempt c.args.position c.args.room.now (c.if-room-window_bytes.false ∙ c.window_bytes.ensures.value)
