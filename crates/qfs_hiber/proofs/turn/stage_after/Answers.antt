use Rattle.qfs_hiber.proofs.Turns.{strange_meta, strange_server}
use Rattle.qfs_hiber.proofs.turn.stage_after.Goals as goal

pub returns-in-Meta : goal.returns-in-Meta
returns-in-Meta c =
    rw (c.strange.ensures, c.in-Meta.is)
    (strange_meta c.args.server c.args.stage.now c.in-Meta.answer
    (λ asks. cc (c.asks_meta.ensures.1 asks, c.if-asks_meta.false)))

pub returns : goal.returns
returns c =
    rw (c.strange-else-asks_server.ensures, c.in-Chunk.is)
    (strange_server c.args.server c.args.stage.now c.in-Chunk.reply
    (λ asks. cc (c.asks_server.ensures.1 asks, c.if-asks_server.false)))
