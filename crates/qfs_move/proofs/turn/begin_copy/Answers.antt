use Rattle.std.proofs.Common.{refl, inl, arith}
use Rattle.qfs_model_actor.specs.Move.{copy_chunk}
use Rattle.qfs_move.specs.Rest.{course_of, rest_of_move}
use Rattle.qfs_move.proofs.Groups.{first-group}
use Rattle.qfs_move.proofs.Turns.{copy-none, in_range}
use Rattle.qfs_move.proofs.turn.begin_copy.Goals as goal
use Rattle.qfs_repair.specs.Deliveries.{rest_of_delivery}

pub returns-then-grant-eq0-clause-rest : goal.returns-then-grant-eq0-clause-rest
unfolding rest_of_move rest_of_delivery
returns-then-grant-eq0-clause-rest c =
    rw (c.new-chunk.ensures.bytes, c.new.ensures)
    (copy-none c.args.layout.now c.args.errand c.args.grant c.args.source c.if-grant-eq0.true)

pub returns-then-grant-eq0-clause-at : goal.returns-then-grant-eq0-clause-at
returns-then-grant-eq0-clause-at c =
    let range = in_range c.args.grant c.requires.range in
    (c.requires.errand, (range.0, rw (c.new-chunk.ensures.bytes, c.new.ensures) (omega arith)))

pub returns-clause-rest : goal.returns-clause-rest
unfolding rest_of_move copy_chunk
returns-clause-rest c =
    first-group c.args.layout.now (course_of c.args.layout.now c.args.errand c.args.source) _ refl

pub returns-clause-at : goal.returns-clause-at
returns-clause-at c =
    let range = in_range c.args.grant c.requires.range in
    (c.requires.errand, record { slot = range.0; rows = range.1; more = omega (arith, c.if-grant-eq0.false); room = inl refl })
