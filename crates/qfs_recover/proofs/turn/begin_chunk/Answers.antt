use Rattle.std.proofs.Common.{◌≡◌, ◌∙◌, ap, sym, arith, false, true}
use Rattle.qfs_model_actor.specs.Read.{are_too_few, sources_of}
use Rattle.qfs_recover.specs.Rest.{rest_of_recovery}
use Rattle.qfs_recover.proofs.Turns.{chunk-begins, chunk-none, chunk-stops, in_range}
use Rattle.qfs_recover.proofs.turn.begin_chunk.Goals as goal
use Rattle.qfs_repair.specs.Deliveries.{rest_of_delivery}

pub returns-then-are_too_few-clause-rest : goal.returns-then-are_too_few-clause-rest
unfolding rest_of_recovery
returns-then-are_too_few-clause-rest c =
    let listed = c.sources_of-sources.ensures ∙ ap sources_of c.as_slice.ensures in
    let few : are_too_few (sources_of c.args.grant.sources) ≡ true = ap are_too_few (sym listed) ∙ sym c.if-are_too_few.ensures in
    rw (c.starve.ensures, listed) (chunk-stops c.args.layout.now c.args.errand c.args.grant few)

pub returns-then-grant-eq0-clause-rest : goal.returns-then-grant-eq0-clause-rest
unfolding rest_of_recovery rest_of_delivery
returns-then-grant-eq0-clause-rest c =
    let listed = c.sources_of-sources.ensures ∙ ap sources_of c.as_slice.ensures in
    let enough : are_too_few (sources_of c.args.grant.sources) ≡ false = ap are_too_few (sym listed) ∙ sym c.if-are_too_few.ensures in
    rw (c.new-chunk.ensures.bytes, c.new.ensures)
    (chunk-none c.args.layout.now c.args.errand c.args.grant enough c.if-grant-eq0.true)

pub returns-then-grant-eq0-clause-at : goal.returns-then-grant-eq0-clause-at
returns-then-grant-eq0-clause-at c =
    let range = in_range c.args.grant c.requires.range in
    (c.requires.errand, (range.0, rw (c.new-chunk.ensures.bytes, c.new.ensures) (omega arith)))

pub begin_group-requires-clause-slot : goal.begin_group-requires-clause-slot
begin_group-requires-clause-slot c = (in_range c.args.grant c.requires.range).0

pub begin_group-requires-clause-rows : goal.begin_group-requires-clause-rows
begin_group-requires-clause-rows c = (in_range c.args.grant c.requires.range).1

pub returns-clause-rest : goal.returns-clause-rest
returns-clause-rest c =
    let listed = c.sources_of-sources.ensures ∙ ap sources_of c.as_slice.ensures in
    let enough : are_too_few (sources_of c.args.grant.sources) ≡ false = ap are_too_few (sym listed) ∙ sym c.if-are_too_few.ensures in
    c.begin_group.ensures.rest
    ∙ rw listed (chunk-begins c.args.layout.now c.args.errand c.args.grant _ enough)
