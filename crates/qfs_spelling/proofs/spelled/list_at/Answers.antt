use Rattle.std.proofs.Common.{◌∙◌, ap, sym}
use Rattle.qfs_spelling.specs.Fronts.{front_of}
use Rattle.qfs_spelling.proofs.Lists.{list_ends, list_goes_on, list_read}
use Rattle.qfs_spelling.proofs.spelled.list_at.Goals as goal

pub loop-i-preserved : goal.loop-i-preserved
loop-i-preserved g c =
    list_goes_on g.T.Spelled.part c.loop-i.values _ c.in-Some.count c.loop-i.i c.loop-i.rest.now c.in-Some-2.value c.in-Some-2.more.now _
    c.loop-i-test.true (sym c.in_ok-value.ensures ∙ ap front_of c.in-Some-2.is) c.in_ok-push.ensures.ok c.loop-i.invariant

pub returns : goal.returns
returns g c =
    list_read g.T.Spelled.part c.args.bytes.now c.in-Some.count c.in-Some.rest.now _ c.in-Some.ensures
    (list_ends g.T.Spelled.part c.loop-i.values c.in-Some.count c.loop-i.i c.loop-i.rest.now _ c.loop-i-test.false c.loop-i.invariant)
