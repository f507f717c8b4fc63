use Rattle.std.proofs.Common.{subst, arith, ◌/◌, ◌<◌, ◌≤◌}
use Rattle.qfs_base.specs.Layout.{block_bytes}
use Rattle.qfs_stripe.proofs.Touched.{blocks_are_touched}
use Rattle.qfs_stripe.proofs.layout.LayoutLayoutCalls.blocks_touched.Goals as goal

pub returns-clause-touched : goal.returns-clause-touched
returns-clause-touched c some k first past =
    let s = c.args.self.now.s in
    let r = c.args.self.now.r in
    let whole : 0 < block_bytes s r = omega (arith, c.block_bytes.ensures.value, c.block_bytes.ensures.positive) in
    blocks_are_touched s r c.args.from c.args.to whole some k
    (subst (λ size. c.args.from / size ≤ k) c.block_bytes.ensures.value first)
    (subst (λ end. k < end) c.blocks_of.ensures past)
