use Rattle.std.proofs.Common.{◌∙◌, ap, arith, ◌<◌}
use Rattle.qfs_base.specs.Shape.{Shape}
use Rattle.qfs_base.specs.Layout.{place_of}
use Rattle.qfs_stripe.proofs.Places.{offset_by_sizes, place_of_offset}
use Rattle.qfs_stripe.proofs.layout.LayoutLayoutCalls.offset_of.Goals as goal

pub returns-clause-value : goal.returns-clause-value
returns-clause-value c =
    offset_by_sizes c.args.self.now.s c.args.self.now.r c.args.index c.args.slot c.args.at _ _ _ _ _ _ _
    (ap (λ (shape : Shape). shape.s) c.self.view_is)
    c.from-2.ensures (c.from-3.ensures ∙ c.block_bytes.ensures.value) c.from-row.ensures (c.from-4.ensures ∙ c.row_bytes.ensures.value) c.from.ensures c.from-5.ensures

pub returns-clause-back : goal.returns-clause-back
returns-clause-back c =
    let s = c.args.self.now.s in
    let r = c.args.self.now.r in
    let some : 0 < s = omega (arith, ap (λ (shape : Shape). shape.s) c.self.view_is) in
    ap (place_of s r) (returns-clause-value c) ∙ place_of_offset s r c.args.index c.args.slot c.args.at some c.requires.slot c.requires.at
