use Rattle.std.proofs.Common.{◌≡◌, ◌+◌, ◌*◌, ◌≤◌, ap, ◌∙◌, arith, length}
use Rattle.std.proofs.lemmas.Grind.{common_steps}
use Rattle.qfs_base.specs.Shape.{Shape}
use Rattle.qfs_writer.proofs.Stripes.{next_stripe, row_inside}
use Rattle.qfs_writer.proofs.chunk.fill_data.Goals as goal

pub loop-row-preserved : goal.loop-row-preserved
loop-row-preserved c =
    let es : c.layout.inside.s ≡ c.args.layout.now.s = ap (λ (shape : Shape). shape.s) c.layout.view_is in
    let here = rw (es, c.block_bytes.ensures.value, c.row_bytes-row_bytes.ensures.value) at c.fill_from.ensures in
    let inside : c.loop-row.row * c.args.layout.now.s + c.args.layout.now.s ≤ length c.loop-row.out = row_inside _ _ _ _ c.loop-row-test.true (c.loop-row.auto.out ∙ c.requires.len) in
    let long : length c.fill_from.new.out ≡ c.args.layout.now.s = first_of (grind (arith, common_steps), omega arith) in
    rw es (next_stripe _ _ _ _ _ _ _ inside long c.loop-row.invariant here)
