use Rattle.std.proofs.Common.{◌≡◌, ◌+◌, ◌*◌, ◌≤◌, ap, ◌∙◌, arith, length}
use Rattle.std.proofs.lemmas.Grind.{common_steps}
use Rattle.qfs_base.specs.Shape.{Shape}
use Rattle.qfs_writer.proofs.Stripes.{next_parity, row_inside}
use Rattle.qfs_writer.proofs.chunk.fill_parity.Goals as goal

pub loop-row-preserved : goal.loop-row-preserved
loop-row-preserved c =
    let s = c.args.layout.now.s in
    let es : c.layout.inside.s ≡ s = ap (λ (shape : Shape). shape.s) c.layout.view_is in
    let each = rw (c.block_bytes.ensures.value, c.row_bytes-row_bytes.ensures.value) at c.fill_from.ensures in
    let here = rw es at c.encode_slot.ensures.bytes in
    let inside : c.loop-row.row * s + s ≤ length c.loop-row.out = row_inside _ _ _ _ c.loop-row-test.true (c.loop-row.auto.out ∙ c.requires.len) in
    let short : length c.encode_slot.new.out ≡ s = first_of (grind (arith, common_steps), omega arith) in
    let long : length c.fill_from.new.out ≡ 6 * s = first_of (grind (arith, common_steps), omega arith) in
    rw es (next_parity _ _ _ _ _ _ _ _ long inside short each c.loop-row.invariant here)
