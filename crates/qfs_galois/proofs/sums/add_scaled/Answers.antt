use Rattle.std.proofs.Common.{◌≡◌, get_or, bit_xor, sym, ap, ◌∙◌, arith}
use Rattle.std.specs.Int.Bits.{xor_zero_r}
use Rattle.qfs_galois.specs.Field.{product}
use Rattle.qfs_galois.specs.Lanes.{scaled_sum}
use Rattle.qfs_galois.proofs.FieldLaws.{product_comm, one-product, zero-product}
use Rattle.qfs_galois.proofs.Writing.{byte_written}
use Rattle.qfs_galois.proofs.sums.add_scaled.Goals as goal

pub loop-i-preserved : goal.loop-i-preserved
loop-i-preserved c =
    let i = c.loop-i.i in
    byte_written (scaled_sum c.args.c c.args.dst.now c.args.src.now) c.args.dst.now c.loop-i.dst i _ (omega arith) c.loop-i.invariant
    (ap (λ b. bit_xor b c.mul.result) (c.loop-i.invariant.above i (omega arith))
    ∙ ap (bit_xor (get_or c.args.dst.now i 0))
    (c.mul.ensures ∙ product_comm (get_or c.args.src.now i 0) c.args.c (c.type_inv.src i).fits c.ranges.c.fits))

pub returns-then-c-eq1 : goal.returns-then-c-eq1
returns-then-c-eq1 c i l =
    let byte = get_or c.args.src.now i 0 in
    let same = sym (ap (λ x. product x byte) c.if-c-eq1.true ∙ one-product byte (c.type_inv.src i).fits) in
    c.add.ensures i l ∙ ap (bit_xor (get_or c.args.dst.now i 0)) same

pub returns-else-c-ne0 : goal.returns-else-c-ne0
returns-else-c-ne0 c i l =
    let byte = get_or c.args.src.now i 0 in
    let was = get_or c.args.dst.now i 0 in
    let zero : c.args.c ≡ 0 = omega arith in
    sym (ap (λ x. bit_xor was (product x byte)) zero ∙ ap (bit_xor was) (zero-product byte) ∙ xor_zero_r was)
