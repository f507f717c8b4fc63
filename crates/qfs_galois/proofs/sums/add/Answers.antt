use Rattle.std.proofs.Common.{get_or, bit_xor, ap, arith}
use Rattle.qfs_galois.specs.Lanes.{added}
use Rattle.qfs_galois.proofs.Writing.{byte_written}
use Rattle.qfs_galois.proofs.sums.add.Goals as goal

pub loop-i-preserved : goal.loop-i-preserved
loop-i-preserved c =
    let i = c.loop-i.i in
    byte_written (added c.args.dst.now c.args.src.now) c.args.dst.now c.loop-i.dst i _ (omega arith) c.loop-i.invariant
    (ap (λ b. bit_xor b (get_or c.args.src.now i 0)) (c.loop-i.invariant.above i (omega arith)))
