use Rattle.std.proofs.Common.{get_or, bit_xor, ap, ◌∙◌, arith}
use Rattle.qfs_galois.specs.Field.{product, power}
use Rattle.qfs_galois.specs.Lanes.{stepped}
use Rattle.qfs_galois.proofs.Writing.{byte_written}
use Rattle.qfs_galois.proofs.sums.horner_step.Goals as goal

pub loop-i-preserved : goal.loop-i-preserved
loop-i-preserved c =
    let i = c.loop-i.i in
    let g = power 2 c.args.number in
    byte_written (stepped g c.args.sums.now c.args.part.now) c.args.sums.now c.loop-i.sums i _ (omega arith) c.loop-i.invariant
    (ap (λ x. bit_xor x (get_or c.args.part.now i 0))
    (c.times_power.ensures ∙ ap (product g) (c.loop-i.invariant.above i (omega arith))))
