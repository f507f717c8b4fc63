use Rattle.std.proofs.Common.{◌+◌, drop, bit_xor, sym, ap, ◌∙◌, arith}
use Rattle.std.specs.Int.Bits.{xor_assoc, xor_zero_r}
use Rattle.qfs_model_slot.specs.Restored.{dot}
use Rattle.qfs_code.proofs.Dot.{dot-drop, dot-past}
use Rattle.qfs_code.proofs.combine.dot.Goals as goal

pub loop-i-preserved : goal.loop-i-preserved
loop-i-preserved c =
    let xs = c.args.xs.now in
    let ys = c.args.ys.now in
    let rest = dot (drop (c.loop-i.i + 1) xs) (drop (c.loop-i.i + 1) ys) in
    xor_assoc c.loop-i.sum c.mul-sum.result rest
    ∙ ap (λ x. bit_xor c.loop-i.sum (bit_xor x rest)) c.mul-sum.ensures
    ∙ ap (bit_xor c.loop-i.sum) (sym (dot-drop xs ys c.loop-i.i (omega arith) (omega arith)))
    ∙ c.loop-i.invariant

pub returns : goal.returns
returns c =
    let none = dot-past c.args.xs.now (drop c.loop-i.i c.args.ys.now) c.loop-i.i (omega arith) in
    sym (xor_zero_r c.loop-i.sum) ∙ ap (bit_xor c.loop-i.sum) (sym none) ∙ c.loop-i.invariant
