use Rattle.std.proofs.Common.{◌≡◌, ◌≢◌, ◌*◌, get_or, set, length-set, below_more, get_or-set_other, get_or-set_same, ◌∙◌, arith}
use Rattle.qfs_galois.specs.Field.{product}
use Rattle.qfs_galois.proofs.lanes.table.Goals as goal

pub loop-j-preserved : goal.loop-j-preserved
loop-j-preserved c =
    let entries = c.loop-j.entries in
    let j = c.loop-j.j in
    record {
      sixteen = length-set entries j c.mul.result ∙ c.loop-j.invariant.sixteen;
      each = below_more (λ k. get_or (set entries j c.mul.result) k 0 ≡ product c.args.c (k * c.args.step)) j
          (λ k l. let other : k ≢ j = omega arith in get_or-set_other entries j k c.mul.result 0 other ∙ c.loop-j.invariant.each k l)
          (get_or-set_same entries j c.mul.result 0 (omega arith) ∙ c.mul.ensures);
    }
