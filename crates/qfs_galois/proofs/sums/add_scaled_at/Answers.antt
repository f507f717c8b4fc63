use Rattle.std.proofs.Common.{◌+◌, get_or, bit_xor, ap, arith, ◌∙◌}
use Rattle.qfs_galois.specs.Field.{product}
use Rattle.qfs_galois.specs.Lanes.{scaled_sum}
use Rattle.qfs_galois.proofs.Writing.{Are, loaded_are, sums_are, lanes_written}
use Rattle.qfs_galois.proofs.sums.add_scaled_at.Goals as goal

pub returns : goal.returns
returns c k was low high written =
    let at = c.args.at in
    let old = c.args.dst.now in
    let src = c.args.src.now in
    let from = loaded_are at src _ c.requires.src c.loaded-2.ensures in
    let of = c.scaled.ensures k low high in
    let times : Are c.scaled.result (λ i. product k (get_or src (at + i) 0)) = record {
      count = of.count;
      each = λ i l. of.each i l ∙ ap (product k) (from.each i l);
    } in
    let sum = sums_are _ _ _ _ (loaded_are at old _ c.requires.dst c.loaded.ensures) times in
    lanes_written (scaled_sum k was src) _ was old _ _ at c.requires.dst written sum
    (λ i l. ap (λ b. bit_xor b (product k (get_or src (at + i) 0))) (written.above (at + i) (omega arith)))
    c.store.ensures
