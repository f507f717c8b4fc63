use Rattle.std.proofs.Common.{◌+◌, get_or, bit_xor, ap, arith}
use Rattle.qfs_galois.specs.Lanes.{added}
use Rattle.qfs_galois.proofs.Writing.{loaded_are, sums_are, lanes_written}
use Rattle.qfs_galois.proofs.sums.add_at.Goals as goal

pub returns : goal.returns
returns c was written =
    let at = c.args.at in
    let old = c.args.dst.now in
    let src = c.args.src.now in
    let sum = sums_are _ _ _ _ (loaded_are at old _ c.requires.dst c.loaded.ensures)
    (loaded_are at src _ c.requires.src c.loaded-2.ensures) in
    lanes_written (added was src) _ was old _ _ at c.requires.dst written sum
    (λ i l. ap (λ b. bit_xor b (get_or src (at + i) 0)) (written.above (at + i) (omega arith)))
    c.store.ensures
