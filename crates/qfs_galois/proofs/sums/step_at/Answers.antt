use Rattle.std.proofs.Common.{◌+◌, get_or, bit_xor, ap, arith}
use Rattle.qfs_galois.specs.Field.{product, power}
use Rattle.qfs_galois.specs.Lanes.{stepped}
use Rattle.qfs_galois.proofs.Writing.{loaded_are, mapped_are, sums_are, lanes_written}
use Rattle.qfs_galois.proofs.sums.step_at.Goals as goal

pub returns : goal.returns
returns c was written =
    let at = c.args.at in
    let old = c.args.sums.now in
    let part = c.args.part.now in
    let g = power 2 c.args.number in
    let times = mapped_are (product g) _ _ _ (loaded_are at old _ c.requires.sums c.loaded.ensures) c.times_power_lanes.ensures in
    let sum = sums_are _ _ _ _ times (loaded_are at part _ c.requires.part c.loaded-2.ensures) in
    lanes_written (stepped g was part) _ was old _ _ at c.requires.sums written sum
    (λ i l. ap (λ b. bit_xor (product g b) (get_or part (at + i) 0)) (written.above (at + i) (omega arith)))
    c.store.ensures
