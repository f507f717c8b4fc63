use Rattle.std.proofs.Common.{◌≡◌, ◌∙◌, sym, ap, map, arith}
use Rattle.qfs_galois.specs.Field.{product, power}
use Rattle.qfs_galois.proofs.Doubling.{single, twice}
use Rattle.qfs_galois.proofs.FieldLaws.{power-zero}
use Rattle.qfs_galois.proofs.Powers.{first_power, second_power}
use Rattle.qfs_galois.proofs.lanes.times_power_lanes.Goals as goal

pub returns-then-number-eq0 : goal.returns-then-number-eq0
returns-then-number-eq0 c =
    let g : power 2 c.args.number ≡ 1 = ap (power 2) c.if-number-eq0.true ∙ power-zero 2 in
    single c.args.x c.fits-x.1 ∙ sym (ap (λ p. map (product p) c.args.x) g)

pub returns-then-number-eq1 : goal.returns-then-number-eq1
returns-then-number-eq1 c =
    let g : power 2 c.args.number ≡ 2 = ap (power 2) c.if-number-eq1.true ∙ first_power in
    c.double_lanes.ensures ∙ sym (ap (λ p. map (product p) c.args.x) g)

pub returns : goal.returns
returns c =
    let last : c.args.number ≡ 2 = omega arith in
    let g : power 2 c.args.number ≡ product 2 2 = ap (power 2) last ∙ second_power in
    twice c.args.x _ _ c.fits-x.1 c.double_lanes-2.ensures c.double_lanes-3.ensures
    ∙ sym (ap (λ p. map (product p) c.args.x) g)
