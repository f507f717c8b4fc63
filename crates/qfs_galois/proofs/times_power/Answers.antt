use Rattle.std.proofs.Common.{◌≡◌, ◌∙◌, sym, ap, arith, lit<}
use Rattle.qfs_galois.specs.Field.{product, power}
use Rattle.qfs_galois.proofs.FieldLaws.{one-product, product_assoc, power-zero}
use Rattle.qfs_galois.proofs.Powers.{first_power, second_power}
use Rattle.qfs_galois.proofs.times_power.Goals as goal

pub returns-in-0 : goal.returns-in-0
returns-in-0 c =
    let g : power 2 c.args.number ≡ 1 = ap (power 2) c.in-0.is ∙ power-zero 2 in
    sym (ap (λ p. product p c.args.a) g ∙ one-product c.args.a c.ranges.a.fits)

pub returns-in-1 : goal.returns-in-1
returns-in-1 c =
    let g : power 2 c.args.number ≡ 2 = ap (power 2) c.in-1.is ∙ first_power in
    c.double.ensures ∙ sym (ap (λ p. product p c.args.a) g)

pub returns-in_default : goal.returns-in_default
returns-in_default c =
    let last : c.args.number ≡ 2 = omega arith in
    let g : power 2 c.args.number ≡ product 2 2 = ap (power 2) last ∙ second_power in
    c.double-in_default-2.ensures ∙ ap (product 2) c.double-in_default.ensures
    ∙ sym (ap (λ p. product p c.args.a) g ∙ product_assoc 2 2 c.args.a (lit< tt) (lit< tt) c.ranges.a.fits)
