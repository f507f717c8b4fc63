-- The first powers of 2.
use Rattle.std.proofs.Common.{◌≡◌, refl}
use Rattle.qfs_galois.specs.Field.{polynomial_product, remainder, product, power}

pub first_power : power 2 1 ≡ 2
unfolding power product remainder polynomial_product
first_power = refl

pub second_power : power 2 2 ≡ product 2 2
unfolding power product remainder polynomial_product
second_power = refl
