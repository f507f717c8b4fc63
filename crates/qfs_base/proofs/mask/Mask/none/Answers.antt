use Rattle.std.proofs.Common.{refl}
use Rattle.qfs_base.specs.Mask.{slots_of_bits, slots_that}
use Rattle.qfs_base.proofs.mask.Mask.none.Goals as goal

pub returns : goal.returns
unfolding slots_of_bits slots_that
returns c = refl
