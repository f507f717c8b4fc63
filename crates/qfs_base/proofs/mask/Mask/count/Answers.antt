use Rattle.std.proofs.Common.{length, sym, ap, subst, ◌∙◌}
use Rattle.qfs_base.specs.Mask.{IsMask}
use Rattle.qfs_base.proofs.MaskLemmas.{length-slots_of_bits, IsMask-slots_of_bits}
use Rattle.qfs_base.proofs.mask.Mask.count.Goals as goal

pub returns-clause-count : goal.returns-clause-count
returns-clause-count c = sym (length-slots_of_bits c.self.inside.bits c.self.invariant) ∙ ap length c.self.view_is

pub returns-clause-mask : goal.returns-clause-mask
returns-clause-mask c = subst IsMask c.self.view_is (IsMask-slots_of_bits c.self.inside.bits c.self.invariant)
