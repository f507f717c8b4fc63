use Rattle.std.proofs.Common.{ap, ◌∙◌}
use Rattle.qfs_base.specs.Mask.{insert_slot}
use Rattle.qfs_base.proofs.MaskLemmas.{bits_with}
use Rattle.qfs_base.proofs.mask.Mask.with.Goals as goal

pub invariant_of-result : goal.invariant_of-result
invariant_of-result c = (bits_with c.self.inside.bits c.args.slot c.self.invariant c.requires).0

pub returns : goal.returns
returns c = (bits_with c.self.inside.bits c.args.slot c.self.invariant c.requires).1 ∙ ap (insert_slot c.args.slot) c.self.view_is
