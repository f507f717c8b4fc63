-- The derived `==` compares the bits that `inverse` gives back of the two lists, and those are the bits that it reads.
use Rattle.std.proofs.Common.{eqb, sym, ap, ap₂, ◌∙◌}
use Rattle.qfs_base.specs.Mask.{bits_of_slots, bits_of_slots-slots_of_bits}
use Rattle.qfs_base.proofs.mask.MaskPartialEq.eq.Goals as goal

pub returns : goal.returns
returns c =
    c.eq.ensures
    ∙ ap₂ eqb
    (sym (ap bits_of_slots (sym c.t1-1.view_is) ∙ bits_of_slots-slots_of_bits c.t1-1.inside.bits c.t1-1.invariant))
    (sym (ap bits_of_slots (sym c.t2-1.view_is) ∙ bits_of_slots-slots_of_bits c.t2-1.inside.bits c.t2-1.invariant))
