use Rattle.std.proofs.Common.{sym, ap, subst, ◌∙◌, le-ltb}
use Rattle.qfs_base.specs.Mask.{IsMask, has_slot}
use Rattle.qfs_base.proofs.MaskLemmas.{bit-has_slot, has_slot_past, IsMask-slots_of_bits}
use Rattle.qfs_base.proofs.mask.Mask.contains.Goals as goal

pub returns-then-slot-lt-SLOTS-clause-member : goal.returns-then-slot-lt-SLOTS-clause-member
returns-then-slot-lt-SLOTS-clause-member c =
    bit-has_slot c.self.inside.bits c.args.slot c.self.invariant c.if-slot-lt-SLOTS.true
    ∙ ap (λ slots. has_slot slots c.args.slot) c.self.view_is

pub returns-then-slot-lt-SLOTS-clause-mask : goal.returns-then-slot-lt-SLOTS-clause-mask
returns-then-slot-lt-SLOTS-clause-mask c = subst IsMask c.self.view_is (IsMask-slots_of_bits c.self.inside.bits c.self.invariant)

pub returns-else-slot-lt-SLOTS-clause-member : goal.returns-else-slot-lt-SLOTS-clause-member
returns-else-slot-lt-SLOTS-clause-member c =
    le-ltb c.args.slot 9 c.if-slot-lt-SLOTS.false
    ∙ sym (has_slot_past c.self.inside.bits c.args.slot c.self.invariant c.if-slot-lt-SLOTS.false)
    ∙ ap (λ slots. has_slot slots c.args.slot) c.self.view_is

pub returns-else-slot-lt-SLOTS-clause-mask : goal.returns-else-slot-lt-SLOTS-clause-mask
returns-else-slot-lt-SLOTS-clause-mask c = subst IsMask c.self.view_is (IsMask-slots_of_bits c.self.inside.bits c.self.invariant)
