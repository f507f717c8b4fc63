use Rattle.std.proofs.Common.{◌∙◌, sym, arith}
use Rattle.qfs_window.proofs.Slots.{restored_slot-pieces}
use Rattle.qfs_window.proofs.parts.restore_slot.Goals as goal

pub returns : goal.returns
returns c =
    c.restore.ensures.restored
    ∙ sym (restored_slot-pieces c.slots_not_at_hand_have_no_influence.ensures c.args.size c.args.nine.now c.args.have c.args.want c.requires.nine c.requires.below (omega (arith, c.requires.enough)))
