use Rattle.std.proofs.Common.{◌≡◌, sym, arith, true}
use Rattle.qfs_base.specs.Mask.{has_slot}
use Rattle.qfs_model_slot.specs.Restored.{restored}
use Rattle.qfs_reader.proofs.Slots.{slot_at-part}
use Rattle.qfs_reader.proofs.parts.restore_part.Goals as goal

pub returns-else-not-contains-clause-restored : goal.returns-else-not-contains-clause-restored
unfolding restored
returns-else-not-contains-clause-restored c =
    let here : has_slot c.args.have c.args.want ≡ true = cc in
    rw here (sym (slot_at-part c.args.size c.args.nine.now c.args.want (omega (arith, c.requires.want))))
