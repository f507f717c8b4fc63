use Rattle.std.proofs.Common.{◌∙◌, ap, arith, length}
use Rattle.qfs_window.proofs.Slots.{part_at-put_mid}
use Rattle.qfs_window.proofs.parts.put_part.Goals as goal

pub returns-clause-others : goal.returns-clause-others
returns-clause-others c =
    part_at-put_mid c.args.size c.args.slot _ c.args.nine.now c.copy_from_slice.new.self (omega arith) c.requires.slot c.requires.nine
    (ap length c.copy_from_slice.ensures.after ∙ c.requires.bytes)
