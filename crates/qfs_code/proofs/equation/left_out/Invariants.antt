use Rattle.std.proofs.Common.{◌≡◌}
use Rattle.qfs_model_slot.specs.Restored.{first_spare}
use Rattle.qfs_code.proofs.equation.left_out.Given as goal

-- what is looked for isn't below the slot that the loop has come to
abbrev pub invariant-loop-slot : goal.invariant-loop-slot
invariant-loop-slot l = first_spare l.have l.want l.other 0 ≡ first_spare l.have l.want l.other l.slot
