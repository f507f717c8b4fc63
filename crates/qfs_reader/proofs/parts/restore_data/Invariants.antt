use Rattle.std.proofs.Common.{◌≡◌, ℕ, ◌<◌, true}
use Rattle.qfs_base.specs.Mask.{has_slot}
use Rattle.qfs_code.specs.Code.{slots_of}
use Rattle.qfs_model_slot.specs.Restored.{restored}
use Rattle.qfs_reader.specs.Parts.{part_at}
use Rattle.qfs_reader.proofs.parts.restore_data.Given as goal

abbrev pub invariant-loop-want : goal.invariant-loop-want
invariant-loop-want l =
    record {
      done : (j : ℕ) → j < l.want → part_at l.size l.nine j ≡ restored l.have l.size (slots_of 9 l.size l.initial.nine) j;
      kept : (j : ℕ) → has_slot l.have j ≡ true → part_at l.size l.nine j ≡ part_at l.size l.initial.nine j;
    }
