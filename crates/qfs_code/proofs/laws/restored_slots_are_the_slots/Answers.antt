use Rattle.qfs_code.proofs.Restoring.{restored_is_slot}
use Rattle.qfs_code.proofs.laws.restored_slots_are_the_slots.Goals as goal

pub returns : goal.returns
returns c = λ have size nine slots want. restored_is_slot have want size nine slots
