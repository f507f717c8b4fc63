use Rattle.qfs_code.proofs.Restoring.{no_influence}
use Rattle.qfs_code.proofs.laws.slots_not_at_hand_have_no_influence.Goals as goal

pub returns : goal.returns
returns c = no_influence
