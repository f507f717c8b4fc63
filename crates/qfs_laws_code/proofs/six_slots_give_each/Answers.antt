use Rattle.qfs_laws_code.proofs.Parted.{six_give}
use Rattle.qfs_laws_code.proofs.six_slots_give_each.Goals as goal

pub returns : goal.returns
returns c = six_give
