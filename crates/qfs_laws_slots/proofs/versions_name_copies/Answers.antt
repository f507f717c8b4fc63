use Rattle.qfs_laws_slots.specs.Granted.{one_copy}
use Rattle.qfs_laws_slots.proofs.versions_name_copies.Goals as goal

pub returns : goal.returns
returns c = one_copy
