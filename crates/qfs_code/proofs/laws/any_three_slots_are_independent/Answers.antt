use Rattle.qfs_code.proofs.Counts.{independent}
use Rattle.qfs_code.proofs.laws.any_three_slots_are_independent.Goals as goal

pub returns : goal.returns
returns c = independent
