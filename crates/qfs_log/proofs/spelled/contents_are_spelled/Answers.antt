use Rattle.qfs_log.proofs.Spells.{are_spelled}
use Rattle.qfs_log.proofs.spelled.contents_are_spelled.Goals as goal

pub returns : goal.returns
returns c = are_spelled
