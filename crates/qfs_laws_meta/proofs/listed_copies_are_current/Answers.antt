use Rattle.qfs_laws_meta.specs.ListedTold.{listed-are-current}
use Rattle.qfs_laws_meta.proofs.listed_copies_are_current.Goals as goal

pub returns : goal.returns
returns c = listed-are-current
