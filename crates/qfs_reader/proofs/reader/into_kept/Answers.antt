use Rattle.qfs_reader.specs.Rest.{rest_of_get}
use Rattle.qfs_reader.proofs.reader.into_kept.Goals as goal

pub returns : goal.returns
unfolding rest_of_get
returns c = let at = rw c.in-Ended.is at c.requires.at in rw c.in-Ended.is at
