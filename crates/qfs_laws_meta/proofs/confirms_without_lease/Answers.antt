use Rattle.qfs_laws_meta.specs.Terms.{confirms-without-lease}
use Rattle.qfs_laws_meta.proofs.confirms_without_lease.Goals as goal

pub returns : goal.returns
returns c = confirms-without-lease
