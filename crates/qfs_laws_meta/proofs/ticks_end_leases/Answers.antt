use Rattle.qfs_laws_meta.specs.Terms.{ticks-end-leases}
use Rattle.qfs_laws_meta.proofs.ticks_end_leases.Goals as goal

pub returns : goal.returns
returns c = ticks-end-leases
