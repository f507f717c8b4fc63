use Rattle.qfs_model_meta.specs.Apply.{apply, finish_lease}
use Rattle.qfs_model_meta.specs.Condemned.{unblock_all}
use Rattle.qfs_meta.proofs.gets.finish_lease.Goals as goal

pub returns : goal.returns
unfolding apply finish_lease unblock_all
returns c = λ i. record c.args.image.now { leases = c.end_lease.ensures i; condemned = c.change_rows.ensures i }
