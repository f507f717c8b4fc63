use Rattle.qfs_laws_meta.specs.Terms.{only-live-leases-block, orders-nothing-listed}
use Rattle.qfs_laws_meta.proofs.live_leases_keep_copies.Goals as goal

pub returns : goal.returns
returns c = record { blocks = only-live-leases-block; orders = orders-nothing-listed }
