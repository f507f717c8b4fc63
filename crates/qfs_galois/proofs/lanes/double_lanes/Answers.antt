use Rattle.qfs_galois.proofs.Doubling.{doubled}
use Rattle.qfs_galois.proofs.lanes.double_lanes.Goals as goal

pub returns : goal.returns
returns c = doubled 16 c.args.x c.fits-x.0 c.fits-x.1
