use Rattle.qfs_galois.proofs.Tables.{high_ok, low_ok, lanes_scaled}
use Rattle.qfs_galois.proofs.lanes.scaled.Goals as goal

pub swizzle : goal.swizzle
swizzle c = low_ok c.args.x c.fits-x.0

pub swizzle-2 : goal.swizzle-2
swizzle-2 c = high_ok c.args.x c.fits-x.0 c.fits-x.1

pub returns : goal.returns
returns c k low high = lanes_scaled k c.args.lows c.args.highs c.args.x c.fits-x.0 c.fits-x.1 low high
