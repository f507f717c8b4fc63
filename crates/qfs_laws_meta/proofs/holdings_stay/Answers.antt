use Rattle.qfs_laws_meta.specs.HoldingStays.{others-holdings-stay}
use Rattle.qfs_laws_meta.specs.OwnHolding.{own-holding-stays}
use Rattle.qfs_laws_meta.proofs.holdings_stay.Goals as goal

pub returns : goal.returns
returns c = record { others = others-holdings-stay; own = own-holding-stays }
