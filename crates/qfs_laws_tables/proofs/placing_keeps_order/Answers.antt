use Rattle.qfs_laws_tables.specs.InOrder.{place_rises}
use Rattle.qfs_laws_tables.proofs.placing_keeps_order.Goals as goal

pub returns : goal.returns
returns g c order new rows total rising = place_rises total new rows rising
