use Rattle.qfs_laws_slots.specs.Slots.{placed-same, placed-other}
use Rattle.qfs_laws_slots.proofs.placed_slots_are_found.Goals as goal

pub returns : goal.returns
returns c = record { same = placed-same; other = placed-other }
