-- The load of each server, as it stands beside the table of slots.
use Rattle.std.specs.Prelude.{ℕ, List, map}
use Rattle.qfs_base.specs.declared.image.Load.{Load}
use Rattle.qfs_base.specs.declared.image.ServerView.{ServerView}
use Rattle.qfs_base.specs.declared.image.SlotRow.{SlotRow}
use Rattle.qfs_model_meta.specs.Placing.{census}

-- the loads that placement sees, by the servers' numbers
abbrev pub loads_of : List ServerView → List SlotRow → List ℕ
loads_of servers slots = map (λ (load : Load). load.count) (census servers slots)
