use Rattle.std.proofs.Common.{◌≡◌, take}
use Rattle.qfs_model_meta.specs.Placing.{census}
use Rattle.qfs_place.proofs.loads.Loads.of_slots.Given as goal

-- the loads so far are those of the slots so far
abbrev pub invariant-loop-row : goal.invariant-loop-row
invariant-loop-row l = l.loads ≡ census l.servers (take l.row-index l.slots)
