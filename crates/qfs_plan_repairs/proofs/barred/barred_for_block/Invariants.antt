-- What the loop of `barred::barred_for_block` keeps.
use Rattle.std.proofs.Common.{◌≡◌, ◌-◌}
use Rattle.std.specs.List.{range_with_len, flat_map}
use Rattle.qfs_model_meta.specs.Placing.{barred_for_block, with_live_servers}
use Rattle.qfs_model_meta.specs.Slots.{slot_at}
use Rattle.qfs_place.specs.Barred.{row_copies}
use Rattle.qfs_plan_repairs.proofs.barred.barred_for_block.Given as goal

-- the servers so far and those of the slots that are left
abbrev pub invariant-loop-slot : goal.invariant-loop-slot
invariant-loop-slot l =
    with_live_servers l.state.image.servers l.barred
    (flat_map (λ slot. row_copies (slot_at l.state.image.slots l.block slot))
    (range_with_len l.slot (9 - l.slot)))
    ≡ barred_for_block l.state.image.servers l.state.image.slots l.block
