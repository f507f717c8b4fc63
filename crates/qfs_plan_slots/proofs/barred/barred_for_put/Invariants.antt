-- What the loop of `barred::barred_for_put` keeps.
use Rattle.std.proofs.Common.{◌≡◌, ◌-◌}
use Rattle.std.specs.List.{range_with_len, flat_map}
use Rattle.qfs_model_meta.specs.Placing.{barred_for_put, with_live_servers}
use Rattle.qfs_model_meta.specs.PutRequests.{failed_with}
use Rattle.qfs_model_meta.specs.Slots.{slot_at}
use Rattle.qfs_place.specs.NineLaws.{state_grants}
use Rattle.qfs_plan_slots.proofs.barred.barred_for_put.Given as goal

-- the servers so far and those of the slots that are left
abbrev pub invariant-loop-slot : goal.invariant-loop-slot
invariant-loop-slot l =
    with_live_servers l.state.image.servers l.barred
    (flat_map (λ slot. state_grants (slot_at l.state.image.slots l.id.block slot))
    (range_with_len l.slot (9 - l.slot)))
    ≡ barred_for_put l.state.image.servers l.state.image.slots l.id.block
    (failed_with (slot_at l.state.image.slots l.id.block l.id.slot).failed
    (slot_at l.state.image.slots l.id.block l.id.slot).grant)
