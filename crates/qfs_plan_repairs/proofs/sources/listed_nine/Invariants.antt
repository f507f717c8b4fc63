-- What the loop of `sources::listed_nine` keeps.
use Rattle.std.proofs.Common.{◌≡◌, ◌-◌, ◌++◌, map}
use Rattle.std.specs.List.{range_with_len}
use Rattle.qfs_model_meta.specs.Lists.{listed_nine}
use Rattle.qfs_model_meta.specs.Servers.{listed_copy}
use Rattle.qfs_model_meta.specs.Slots.{slot_at}
use Rattle.qfs_plan_repairs.proofs.sources.listed_nine.Given as goal

-- the copies so far and those of the slots that are left
abbrev pub invariant-loop-slot : goal.invariant-loop-slot
invariant-loop-slot l =
    l.nine ++ map (λ slot. listed_copy l.state.image.servers (slot_at l.state.image.slots l.block slot).current)
    (range_with_len l.slot (9 - l.slot))
    ≡ listed_nine l.state.image.servers l.state.image.slots l.block
