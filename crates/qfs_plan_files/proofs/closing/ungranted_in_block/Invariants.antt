-- What the loop of `closing::ungranted_in_block` keeps.
use Rattle.std.proofs.Common.{◌≡◌, ◌-◌, map, find}
use Rattle.std.specs.List.{range_with_len}
use Rattle.qfs_model_meta.specs.PutRequests.{lacks_grant, block_slots}
use Rattle.qfs_plan_files.proofs.closing.ungranted_in_block.Given as goal

-- the first one is among the slots that are left
abbrev pub invariant-loop-slot : goal.invariant-loop-slot
invariant-loop-slot l =
    find (lacks_grant l.blocks.slots)
    (map (λ slot. record { block = l.block; slot = slot }) (range_with_len l.slot (9 - l.slot)))
    ≡ find (lacks_grant l.blocks.slots) (block_slots l.block)
