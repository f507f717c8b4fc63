-- What the loop of `closing::ungranted_in_blocks` keeps.
use Rattle.std.proofs.Common.{◌≡◌, ◌-◌, find}
use Rattle.std.specs.List.{range_with_len, flat_map}
use Rattle.qfs_model_meta.specs.PutRequests.{lacks_grant, block_slots, file_slots}
use Rattle.qfs_plan_files.proofs.closing.ungranted_in_blocks.Given as goal

-- the first one is among the blocks that are left
abbrev pub invariant-loop-index : goal.invariant-loop-index
invariant-loop-index l =
    find (lacks_grant l.blocks.slots)
    (flat_map (λ index. block_slots (record { file = l.file; index = index }))
    (range_with_len l.index (l.count - l.index)))
    ≡ find (lacks_grant l.blocks.slots) (file_slots l.file l.count)
