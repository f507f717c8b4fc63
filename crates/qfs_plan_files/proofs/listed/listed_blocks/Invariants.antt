-- What the loop of `listed::listed_blocks` keeps.
use Rattle.std.proofs.Common.{◌≡◌, ◌-◌, ◌++◌, map}
use Rattle.std.specs.List.{range_with_len}
use Rattle.qfs_model_meta.specs.Lists.{listed_nine, listed_blocks}
use Rattle.qfs_plan_files.proofs.listed.listed_blocks.Given as goal

-- the blocks so far and those that are left
abbrev pub invariant-loop-index : goal.invariant-loop-index
invariant-loop-index l =
    l.blocks ++ map (λ index. listed_nine l.state.image.servers l.state.image.slots
    (record { file = l.file; index = index })) (range_with_len l.index (l.count - l.index))
    ≡ listed_blocks l.state.image.servers l.state.image.slots l.file l.count
