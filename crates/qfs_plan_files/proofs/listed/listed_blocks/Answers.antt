-- What the check leaves to show of `listed::listed_blocks`.
use Rattle.qfs_model_meta.specs.Lists.{listed_blocks, listed_nine}
use Rattle.qfs_planning.specs.Walks.{built_start, built_next}
use Rattle.qfs_plan_files.proofs.listed.listed_blocks.Goals as goal

pub loop-index-init : goal.loop-index-init
unfolding listed_blocks
loop-index-init c =
    built_start (λ index. listed_nine c.args.state.now.image.servers c.args.state.now.image.slots
    (record { file = c.args.file; index = index })) c.in_ok-blocks.blocks c.args.count
    c.in_ok-blocks.ensures

pub loop-index-preserved : goal.loop-index-preserved
loop-index-preserved c =
    built_next _ c.loop-index.blocks _ _ c.loop-index.index c.args.count _ c.loop-index-test.true
    c.loop-index.invariant c.in_ok-listed_nine.ensures c.in_ok-push.ensures.ok
