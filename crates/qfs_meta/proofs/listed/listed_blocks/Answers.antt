use Rattle.qfs_model_meta.specs.Lists.{listed_blocks, listed_nine}
use Rattle.qfs_meta.proofs.ListedLaws.{built-start, built-next}
use Rattle.qfs_meta.proofs.listed.listed_blocks.Goals as goal

pub loop-index-init : goal.loop-index-init
unfolding listed_blocks
loop-index-init c =
    built-start (λ index. listed_nine c.args.servers.now c.args.slots.now (record { file = c.args.file; index = index })) c.in_ok-blocks.blocks c.args.count c.in_ok-blocks.ensures

pub loop-index-preserved : goal.loop-index-preserved
loop-index-preserved c =
    built-next _ c.loop-index.blocks _ _ c.loop-index.index c.args.count _ c.loop-index-test.true c.loop-index.invariant
    c.in_ok-listed_nine.ensures
    c.in_ok-push.ensures.ok
