use Rattle.std.proofs.Common.{◌∙◌, sym}
use Rattle.qfs_model_meta.specs.PutRequests.{lacks_grant, block_slots}
use Rattle.qfs_meta.proofs.ListedLaws.{find_flat-here}
use Rattle.qfs_meta.proofs.closing.ungranted_in_blocks.Goals as goal

pub returns-in-Some : goal.returns-in-Some
returns-in-Some c =
    sym (find_flat-here (lacks_grant c.args.slots.now) (λ index. block_slots (record { file = c.args.file; index = index })) c.loop-index.index c.args.count c.in-Some.id c.loop-index-test.true
    (sym c.ungranted_in_block.ensures ∙ c.in-Some.is))
    ∙ c.loop-index.invariant
