-- What the check leaves to show of `closing::ungranted_in_blocks`.
use Rattle.std.proofs.Common.{◌∙◌, sym}
use Rattle.qfs_model_meta.specs.PutRequests.{lacks_grant, block_slots}
use Rattle.qfs_planning.specs.Walks.{find_flat_here}
use Rattle.qfs_plan_files.proofs.closing.ungranted_in_blocks.Goals as goal

pub returns-in-Some : goal.returns-in-Some
returns-in-Some c =
    sym (find_flat_here (lacks_grant c.args.blocks.now.slots)
    (λ index. block_slots (record { file = c.args.file; index = index })) c.loop-index.index
    c.args.count c.in-Some.id c.loop-index-test.true
    (sym c.ungranted_in_block.ensures ∙ c.in-Some.is))
    ∙ c.loop-index.invariant
