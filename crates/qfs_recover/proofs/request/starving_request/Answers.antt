use Rattle.std.proofs.Common.{◌∙◌}
use Rattle.qfs_machine.specs.declared.ending.Ending.TheVariants as By
use Rattle.qfs_recover.proofs.Turns.{starving-same}
use Rattle.qfs_recover.proofs.request.starving_request.Goals as goal
use Rattle.qfs_repair.specs.declared.delivery.After.TheVariants as Then

pub returns-clause-request : goal.returns-clause-request
returns-clause-request c = λ course.
    starving-same course c.args.starving.now.grant c.args.starving.now.sources (Then.Ended By.NoMemory)
    ∙ c.abandon_request.ensures.request course (Then.Ended By.NoMemory)
