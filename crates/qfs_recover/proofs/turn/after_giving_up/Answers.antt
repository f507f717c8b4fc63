use Rattle.std.proofs.Common.{◌∙◌, sym}
use Rattle.qfs_recover.specs.Rest.{report_of_recovery, rest_of_recovery}
use Rattle.qfs_recover.proofs.Turns.{starving-ends, starving-goes_on}
use Rattle.qfs_recover.proofs.turn.after_giving_up.Goals as goal

pub returns-in-Some-clause-rest : goal.returns-in-Some-clause-rest
unfolding rest_of_recovery report_of_recovery
returns-in-Some-clause-rest c =
    rw c.ended.ensures
    (starving-ends c.args.layout.now c.args.errand c.args.grant.now c.args.sources.now c.args.answer.now c.in-Some.ending (sym c.of_meta.ensures ∙ c.in-Some.is))

pub returns-in-None-clause-rest : goal.returns-in-None-clause-rest
returns-in-None-clause-rest c =
    c.given_up.ensures.rest
    ∙ starving-goes_on c.args.layout.now c.args.errand c.args.grant.now c.args.sources.now c.args.answer.now (sym c.of_meta.ensures ∙ c.in-None.is)
