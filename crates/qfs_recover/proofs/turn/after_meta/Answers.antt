use Rattle.std.proofs.Common.{◌∙◌, sym}
use Rattle.qfs_recover.specs.Rest.{report_of_recovery, rest_of_recovery}
use Rattle.qfs_recover.proofs.Turns.{meta_ends, meta_goes_on}
use Rattle.qfs_recover.proofs.turn.after_meta.Goals as goal

pub returns-in-Some-clause-rest : goal.returns-in-Some-clause-rest
unfolding rest_of_recovery report_of_recovery
returns-in-Some-clause-rest c =
    rw c.ended.ensures
    (meta_ends c.args.layout.now c.args.stage c.args.answer c.in-Some.ending c.requires.asks (sym c.of_meta.ensures ∙ c.in-Some.is))

pub returns-in-None-clause-rest : goal.returns-in-None-clause-rest
returns-in-None-clause-rest c =
    c.answered.ensures.rest
    ∙ meta_goes_on c.args.layout.now c.args.stage c.args.answer c.requires.asks (sym c.of_meta.ensures ∙ c.in-None.is)
