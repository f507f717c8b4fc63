use Rattle.std.proofs.Common.{◌∙◌, sym}
use Rattle.qfs_hiber.specs.Rest.{rest_of_change, report_of_change}
use Rattle.qfs_hiber.proofs.Turns.{meta_ends, meta_goes_on}
use Rattle.qfs_hiber.proofs.turn.after_meta.Goals as goal

pub returns-in-Some : goal.returns-in-Some
unfolding rest_of_change report_of_change
returns-in-Some c =
    rw c.ended.ensures
    (meta_ends c.args.server c.args.stage.now c.args.answer.now c.in-Some.ending c.requires (sym c.of_meta.ensures ∙ c.in-Some.is))

pub returns-in-None : goal.returns-in-None
returns-in-None c =
    c.answered.ensures
    ∙ meta_goes_on c.args.server c.args.stage.now c.args.answer.now c.requires (sym c.of_meta.ensures ∙ c.in-None.is)
