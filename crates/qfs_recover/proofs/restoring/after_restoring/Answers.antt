use Rattle.std.proofs.Common.{◌∙◌, sym}
use Rattle.qfs_model_actor.specs.Recover.{reading_for}
use Rattle.qfs_recover.specs.Rest.{behind_group, course_of, reading_in, rest_of_restoring}
use Rattle.qfs_recover.proofs.restoring.after_restoring.Goals as goal

pub returns-clause-rest : goal.returns-clause-rest
unfolding rest_of_restoring reading_for
returns-clause-rest c =
    let layout = c.args.layout.now in
    let course = course_of layout c.args.errand in
    let restoring = c.args.restoring in
    c.after_window.ensures.rest
    ∙ c.step_after-step.ensures.rest (reading_in layout course restoring.grant)
    (behind_group layout course restoring.grant restoring.group restoring.chunk.items) (sym c.stripe.ensures.value)
