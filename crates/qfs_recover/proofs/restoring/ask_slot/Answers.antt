use Rattle.std.proofs.Common.{refl, sym}
use Rattle.qfs_model_actor.specs.Recover.{reading_for}
use Rattle.qfs_recover.specs.Rest.{behind_group, reading_in, rest_of_restoring}
use Rattle.qfs_recover.proofs.Groups.{fetch-asked}
use Rattle.qfs_recover.proofs.restoring.ask_slot.Goals as goal

pub returns-clause-request : goal.returns-clause-request
unfolding rest_of_restoring reading_for
returns-clause-request c = λ course.
    let layout = c.args.layout.now in
    let restoring = c.args.restoring.now in
    c.in_ok-request.ensures.request (reading_in layout course restoring.grant)
    (behind_group layout course restoring.grant restoring.group restoring.chunk.items) (sym c.stripe.ensures.value) refl

pub returns-clause-askable : goal.returns-clause-askable
returns-clause-askable c = fetch-asked c.in_ok-request.request c.in_ok-request.ensures.askable
