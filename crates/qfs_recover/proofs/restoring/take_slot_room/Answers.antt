use Rattle.std.proofs.Common.{sym}
use Rattle.qfs_model_actor.specs.Recover.{reading_for}
use Rattle.qfs_recover.specs.Rest.{behind_group, reading_in, rest_of_restoring}
use Rattle.qfs_recover.proofs.restoring.take_slot_room.Goals as goal

pub returns-clause-rest : goal.returns-clause-rest
unfolding rest_of_restoring reading_for
returns-clause-rest c = λ course.
    let layout = c.args.layout.now in
    let restoring = c.args.restoring.now in
    c.make_room.ensures.rest (reading_in layout course restoring.grant)
    (behind_group layout course restoring.grant restoring.group restoring.chunk.items) (sym c.stripe.ensures.value)
