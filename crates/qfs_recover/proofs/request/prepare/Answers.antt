use Rattle.qfs_recover.specs.Rest.{course_of, rest_of_recovery}
use Rattle.qfs_recover.proofs.request.prepare.Goals as goal
use Rattle.qfs_recover.proofs.request.prepare.Goals.{in-Asking+in_ok-request-in-Asking, in-Healing, in-Restoring+in_ok-request-in-Restoring, in-Starving+in_ok-request-in-Starving, in-Delivering}

pub returns-clause-request : goal.returns-clause-request
unfolding rest_of_recovery
returns-clause-request c =
    let layout = c.args.layout.now in
    elim c.match-stage.branch [
      | in-Asking+in_ok-request-in-Asking w ↦ rw (w.in-Asking.is, w.request-is) (w.in_ok-request-in-Asking.ensures.request layout)
      | in-Healing w ↦ rw (w.in-Healing.is, w.request-is) (w.heal_request-request.ensures.request layout)
      | in-Restoring+in_ok-request-in-Restoring w ↦
          rw (w.in-Restoring.is, w.request-is) (w.in_ok-request-in-Restoring.ensures.request (course_of layout w.in-Restoring.field-0))
      | in-Starving+in_ok-request-in-Starving w ↦
          rw (w.in-Starving.is, w.request-is) (w.in_ok-request-in-Starving.ensures.request (course_of layout w.in-Starving.field-0))
      | in-Delivering w ↦
          rw (w.in-Delivering.is, w.request-is) (w.request-request.ensures.request (course_of layout w.in-Delivering.field-0))
    ]
