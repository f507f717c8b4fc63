use Rattle.std.proofs.Common.{refl}
use Rattle.qfs_model_actor.specs.Ask.{ask}
use Rattle.qfs_model_actor.specs.Hold.{ask_or}
use Rattle.qfs_model_actor.specs.Move.{count_left, evacuate_work, rebalance_on}
use Rattle.qfs_model_actor.specs.Work.{request_in}
use Rattle.qfs_move.specs.Rest.{course_of, rest_of_move}
use Rattle.qfs_move.proofs.request.prepare.Goals as goal
use Rattle.qfs_move.proofs.request.prepare.Goals.{in-Asking+in_ok-request-in-Asking, in-Balancing, in-Leaving, in-Evacuating, in-Counting, in-Copying+in_ok-request-in-Copying, in-Delivering}

pub returns-clause-request : goal.returns-clause-request
unfolding rest_of_move rebalance_on evacuate_work count_left ask ask_or request_in
returns-clause-request c =
    let layout = c.args.layout.now in
    elim c.match-stage.branch [
      | in-Asking+in_ok-request-in-Asking w ↦ rw (w.in-Asking.is, w.request-is) (w.in_ok-request-in-Asking.ensures.request layout)
      | in-Balancing w ↦ rw (w.in-Balancing.is, w.request-is) refl
      | in-Leaving w ↦ rw (w.in-Leaving.is, w.request-is) refl
      | in-Evacuating w ↦ rw (w.in-Evacuating.is, w.request-is) (w.evac_request-request.ensures.request layout)
      | in-Counting w ↦ rw (w.in-Counting.is, w.request-is) refl
      | in-Copying+in_ok-request-in-Copying w ↦
          rw (w.in-Copying.is, w.request-is)
          (w.in_ok-request-in-Copying.ensures.request (course_of layout w.in-Copying.field-0 w.in-Copying.copying.source))
      | in-Delivering w ↦
          rw (w.in-Delivering.is, w.request-is)
          (w.request-request.ensures.request (course_of layout w.in-Delivering.field-0 w.in-Delivering.field-1))
    ]
