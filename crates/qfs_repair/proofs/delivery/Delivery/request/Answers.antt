use Rattle.qfs_repair.proofs.delivery.Delivery.request.Goals as goal

pub returns-in-Storing-clause-request : goal.returns-in-Storing-clause-request
returns-in-Storing-clause-request c = λ course. rw c.in-Storing.is (c.store_request.ensures.request course)

pub returns-in-Confirming-clause-request : goal.returns-in-Confirming-clause-request
returns-in-Confirming-clause-request c = λ course. rw c.in-Confirming.is (c.confirm_request.ensures.request course)

pub returns-in-Abandoning-clause-request : goal.returns-in-Abandoning-clause-request
returns-in-Abandoning-clause-request c =
    λ course. rw c.in-Abandoning.is (c.abandon_request.ensures.request course c.in-Abandoning.field-1)
