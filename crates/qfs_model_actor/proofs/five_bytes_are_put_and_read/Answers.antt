use Rattle.std.proofs.Common.{refl}
use Rattle.qfs_model_actor.proofs.OnLiterals.{work_on_literals}
use Rattle.qfs_model_actor.proofs.five_bytes_are_put_and_read.Goals as goal

pub returns-clause-put_and_read : goal.returns-clause-put_and_read
unfolding work_on_literals
returns-clause-put_and_read c =
    record { put_goes = record { requests = refl; end = refl }; get_goes = record { requests = refl; end = refl } }

pub returns-clause-degraded : goal.returns-clause-degraded
unfolding work_on_literals
returns-clause-degraded c = record { requests = refl; end = refl }

pub returns-clause-too_few : goal.returns-clause-too_few
unfolding work_on_literals
returns-clause-too_few c = record { requests = refl; end = refl }

pub returns-clause-second : goal.returns-clause-second
unfolding work_on_literals
returns-clause-second c =
    record { reads = record { requests = refl; end = refl }; is_refused = record { requests = refl; end = refl } }

pub returns-clause-actor : goal.returns-clause-actor
unfolding work_on_literals
returns-clause-actor c = refl
