use Rattle.std.proofs.Common.{refl}
use Rattle.qfs_model_actor.specs.Hold.{end_with}
use Rattle.qfs_model_actor.specs.Recover.{reading_for}
use Rattle.qfs_recover.specs.Rest.{rest_of_recovery, rest_of_restoring, rest_of_starving}
use Rattle.qfs_recover.proofs.restoring.after_window.Goals as goal
use Rattle.qfs_repair.specs.Deliveries.{rest_of_after, rest_of_delivery}
use Rattle.qfs_window.specs.WindowReads.{rest_of_step}

pub returns-in-Goes-clause-rest : goal.returns-in-Goes-clause-rest
unfolding rest_of_recovery rest_of_restoring rest_of_step
returns-in-Goes-clause-rest c = rw c.in-Goes.is refl

pub returns-in-Six-clause-rest : goal.returns-in-Six-clause-rest
unfolding rest_of_step reading_for
returns-in-Six-clause-rest c = rw c.in-Six.is c.six_read.ensures.rest

pub returns-in-TooFew-clause-rest : goal.returns-in-TooFew-clause-rest
unfolding rest_of_recovery rest_of_step rest_of_starving reading_for
returns-in-TooFew-clause-rest c = rw (c.starve.ensures, c.in-TooFew.is) refl

pub returns-in-GivesUp-clause-rest : goal.returns-in-GivesUp-clause-rest
unfolding rest_of_recovery rest_of_step rest_of_delivery rest_of_after end_with reading_for
returns-in-GivesUp-clause-rest c = rw c.in-GivesUp.is refl
