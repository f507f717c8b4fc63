use Rattle.qfs_laws_first.proofs.Fitting.{fitting-done}
use Rattle.qfs_laws_first.proofs.fitting_orders_are_of_one_actor.Goals as goal

pub returns : goal.returns
returns c = λ script commands order first_path. fitting-done script commands first_path order
