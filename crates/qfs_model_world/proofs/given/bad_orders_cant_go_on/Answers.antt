use Rattle.qfs_model_world.proofs.GivenOrders.{bad_there}
use Rattle.qfs_model_world.proofs.given.bad_orders_cant_go_on.Goals as goal

pub returns : goal.returns
returns c = bad_there
