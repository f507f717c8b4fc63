use Rattle.qfs_model_world.proofs.GivenOrders.{first_there}
use Rattle.qfs_model_world.proofs.given.orders_are_bad_at_one_place.Goals as goal

pub returns : goal.returns
returns c = first_there
