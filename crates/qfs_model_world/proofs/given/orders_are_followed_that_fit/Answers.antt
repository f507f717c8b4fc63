use Rattle.qfs_model_world.proofs.GivenOrders.{followed}
use Rattle.qfs_model_world.proofs.given.orders_are_followed_that_fit.Goals as goal

pub returns : goal.returns
returns c = followed
