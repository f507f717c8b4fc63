use Rattle.qfs_reader.specs.Rest.{rest_of_get}
use Rattle.qfs_reader.proofs.Asked.{position-node}
use Rattle.qfs_reader.proofs.request.node_of.Goals as goal

pub returns-in-Reading : goal.returns-in-Reading
unfolding rest_of_get
returns-in-Reading c = let at = rw c.in-Reading.is at c.requires in rw c.in-Reading.is (position-node c.args.get.now _ _ at.readable)
