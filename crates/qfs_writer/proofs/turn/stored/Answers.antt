use Rattle.qfs_writer.specs.Rest.{rest_of_put, rest_of_grant, rest_behind}
use Rattle.qfs_writer.proofs.Puts.{behind_store-failed}
use Rattle.qfs_writer.proofs.turn.stored.Goals as goal

pub returns-in-Down-clause-rest : goal.returns-in-Down-clause-rest
unfolding rest_of_put rest_of_grant rest_behind
returns-in-Down-clause-rest c =
    rw c.grant_again.ensures (behind_store-failed c.args.put.now c.args.at c.args.answer.now c.in-Down.is)
