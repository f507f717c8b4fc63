use Rattle.qfs_writer.proofs.Puts.{grant-asks}
use Rattle.qfs_writer.proofs.request.grant_request.Goals as goal

pub returns-clause-request : goal.returns-clause-request
returns-clause-request c = λ put. grant-asks put c.args.at
