use Rattle.qfs_writer.proofs.Nodes.{server-asked, meta-asked}
use Rattle.qfs_writer.proofs.Turns.{asks-meta}
use Rattle.qfs_writer.proofs.request.node_of.Goals as goal

pub returns-in-Storing : goal.returns-in-Storing
returns-in-Storing c = λ put. rw c.in-Storing.is (server-asked put c.in-Storing.field-0 c.in-Storing.copy)

pub returns-in_default : goal.returns-in_default
returns-in_default c =
    λ put. meta-asked put c.args.stage (asks-meta c.args.stage c.in_default.not-Storing c.in_default.not-Ended)
