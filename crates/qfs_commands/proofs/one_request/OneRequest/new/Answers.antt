use Rattle.qfs_commands.proofs.Asked.{starts}
use Rattle.qfs_commands.proofs.one_request.OneRequest.new.Goals as goal

pub returns : goal.returns
returns c = λ rules number. starts c.args.command rules number
