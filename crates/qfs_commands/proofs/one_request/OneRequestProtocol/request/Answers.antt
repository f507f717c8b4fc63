use Rattle.std.proofs.Common.{subst, sym}
use Rattle.qfs_commands.specs.Simple.{IsSimpleRequest}
use Rattle.qfs_commands.proofs.Asked.{is_simple}
use Rattle.qfs_commands.proofs.one_request.OneRequestProtocol.request.Goals as goal

pub returns-in_ok-request-in-Asking-clause-askable : goal.returns-in_ok-request-in-Asking-clause-askable
returns-in_ok-request-in-Asking-clause-askable c =
    subst IsSimpleRequest (sym c.in_ok-request-in-Asking.ensures) (is_simple c.args.self.now.command)
