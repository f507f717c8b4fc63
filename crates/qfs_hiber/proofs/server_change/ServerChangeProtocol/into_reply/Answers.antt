use Rattle.qfs_hiber.proofs.Turns.{has_ended}
use Rattle.qfs_hiber.proofs.server_change.ServerChangeProtocol.into_reply.Goals as goal

pub unreachable-requires : goal.unreachable-requires
unreachable-requires c = has_ended c.args.self.server c.args.self.stage c.requires c.in_default.not-Ended
