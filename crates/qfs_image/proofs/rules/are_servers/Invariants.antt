use Rattle.std.proofs.Common.{◌≡◌, true, ◌++◌}
use Rattle.qfs_image.specs.Rules.{on_servers}
use Rattle.qfs_image.proofs.rules.are_servers.Given as goal

abbrev pub invariant-loop-server : goal.invariant-loop-server
invariant-loop-server l = record {
  there : on_servers l.servers l.yielded ≡ true;
  left : l.yielded ++ l.server-iterator ≡ l.fn.failed;
}
