use Rattle.std.proofs.Common.{◌≡◌, ◌++◌}
use Rattle.std.specs.Prelude.{flat_map}
use Rattle.qfs_model_disks.specs.Values.{from_one}
use Rattle.qfs_spelling.proofs.sets.put_servers.Given as goal

abbrev pub invariant-loop-server : goal.invariant-loop-server
invariant-loop-server l = record {
  text : l.out.items ≡ l.initial.out.items ++ flat_map from_one.text l.yielded;
  left : l.yielded ++ l.server-iterator ≡ l.fn.set;
}
