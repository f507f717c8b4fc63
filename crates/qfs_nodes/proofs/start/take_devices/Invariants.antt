-- So many devices are those of servers by now.
use Rattle.std.proofs.Common.{◌≡◌, ◌+◌, ◌++◌, take, drop}
use Rattle.std.specs.Prelude.{map, vec_len, vec_capacity}
use Rattle.qfs_nodes.specs.Nodes.{stored_over}
use Rattle.qfs_nodes.specs.declared.node.NodeState.TheVariants as Node
use Rattle.qfs_nodes.proofs.start.take_devices.Given as goal

abbrev pub invariant-loop : goal.invariant-loop
invariant-loop g l = record {
  nodes : l.nodes.items ≡ l.initial.nodes.items ++ map Node.Store (map (stored_over g.D.ChunkDevice.told g.D.ChunkDevice.faults l.stripe) (take l.counter l.initial.devices.items));
  devices : l.devices.items ≡ drop l.counter l.initial.devices.items;
  kept : vec_capacity l.devices ≡ vec_capacity l.initial.devices;
  room : vec_capacity l.nodes ≡ vec_capacity l.initial.nodes;
  long : vec_len l.nodes ≡ vec_len l.initial.nodes + l.counter;
}
