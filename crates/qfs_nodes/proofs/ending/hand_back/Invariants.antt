-- The chunk servers that are left, and the devices of the others.
use Rattle.std.proofs.Common.{◌≡◌, ◌+◌, ◌≤◌, length}
use Rattle.std.specs.Prelude.{vec_len, vec_capacity}
use Rattle.qfs_nodes.specs.Nodes.{image_of, stores_of, StartsWithMeta}
use Rattle.qfs_nodes.proofs.Home.{GivenBack}
use Rattle.qfs_nodes.proofs.ending.hand_back.Given as goal

abbrev pub invariant-loop-node : goal.invariant-loop-node
invariant-loop-node g l = record {
  meta_first : StartsWithMeta l.nodes.items;
  image : image_of l.nodes.items ≡ image_of l.initial.nodes.items;
  room : length (stores_of l.nodes.items) + length l.devices.items ≤ vec_capacity l.devices;
  given : GivenBack g.D.ChunkDevice.told g.D.ChunkDevice.faults (stores_of l.initial.nodes.items) (stores_of l.nodes.items) l.initial.devices.items l.devices.items;
}

abbrev pub decreases-loop-node : goal.decreases-loop-node
decreases-loop-node g l = vec_len l.nodes
