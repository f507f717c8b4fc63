-- The devices so far are new.
use Rattle.std.specs.Prelude.{All}
use Rattle.qfs_nodes.specs.Nodes.{IsNew}
use Rattle.qfs.proofs.Devices.{told_by}
use Rattle.qfs.proofs.memory_devices.Given as goal

abbrev pub invariant-loop-server : goal.invariant-loop-server
invariant-loop-server l = All (IsNew told_by) l.devices.items
