-- One new device more.
use Rattle.std.proofs.lemmas.List.Elements.{All-push}
use Rattle.qfs_nodes.specs.Nodes.{IsNew}
use Rattle.qfs.proofs.Devices.{told_by, is_new}
use Rattle.qfs.proofs.memory_devices.Goals as goal

pub loop-server-preserved : goal.loop-server-preserved
loop-server-preserved c =
    rw c.in_ok-push.ensures.items
    (All-push (IsNew told_by) c.loop-server.devices.items c.new.result c.loop-server.invariant (is_new c.new.result c.new.ensures.told))
