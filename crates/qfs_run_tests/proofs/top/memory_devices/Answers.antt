-- One new device more.
use Rattle.std.proofs.lemmas.List.Elements.{All-push}
use Rattle.qfs_run_tests.proofs.top.memory_devices.Invariants.{IsFresh}
use Rattle.qfs_run_tests.proofs.top.memory_devices.Goals as goal

pub loop-number-preserved : goal.loop-number-preserved
loop-number-preserved c =
    rw c.in_ok-push.ensures.items
    (All-push IsFresh c.loop-number.devices.items c.device.result c.loop-number.invariant c.device.ensures)
