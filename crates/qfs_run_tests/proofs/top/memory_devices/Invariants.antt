-- The devices so far are new.
use Rattle.std.specs.Prelude.{All, Some}
use Rattle.qfs_device.specs.declared.memory_device.MapDevice.{MapDevice}
use Rattle.qfs_nodes.specs.Nodes.{IsNew}
use Rattle.qfs_run_tests.proofs.top.memory_devices.Given as goal

-- a device in memory that tells that it is new
abbrev pub IsFresh : {F : Type 0} → MapDevice F → Type 0
IsFresh made = IsNew (λ device. Some (record { contents = device.chunks; life = device.life; handed_out = device.handed_out })) made

abbrev pub invariant-loop-number : goal.invariant-loop-number
invariant-loop-number l = All IsFresh l.devices.items
