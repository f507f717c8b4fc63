-- Devices in memory, as they are made.
use Rattle.std.proofs.Common.{◌≡◌, Option, Some, sym, ◌∙◌}
use Rattle.qfs_device.specs.Held.{Held, new_device}
use Rattle.qfs_device.specs.declared.memory_device.MapDevice.{MapDevice}
use Rattle.qfs_nodes.specs.Nodes.{IsNew}

-- what a device in memory tells that it holds
abbrev pub told_by : {F : Type 0} → MapDevice F → Option Held
told_by device = Some (record { contents = device.chunks; life = device.life; handed_out = device.handed_out })

some_is : {a b : Held} → Some a ≡ Some b → a ≡ b
some_is is = cc

-- a device that tells that it is new is new
pub is_new : {F : Type 0} (device : MapDevice F) → told_by device ≡ Some new_device → IsNew told_by device
is_new device told = λ held is. some_is (sym is ∙ told)
