-- What the answer of a disk makes of a load.
use Rattle.qfs_device.specs.declared.errors.DeviceError.{DeviceError}
use Rattle.qfs_device.specs.declared.errors.DeviceError.TheVariants.{Failed, NoMemory}
use Rattle.qfs_checkpoint.specs.declared.errors.LoadError.{LoadError}
use Rattle.qfs_checkpoint.specs.declared.errors.LoadError.TheVariants as Refusal

abbrev pub of_device : DeviceError → LoadError
of_device Failed = Refusal.Fault
of_device NoMemory = Refusal.NoMemory
