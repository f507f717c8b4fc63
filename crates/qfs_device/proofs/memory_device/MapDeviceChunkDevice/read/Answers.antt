-- The device tells what it holds, so the caller knows that the range lies in the key's bytes.
use Rattle.std.proofs.Common.{refl}
use Rattle.qfs_device.specs.Held.{LiesIn}
use Rattle.qfs_device.proofs.memory_device.MapDeviceChunkDevice.read.Goals as goal

pub bytes_under-requires : goal.bytes_under-requires
bytes_under-requires g c = let lies : LiesIn _ _ _ _ = c.requires _ refl in lies.there

pub copy_part-requires : goal.copy_part-requires
copy_part-requires g c = let lies : LiesIn _ _ _ _ = c.requires _ refl in rw c.bytes_under.ensures at lies.inside
