-- The checks so far, and what a device tells and counts.
use Rattle.std.proofs.Common.{◌≡◌, Some, is_some}
use Rattle.qfs_device.specs.Held.{Held}
use Rattle.qfs_store.specs.Start.{Checked}
use Rattle.qfs_store.proofs.starting.copies_on.Given as goal

abbrev pub invariant-loop-chunk : goal.invariant-loop-chunk
invariant-loop-chunk g l =
    let told = g.D.ChunkDevice.told in
    let faults = g.D.ChunkDevice.faults in
    record {
      checks : (held : Held) → told l.initial.device ≡ Some held → Checked l.stripe held (told l.device) l.initial.copies l.copies l.initial.chunk-iterator.rest.now l.chunk-iterator.rest.now;
      tells : is_some (told l.device) ≡ is_some (told l.initial.device);
      counts : faults l.device ≡ faults l.initial.device;
    }
