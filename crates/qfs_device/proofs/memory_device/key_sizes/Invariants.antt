-- The sizes so far and those of the entries that are left are the sizes of all.
use Rattle.std.proofs.Common.{◌≡◌, ◌++◌}
use Rattle.qfs_device.specs.Held.{sizes_of}
use Rattle.qfs_device.proofs.memory_device.key_sizes.Given as goal

abbrev pub invariant-loop-key : goal.invariant-loop-key
invariant-loop-key l = l.sizes ++ sizes_of l.key-iterator ≡ sizes_of l.chunks
