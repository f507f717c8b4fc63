-- The keys of the sizes are those of the map, which rise.
use Rattle.std.proofs.Common.{◌≡◌, arith}
use Rattle.std.proofs.lemmas.Grind.{common_steps}
use Rattle.qfs_device.proofs.Sizes.{keys-sizes_of}
use Rattle.qfs_device.specs.Held.{sizes_of}
use Rattle.qfs_device.proofs.memory_device.key_sizes.Goals as goal

pub returns-clause-rising : goal.returns-clause-rising
returns-clause-rising c =
    let whole : c.loop-key.sizes ≡ sizes_of c.args.chunks.now = grind (arith, common_steps) in
    rw (whole, keys-sizes_of c.args.chunks.now) c.iter-key-items.ensures.rising
