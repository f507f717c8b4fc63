use Rattle.std.specs.Prelude.{map, take}
use Rattle.qfs_world.proofs.world.counts_at_start.Given as goal

abbrev pub ghost-of : goal.ghost-of
ghost-of g a = map g.D.ChunkDevice.faults (take a.second.now.servers a.first.now.items)
