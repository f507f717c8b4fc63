use Rattle.std.proofs.Common.{◌++◌}
use Rattle.qfs_reader.proofs.read_so_far.ReadSoFar.add.Given as goal

abbrev pub ghost-of : goal.ghost-of
ghost-of a = a.first.now.value ++ a.second.now.now
