use Rattle.std.proofs.Common.{[]}
use Rattle.qfs_reader.proofs.read_so_far.ReadSoFar.nothing.Given as goal

abbrev pub ghost-of : goal.ghost-of
ghost-of a = []
