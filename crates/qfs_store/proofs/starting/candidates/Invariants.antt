-- What noting the chunks that are left makes of the keys so far is what noting all makes.
use Rattle.std.proofs.Common.{◌≡◌, []}
use Rattle.std.specs.List.{fold}
use Rattle.qfs_store.specs.Start.{noting}
use Rattle.qfs_store.proofs.starting.candidates.Given as goal

abbrev pub invariant-loop-chunk : goal.invariant-loop-chunk
invariant-loop-chunk l = fold noting l.copies l.chunk-iterator.rest.now ≡ fold noting [] l.sizes
