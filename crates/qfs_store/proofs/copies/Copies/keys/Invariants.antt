-- The keys so far and those of the entries that are left are the keys of all.
use Rattle.std.proofs.Common.{◌≡◌, ◌++◌}
use Rattle.std.specs.Map.{keys_of}
use Rattle.qfs_store.proofs.copies.Copies.keys.Given as goal

abbrev pub invariant-loop-key : goal.invariant-loop-key
invariant-loop-key l = l.keys ++ keys_of l.key-iterator ≡ keys_of l.self
