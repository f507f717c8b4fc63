-- What the loop of `images::entries_of` keeps.
use Rattle.std.proofs.Common.{◌≡◌, ◌++◌, map}
use Rattle.qfs_names.specs.Names.{entry_of}
use Rattle.qfs_names.proofs.images.entries_of.Given as goal

-- the entries so far and those that are left are all
abbrev pub invariant-loop-row : goal.invariant-loop-row
invariant-loop-row l = l.entries ++ map entry_of l.row-iterator ≡ map entry_of l.fn.rows
