-- What the loop of `images::rows_from` keeps.
use Rattle.std.proofs.Common.{◌≡◌, ◌++◌, map}
use Rattle.std.specs.Vec.Iter.{into_iter_items}
use Rattle.qfs_names.specs.Names.{row_of}
use Rattle.qfs_names.proofs.images.rows_from.Given as goal

-- the rows so far and those that are left are all
abbrev pub invariant-entries : goal.invariant-entries
invariant-entries l = l.rows.items ++ map row_of (into_iter_items l.entry-iterator) ≡ map row_of l.fn.entries.items
