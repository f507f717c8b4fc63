-- What the loop of `files::Files::put_all` keeps.
use Rattle.std.proofs.Common.{◌≡◌}
use Rattle.std.specs.Vec.Iter.{into_iter_items}
use Rattle.qfs_base.specs.NameTree.{row_cmp}
use Rattle.qfs_base.specs.Table.{place_all}
use Rattle.qfs_files.specs.Rows.{row_names}
use Rattle.qfs_files.proofs.files.Files.put_all.Given as goal

-- what is left goes where all was to go
abbrev pub invariant-loop-row : goal.invariant-loop-row
invariant-loop-row l =
    place_all (row_cmp row_names) (into_iter_items l.row-iterator) l.self
    ≡ place_all (row_cmp row_names) l.fn.rows.items l.fn.self
