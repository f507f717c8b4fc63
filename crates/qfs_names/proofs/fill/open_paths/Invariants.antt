-- What the loop of `fill::open_paths` keeps.
use Rattle.std.proofs.Common.{◌≡◌, take}
use Rattle.qfs_names.specs.Names.{open_paths}
use Rattle.qfs_names.proofs.fill.open_paths.Given as goal

-- the unclosed files of the rows so far
abbrev pub invariant-loop-row : goal.invariant-loop-row
invariant-loop-row l = l.paths.items ≡ open_paths (take l.row-index l.rows)
