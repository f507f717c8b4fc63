use Rattle.std.proofs.Common.{◌≡◌, [], drop}
use Rattle.qfs_image.specs.Files.{with_files}
use Rattle.qfs_image.proofs.files.files_of.Given as goal

abbrev pub invariant-loop-row : goal.invariant-loop-row
invariant-loop-row l = with_files l.files (drop l.row-index l.tree) ≡ with_files [] l.tree
