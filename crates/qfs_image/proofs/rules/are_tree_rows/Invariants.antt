use Rattle.std.proofs.Common.{◌≡◌, true, take}
use Rattle.std.specs.List.{list_all}
use Rattle.qfs_image.specs.Rules.{bears_tree_row}
use Rattle.qfs_image.proofs.rules.are_tree_rows.Given as goal

abbrev pub invariant-loop-row : goal.invariant-loop-row
invariant-loop-row l = list_all (bears_tree_row l.next_file) (take l.row-index l.tree) ≡ true
