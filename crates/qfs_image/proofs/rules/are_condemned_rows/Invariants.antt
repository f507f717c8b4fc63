use Rattle.std.proofs.Common.{◌≡◌, true, take}
use Rattle.std.specs.List.{list_all}
use Rattle.qfs_image.specs.Rules.{bears_condemned_row}
use Rattle.qfs_image.proofs.rules.are_condemned_rows.Given as goal

abbrev pub invariant-loop-row : goal.invariant-loop-row
invariant-loop-row l = list_all (bears_condemned_row l.servers l.next l.blocking) (take l.row-index l.rows) ≡ true
