use Rattle.std.proofs.Common.{◌≡◌, true, take}
use Rattle.std.specs.List.{list_all}
use Rattle.qfs_image.specs.Rules.{bears_slot}
use Rattle.qfs_image.proofs.rules.are_slot_rows.Given as goal

abbrev pub invariant-loop-row : goal.invariant-loop-row
invariant-loop-row l = list_all (bears_slot l.servers l.next_lease l.files) (take l.row-index l.slots) ≡ true
