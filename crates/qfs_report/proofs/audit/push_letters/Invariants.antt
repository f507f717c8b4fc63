-- The letters of the slots so far.
use Rattle.std.proofs.Common.{◌≡◌, ◌++◌, map, flat_map}
use Rattle.std.specs.List.{range_with_len}
use Rattle.qfs_base.specs.Mask.{has_slot}
use Rattle.qfs_model_text.specs.Audit.{audit_letter}
use Rattle.qfs_report.proofs.audit.push_letters.Given as goal

abbrev pub invariant-loop-slot : goal.invariant-loop-slot
invariant-loop-slot l =
    l.out.items ≡ l.initial.out.items
    ++ flat_map audit_letter (map (has_slot l.live) (range_with_len 0 l.slot))
