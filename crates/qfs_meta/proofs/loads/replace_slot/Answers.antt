use Rattle.std.proofs.Common.{◌∙◌, is_some, true≢false, filter, ap, sym, subst}
use Rattle.qfs_base.specs.Table.{has_key}
use Rattle.qfs_model_meta.specs.Slots.{slot_cmp}
use Rattle.qfs_meta.specs.Runs.{IsInOrder}
use Rattle.qfs_laws_slots.specs.Slots.{slot_cmp_total}
use Rattle.qfs_meta.proofs.RunLaws.{by_row}
use Rattle.qfs_meta.proofs.SlotLaws.{unknown_slot}
use Rattle.qfs_meta.proofs.loads.replace_slot.Goals as goal

pub search-requires : goal.search-requires
search-requires c = subst (IsInOrder (slot_cmp c.args.row)) (sym c.as_slice.ensures) (by_row slot_cmp_total c.args.row c.args.slots.now c.requires.order)

pub unreachable-requires : goal.unreachable-requires
unreachable-requires c =
    let none = ap (filter (has_key (slot_cmp c.args.row))) (sym c.as_slice.ensures) ∙ c.in-Err.ensures.none in
    true≢false (sym (sym (ap is_some (unknown_slot c.args.row c.args.slots.now none)) ∙ c.requires.pending))
