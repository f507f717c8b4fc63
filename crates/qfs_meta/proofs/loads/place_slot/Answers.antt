use Rattle.std.proofs.Common.{◌≤◌, ◌∙◌, ◌++◌, length, take, drop, ap, sym, subst}
use Rattle.qfs_model_meta.specs.Slots.{slot_cmp}
use Rattle.qfs_meta.specs.Loads.{loads_of}
use Rattle.qfs_meta.specs.Runs.{IsInOrder}
use Rattle.qfs_laws_slots.specs.Slots.{slot_cmp_total}
use Rattle.qfs_meta.proofs.RunLaws.{by_row, insert_apart}
use Rattle.qfs_meta.proofs.loads.place_slot.Goals as goal

pub search-requires : goal.search-requires
search-requires c = subst (IsInOrder (slot_cmp c.args.row)) (sym c.as_slice.ensures) (by_row slot_cmp_total c.args.row c.args.slots.now c.requires.order)

pub count-requires-in-Err-clause-loads : goal.count-requires-in-Err-clause-loads
count-requires-in-Err-clause-loads c =
    let longer = c.as_slice-in-Err.ensures ∙ c.in_ok-insert-in-Err.ensures.ok in
    let within = subst (λ rows. c.in-Err.at ≤ length rows) c.as_slice.ensures c.in-Err.ensures.absent.0 in
    let run = c.one-in-Err.ensures in
    c.requires.loads
    ∙ ap (loads_of c.args.servers.now) (sym (insert_apart c.args.slots.now c.in-Err.at c.args.row within))
    ∙ (λ i. loads_of c.args.servers.now (take (sym run i).start (sym longer i) ++ drop (sym run i).end (sym longer i)))
