use Rattle.std.proofs.Common.{◌++◌, List, take, drop, map, slice_range, refl, ap, sym, subst, ◌∙◌}
use Rattle.std.proofs.lemmas.List.{length-map}
use Rattle.std.proofs.lemmas.List.Edits.{length-between}
use Rattle.qfs_base.specs.declared.image.SlotRow.{SlotRow}
use Rattle.qfs_model_meta.specs.Slots.{seal_file, file_order, is_of_file, change_state, sealed_slot}
use Rattle.qfs_meta.specs.Loads.{loads_of}
use Rattle.qfs_meta.specs.Runs.{IsInOrder, IsRun}
use Rattle.qfs_meta.proofs.RunLaws.{replaces, part_of, change_part}
use Rattle.qfs_meta.proofs.SlotLaws.{by_file}
use Rattle.qfs_meta.proofs.closing.seal_file.Goals as goal

pub run_of-run-requires : goal.run_of-run-requires
run_of-run-requires c =
    subst (IsInOrder (file_order c.args.file)) (sym c.as_slice.ensures) (by_file c.args.file c.args.slots.now c.requires.order)

pub count-requires-clause-loads : goal.count-requires-clause-loads
count-requires-clause-loads c =
    let slots : List SlotRow = c.args.slots.now in
    let run = c.run_of-run.result in
    let is = subst (λ rows. IsRun (file_order c.args.file) rows run) c.as_slice.ensures c.run_of-run.ensures in
    let changed = c.as_slice-3.ensures ∙ c.change_run.ensures in
    let part = replaces run.start run.end slots c.as_slice-3.result.now (map (change_state sealed_slot) (slice_range slots run.start run.end)) is.rises is.within
    (length-map (slice_range slots run.start run.end) (change_state sealed_slot) ∙ length-between slots run.start run.end is.within) changed in
    c.uncount.ensures
    ∙ ap (λ rows. loads_of c.args.servers.now (take run.start rows ++ drop run.end rows)) c.as_slice-2.ensures
    ∙ (λ i. loads_of c.args.servers.now (sym part.front i ++ sym part.rest i))

pub returns-clause-slots : goal.returns-clause-slots
unfolding seal_file is_of_file
returns-clause-slots c =
    let slots : List SlotRow = c.args.slots.now in
    let run = c.run_of-run.result in
    let is = subst (λ rows. IsRun (file_order c.args.file) rows run) c.as_slice.ensures c.run_of-run.ensures in
    c.change_run.ensures
    ∙ sym (change_part (is_of_file c.args.file) (change_state sealed_slot) slots run (part_of (is_of_file c.args.file) (file_order c.args.file) slots run (λ row. refl) is))
